use Rattle.std.proofs.lemmas.Result.{err_from_is_err_and}
use Rattle.convert.specs.Laws.Loops.{all_items, one-item, item-stops}
use Rattle.convert.proofs.items.draw_items.Goals as goal

pub returns-in_err-state : goal.returns-in_err-state
returns-in_err-state c =
    let failed = err_from_is_err_and c.from_residual.result c.from_residual.ensures.1 in
    rw (failed.1, failed.2) (item-stops _ _ _ c.loop-it.invariant c.in-Ok.it c.in-Ok.ensures.p_value (rw c.number.ensures at c.entry_of-entry.ensures) _ c.in_err-state.ensures)

pub loop-it-preserved : goal.loop-it-preserved
loop-it-preserved c =
    one-item _ _ _ c.loop-it.invariant c.in-Ok.it c.in-Ok.ensures.p_value (rw c.number.ensures at c.entry_of-entry.ensures) c.in-Ok.ensures.within.more c.in_ok-state.ensures

pub returns : goal.returns
returns c = all_items _ _ _ c.loop-it.invariant c.in_default.ensures.p_value
