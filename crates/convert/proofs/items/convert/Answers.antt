use Rattle.std.proofs.lemmas.Result.{err_from_is_err_and}
use Rattle.strokes.specs.Laws.Applying.{applied_stop, applied_refused}
use Rattle.convert.specs.Convert.{convert_of, spent_of}
use Rattle.convert.specs.Laws.Loops.{all_within, all-spent}
use Rattle.convert.proofs.items.convert.Goals as goal

pub returns-in_err-st : goal.returns-in_err-st
returns-in_err-st c =
    let failed = err_from_is_err_and c.from_residual.result c.from_residual.ensures.1 in
    rw (failed.1, failed.2, c.in_err-st.was) (applied_refused _ _)

pub draw_items-requires : goal.draw_items-requires
draw_items-requires c = let pre = c.requires in (pre.0, rw c.in_ok-st.was at pre.1, pre.2)

pub returns-in_err-r : goal.returns-in_err-r
unfolding convert_of
returns-in_err-r c =
    let failed = err_from_is_err_and c.from_residual-in_err-r.result c.from_residual-in_err-r.ensures.1 in
    rw (failed.1, failed.2, c.in_ok-st.was) (applied_stop _ spent_of c.in_err-r.ensures)

pub returns-then-not-r : goal.returns-then-not-r
returns-then-not-r c = rw c.in_ok-st.was (all_within _ _ _ _ c.in_ok-r.ensures c.if-not-r.true)

pub returns : goal.returns
returns c = rw c.in_ok-st.was (all-spent _ _ _ _ c.in_ok-r.ensures c.if-not-r.false (c.warn.ensures _ _ _ c.in_ok-r.ensures.fits))
