use Rattle.std.proofs.lemmas.Result.{err_from_is_err_and}
use mathlib.Core.Path.{sym, ◌∙◌}
use Rattle.records.proofs.RefusalNumbers.{by_blocks, by_layout, by_limits, by_values, one_block}
use Rattle.records.proofs.refusals.check_stream.Goals as goal

pub returns-in_err-check_blocks : goal.returns-in_err-check_blocks
returns-in_err-check_blocks c = let p = err_from_is_err_and c.from_residual.result c.from_residual.ensures.1 in
    rw (p.1, p.2) (by_blocks _ c.in_err-check_blocks.ensures)

pub returns-then-not-layout : goal.returns-then-not-layout
returns-then-not-layout c = by_layout _ c.in_ok-check_blocks.ensures (sym c.layout.ensures ∙ c.if-not-layout.true)

pub returns-then-not-limits : goal.returns-then-not-limits
returns-then-not-limits c = by_limits _ c.in_ok-check_blocks.ensures (sym c.layout.ensures ∙ c.if-not-layout.false) (sym c.limits.ensures ∙ c.if-not-limits.true)

pub check_values-requires : goal.check_values-requires
check_values-requires c = one_block _ c.in_ok-check_blocks.ensures

pub returns : goal.returns
returns c =
    c.check_values.ensures
    ∙ by_values _ c.in_ok-check_blocks.ensures (sym c.layout.ensures ∙ c.if-not-layout.false) (sym c.limits.ensures ∙ c.if-not-limits.false)
