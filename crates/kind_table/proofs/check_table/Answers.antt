use mathlib.Core.Path.{sym, ◌∙◌}
use Rattle.kind_table.specs.Laws.KindTable.{other_length, entry_above, block-drawn, is_usable}
use Rattle.kind_table.proofs.check_table.Goals as goal
use Rattle.kind_table.proofs.check_table.Goals.{then-kinds-ne-KINDS-via-then-kinds-ne-KINDS, then-kinds-ne-KINDS-via-else-kinds-ne-KINDS+then-is_any_above, then-kinds-ne-KINDS-via-else-kinds-ne-KINDS+else-is_any_above+then-entry_of-ne-NOT_DRAWN}

pub returns-then-kinds-ne-KINDS : goal.returns-then-kinds-ne-KINDS
returns-then-kinds-ne-KINDS c = elim c.then-kinds-ne-KINDS.branch [
  | then-kinds-ne-KINDS-via-then-kinds-ne-KINDS w ↦ other_length _ w.if-kinds-ne-KINDS.true
  | then-kinds-ne-KINDS-via-else-kinds-ne-KINDS+then-is_any_above w ↦ entry_above _ w.if-kinds-ne-KINDS.false (sym w.is_any_above.ensures ∙ w.if-is_any_above.true)
  | then-kinds-ne-KINDS-via-else-kinds-ne-KINDS+else-is_any_above+then-entry_of-ne-NOT_DRAWN w ↦ block-drawn _ w.if-kinds-ne-KINDS.false (sym w.is_any_above.ensures ∙ w.if-is_any_above.false) (λ e. w.if-entry_of-ne-NOT_DRAWN.true (w.entry_of.ensures ∙ e))
]

pub returns : goal.returns
returns c = is_usable _ c.if-kinds-ne-KINDS.false (sym c.is_any_above.ensures ∙ c.if-is_any_above.false) (sym c.entry_of.ensures ∙ c.if-entry_of-ne-NOT_DRAWN.false)
