use mathlib.Core.Path.{◌∙◌, sym}
use Rattle.records.proofs.Cases.{end_is, end_not}
use Rattle.records.proofs.records.read_end.Goals as goal

pub returns-then-zeros : goal.returns-then-zeros
returns-then-zeros c = end_is _ (sym c.zeros.ensures ∙ c.if-zeros.true)

pub returns-else-zeros : goal.returns-else-zeros
returns-else-zeros c = end_not _ (sym c.zeros.ensures ∙ c.if-zeros.false)
