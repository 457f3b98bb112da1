use mathlib.Core.Path.{sym, ◌∙◌}
use Rattle.records.proofs.Cases.{feature-is, feature-not}
use Rattle.records.proofs.records.read_feature.Goals as goal

pub returns-in-None : goal.returns-in-None
returns-in-None c = feature-not _ (sym c.name_then.ensures ∙ c.in-None.is)

pub returns-in-Some : goal.returns-in-Some
returns-in-Some c = feature-is _ (sym c.name_then.ensures ∙ c.in-Some.is) c.from.ensures
