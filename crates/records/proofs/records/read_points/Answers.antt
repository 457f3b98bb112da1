use mathlib.Core.Path.{sym, ◌∙◌}
use native.Mathlib.Omega.{arith}
use Rattle.records.specs.Laws.Records.{counted_fits}
use Rattle.records.proofs.Cases.{some_told, points-is, points-not, points_role}
use Rattle.records.proofs.records.read_points.Goals as goal

pub returns-in_default : goal.returns-in_default
returns-in_default c = points-not _ (sym c.count_at.ensures ∙ c.in_default.is)

pub byte-role-requires : goal.byte-role-requires
byte-role-requires c = (omega arith, omega (arith, counted_fits _ 2 16 (some_told _ _ _ (sym c.count_at.ensures ∙ c.in-Some.is)).0))

pub returns-then-role : goal.returns-then-role
returns-then-role c = points_role _ (omega arith)

pub returns : goal.returns
returns c = points-is _ (sym c.count_at.ensures ∙ c.in-Some.is) c.byte-role.ensures (omega arith) c.from.ensures
