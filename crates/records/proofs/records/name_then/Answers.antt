use mathlib.Core.Path.{sym, ◌∙◌}
use native.Mathlib.Omega.{arith}
use Rattle.records.specs.Laws.Records.{name}
use Rattle.records.proofs.Cases.{then_is, then_nameless}
use Rattle.records.proofs.records.name_then.Goals as goal

pub returns-then-not-is_name : goal.returns-then-not-is_name
returns-then-not-is_name c = then_nameless _ _ (sym c.is_name.ensures ∙ c.if-not-is_name.true)

pub byte-name-requires : goal.byte-name-requires
byte-name-requires c = (omega arith, omega (arith, (name _ 1 (sym c.is_name.ensures ∙ c.if-not-is_name.false)).fits))

pub returns : goal.returns
returns c = c.then_some.ensures ∙ then_is _ _ (sym c.is_name.ensures ∙ c.if-not-is_name.false) c.byte-name.ensures c.from.ensures c.remaining.ensures
