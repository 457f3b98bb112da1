use mathlib.Core.Path.{sym, ◌∙◌}
use native.Mathlib.Omega.{arith}
use Rattle.records.specs.Laws.Records.{then_fits}
use Rattle.records.proofs.Cases.{some_told, place_is, place_nested, place-not}
use Rattle.records.proofs.records.read_place.Goals as goal

pub returns-in_default : goal.returns-in_default
returns-in_default c = place-not _ (sym c.name_then.ensures ∙ c.in_default.is)

pub byte-requires : goal.byte-requires
byte-requires c =
    let read = sym c.name_then.ensures ∙ c.in-Some.is in
    (omega arith, omega (arith, then_fits _ 25 (some_told _ _ _ read).0, (some_told _ _ _ read).1))

pub returns-then-byte-gt1 : goal.returns-then-byte-gt1
returns-then-byte-gt1 c = place_nested _ (c.from-n.ensures ∙ (some_told _ _ _ (sym c.name_then.ensures ∙ c.in-Some.is)).1) (omega arith)

pub returns : goal.returns
returns c = place_is _ (sym c.name_then.ensures ∙ c.in-Some.is) c.from-n.ensures (omega arith)
