use Rattle.std.specs.Prelude.{Option, Float}
use mathlib.Core.Path.{◌≡◌, sym}
use mathlib.Core.List.{List}
use Prim.Native.Nat.{ℕ, ◌+◌, ◌≤◌}
use native.Mathlib.Omega.{arith}
use lib.Ieee.{binary64, of_bits}
use Rattle.stream.specs.Numbers.{u64_at, float_of, float_at}
use Rattle.stream.specs.Inner.Payload.{room, rest}
use Rattle.stream.specs.Laws.Numbers.{float-drop}
use Rattle.stream.specs.Laws.Payload.{payload-length, rest-length}
use Rattle.records.specs.Inner.Hits.{records_at, OptionValue}
use Rattle.records.specs.Values.{float_or}
use Rattle.records.specs.Laws.Search.{float_within}
use Rattle.records.proofs.refusals.bits_or.Goals as goal

-- the float behind a record that stands
present : (l : List ℕ) (k : ℕ) (d : Option Float) {p bits : ℕ} → OptionValue l k p → bits ≡ u64_at l p → float_of (of_bits binary64 bits) ≡ float_or (records_at l 0 2 k) d
unfolding float_at
present l k d o e = rw (o.all, e, o.behind) (sym (float-drop o.at l 2))

pub u64_at-requires : goal.u64_at-requires
u64_at-requires c =
    let o = c.in-Some.ensures.present in
    let least : 3 ≤ c.number.result = omega (arith, c.number.ensures) in
    let within : c.in-Some.p + 8 ≤ room c.args.s.now = omega (arith, payload-length c.args.s.now, float_within least o.stands, o.behind) in
    (omega arith, omega (arith, within, rest-length c.args.s.now 0))

pub returns-in-Some : goal.returns-in-Some
unfolding rest
returns-in-Some c = rw (← c.number.ensures) (present _ _ _ c.in-Some.ensures.present c.u64_at.ensures)
