use mathlib.Core.Path.{◌≡◌, sym, ap, ◌∙◌}
use mathlib.Core.Bool.{Bool, false}
use native.Mathlib.Omega.{arith}
use Rattle.stream.specs.Payload.{payload}
use Rattle.stream.specs.Inner.Payload.{rest}
use Rattle.stream.specs.Laws.Payload.{rest-length}
use Rattle.records.specs.Values.{flatten_in, step_in, rescale_in, not_above, outside_bounds}
use Rattle.records.proofs.RefusalNumbers.{by_flatten, by_step, by_rescale, by_none}
use Rattle.records.proofs.refusals.check_values.Goals as goal

-- what a test's answer says of the value that it was given
asked : {A : Type 0} {x y : A} {r b : Bool} (test : A → Bool) → x ≡ y → r ≡ test x → r ≡ b → test y ≡ b
asked test e h k = ap test (sym e) ∙ sym h ∙ k

pub returns-then-is_not_above : goal.returns-then-is_not_above
returns-then-is_not_above c = by_flatten _ (asked not_above c.flatten.ensures c.is_not_above.ensures c.if-is_not_above.true)

pub returns-then-is_outside_bounds : goal.returns-then-is_outside_bounds
returns-then-is_outside_bounds c =
    let flat : not_above (flatten_in (payload c.args.s.now)) ≡ false = asked not_above c.flatten.ensures c.is_not_above.ensures c.if-is_not_above.false in
    by_step _ flat (asked outside_bounds c.sheet_step.ensures c.is_outside_bounds.ensures c.if-is_outside_bounds.true)

pub float-requires : goal.float-requires
float-requires c = (omega arith, omega (arith, rest-length c.args.s.now 0, c.requires))

pub returns-then-is_not_above-2 : goal.returns-then-is_not_above-2
unfolding rescale_in rest
returns-then-is_not_above-2 c =
    let flat : not_above (flatten_in (payload c.args.s.now)) ≡ false = asked not_above c.flatten.ensures c.is_not_above.ensures c.if-is_not_above.false in
    let stepped : outside_bounds (step_in (payload c.args.s.now)) ≡ false = asked outside_bounds c.sheet_step.ensures c.is_outside_bounds.ensures c.if-is_outside_bounds.false in
    by_rescale _ flat stepped (asked not_above c.float.ensures c.is_not_above-2.ensures c.if-is_not_above-2.true)

pub returns : goal.returns
unfolding rescale_in rest
returns c =
    let flat : not_above (flatten_in (payload c.args.s.now)) ≡ false = asked not_above c.flatten.ensures c.is_not_above.ensures c.if-is_not_above.false in
    let stepped : outside_bounds (step_in (payload c.args.s.now)) ≡ false = asked outside_bounds c.sheet_step.ensures c.is_outside_bounds.ensures c.if-is_outside_bounds.false in
    by_none _ flat stepped (asked not_above c.float.ensures c.is_not_above-2.ensures c.if-is_not_above-2.false)
