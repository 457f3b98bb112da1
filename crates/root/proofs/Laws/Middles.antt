-- The root of x lies on the side of `root_of x` of each middle. Assumes nothing.
use Rattle.std.specs.Prelude.{◌≡◌, false, ℕ, ◌+◌, ◌*◌, ◌/◌, ◌^◌, T, Float}
use Rattle.std.proofs.Common.{subst, inl, inr, pow_pos}
use Rattle.std.specs.Float.{binary64}
use Rattle.std.specs.Float.Ieee.{fits}
use Rattle.std.specs.Float.Ieee.Exact.{HasValue}
use Rattle.std.specs.Float.Ieee.Positive.{positive}
use Rattle.float.specs.Laws.Exact.{same_value}
use Rattle.root.specs.Root.{root_of}
use Rattle.root.specs.Laws.Nearest.{plain, Nearest}
use Rattle.root.specs.Laws.Shape.{in_units}
use Rattle.root.specs.Laws.Middles.{numbers_below, numbers_above, plain_of_value, nearer, three, units→lt, one_side}
use Rattle.root.proofs.Laws.Shape.{rooted}

-- ---- for a value above zero

pub is_nearest : (x : Float) → T (positive x) → T (fits binary64 x) → Nearest x (root_of x)
is_nearest x p f y q g =
    let R = rooted x p f in
    let S = R.shape in
    let U = in_units y q g in
    nearer x y (root_of x) R.units (U.q * 2 ^ U.i) ((S.p + 1) / 2 * 2 ^ S.j) R.value U.size_of R.root (numbers_below S U) (numbers_above S U)

-- whatever is nearest is `root_of x`
pub is-only : (x z : Float) → T (positive x) → T (fits binary64 x) → T (plain z) → T (fits binary64 z) → T (fits binary64 (root_of x)) → Nearest x z → z ≡ root_of x
is-only x z p f q g h M =
    let r = root_of x in
    let R = rooted x p f in
    let t = (R.shape.p + 1) / 2 * 2 ^ R.shape.j in
    let U = in_units z q g in
    let v = U.q * 2 ^ U.i in
    let s : T (plain r) = plain_of_value r t (2 ^ 1074) R.root in
    elim (three v t) [
      | inl e ↦ same_value z r false t (2 ^ 1074) (pow_pos 1074) g h (subst (λ (n : ℕ). HasValue z false n (2 ^ 1074)) e U.size_of) R.root
      | inr w ↦ elim w [
        | inl l ↦ (let o = units→lt z r q s v t U.size_of R.root l in absurd (one_side x z r ((is_nearest x p f z q g).0 o) ((M r s h).1 o)))
        | inr l ↦ (let o = units→lt r z s q t v R.root U.size_of l in absurd (one_side x r z ((M r s h).0 o) ((is_nearest x p f z q g).1 o)))
      ]
    ]
