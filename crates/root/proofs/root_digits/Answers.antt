-- `root::root_digits` meets its contract: the cases by pattern, and then what `decompose`, `whole_root` and `count`
-- give. Assumes nothing.
use mathlib.Core.Path.{◌≡◌, refl, sym, ap, ◌∙◌, subst}
use mathlib.Core.Bool.{true, false≢true}
use mathlib.Core.Logic.{inl, inr}
use Prim.Native.Nat.{ℕ, ◌-◌, ◌%◌, ◌^◌, ◌≤◌, ◌<◌}
use native.Mathlib.Omega.{arith}
use borrow.Author.Rules.{rules}
use lib.Dec.{T}
use lib.Count.{count_trailing_zeros}
use lib.Ieee.{Float, nan, inf, fin, binary64, fits, is_nan, of_bits, to_bits}
use lib.Ieee.Bits.{of_bits-to_bits, to_bits-lt}
use Rattle.root.specs.Root.{root_of}
use Rattle.root.specs.Digits.{digits_of}
use Rattle.root.specs.Inner.Halves.{Ends}
use Rattle.root.specs.Laws.Patterns.{Own, None, at_zero, at_infinity, at_minus, m_in, p-lo, p-hi, pattern_no_nan, Told, pattern_digits}
use Rattle.root.proofs.Laws.Patterns.{pattern_read}
use Rattle.root.proofs.root_digits.Goals as goal

-- ---- what owning an `f64` tells: the format holds it, and so it is what its pattern says
module _ (x : Float) (g : fits binary64 x ≡ true) where
  held : T (fits binary64 x)
  held = subst T (sym g) tt

  read : of_bits binary64 (to_bits binary64 x) ≡ x
  read = of_bits-to_bits binary64 x held

  wide : to_bits binary64 x < 2 ^ 64
  wide = to_bits-lt binary64 x held

-- ---- the cases that need no digits
own_nan : (x : Float) → is_nan x ≡ true → Own x
unfolding is_nan root_of digits_of
own_nan nan h = (refl, refl)
own_nan (inf s) h = absurd (false≢true h)
own_nan (fin s m e) h = absurd (false≢true h)

nan_is : of_bits binary64 9221120237041090560 ≡ nan
unfolding of_bits
nan_is = refl

pub returns-then-is_nan : goal.returns-then-is_nan
returns-then-is_nan c = own_nan c.args.x (sym c.is_nan.ensures.value ∙ c.if-is_nan.true)

pub returns-then-b-eq0 : goal.returns-then-b-eq0
returns-then-b-eq0 c =
    let x = c.args.x in
    let g = c.well_formed.0.1 in
    subst Own (read x g) (at_zero (to_bits binary64 x) (wide x g) c.if-b-eq0.true)

pub returns-then-b-gt-SIGN : goal.returns-then-b-gt-SIGN
returns-then-b-gt-SIGN c =
    let x = c.args.x in
    let g = c.well_formed.0.1 in
    let v = subst None (read x g) (at_minus (to_bits binary64 x) (wide x g) c.if-b-gt-SIGN.true) in
    (nan_is ∙ v.0, v.1)

pub returns-then-b-ge-INFINITY : goal.returns-then-b-ge-INFINITY
returns-then-b-ge-INFINITY c =
    let x = c.args.x in
    let g = c.well_formed.0.1 in
    subst Own (read x g) (at_infinity (to_bits binary64 x) (under (to_bits binary64 x) (wide x g) c.if-b-eq0.false c.if-b-gt-SIGN.false) c.if-b-ge-INFINITY.true)
  where
    under : (b : ℕ) → b < 2 ^ 64 → (b % 2 ^ 63 ≡ 0 → ⊥) → b ≤ 2 ^ 63 → b < 2 ^ 63
    under b h n l = omega arith

pub whole_root-w-requires : goal.whole_root-w-requires
whole_root-w-requires c =
    m_in c.decompose-p.ensures (search rules)

pub overflow_add-root : goal.overflow_add-root
overflow_add-root c =
    omega (arith, p-hi c.decompose-p.ensures (search rules) c.whole_root-w.ensures.0)

pub float_from_bits-root : goal.float_from_bits-root
float_from_bits-root c =
    pattern_no_nan c.decompose-p.ensures (search rules) c.whole_root-w.ensures.0

pub count-digits-requires : goal.count-digits-requires
count-digits-requires c =
    (p-lo c.decompose-p.ensures (search rules) c.whole_root-w.ensures.0, p-hi c.decompose-p.ensures (search rules) c.whole_root-w.ensures.0)

pub returns : goal.returns
returns c =
    let x = c.args.x in
    let g = c.well_formed.0.1 in
    let w = c.whole_root-w.ensures in
    let s = c.decompose-p.ensures in
    let under = c.if-b-ge-INFINITY.false in (
      pattern_read s (search rules) w.0 (omega arith) under ∙ ap root_of (read x g),
      counts c.whole_root-w.result.root w.1 c.count-digits.ensures (pattern_digits s (search rules) w.0 (omega arith) under) ∙ ap digits_of (read x g),
    )
  where
    counts : {a w n d : ℕ} (r : ℕ) → Ends a r w → (w ≡ 27 → n ≡ 54 - count_trailing_zeros 54 r) × (w ≡ 54 → n ≡ 54) → Told a r d → n ≡ d
    counts r (inl e) k t = k.0 e.0 ∙ sym (t.0 e.1)
    counts r (inr e) k t = k.1 e.0 ∙ sym (t.1 e.1)
