-- The functions' answers by their tests, over plain values, and std's methods by the definitions. Assumes nothing.
use mathlib.Core.Path.{◌≡◌, refl, sym, ap, ◌∙◌}
use mathlib.Core.Bool.{Bool, true, false, not, cond, false≢true}
use borrow.Author.Tests.{not-false, eqb-true, eq-eqb}
use lib.Dec.{T, eqb}
use lib.Ieee.{Float, nan, inf, fin, binary64, add, rem, lt, eq, ne, is_nan, fits, of_bits, to_bits}
use lib.Ieee.Bits.{of_bits-to_bits}
use lib.Ieee.Scale.{finite}
use Rattle.std.specs.Float as std
use Rattle.float.specs.Functions.{pick, abs_of, rem_euclid360_of}
use Rattle.float.specs.Laws.Tests.{yes, nan_test}

-- ---- std's methods
pub abs_is : (x : Float) → std.float_with_sign false x ≡ abs_of x
unfolding std.float_with_sign abs_of
abs_is nan = refl
abs_is (inf s) = refl
abs_is (fin s m e) = refl

pub rem_euclid_is : (x : Float) → std.float_rem_euclid binary64 x (of_bits binary64 0x4076800000000000) ≡ rem_euclid360_of x
unfolding std.float_with_sign rem_euclid360_of of_bits
rem_euclid_is x = go (lt (rem binary64 x (of_bits binary64 0x4076800000000000)) (of_bits binary64 0))
  where
    r : Float
    r = rem binary64 x (of_bits binary64 0x4076800000000000)

    go : (b : Bool) → cond b (add binary64 r (of_bits binary64 0x4076800000000000)) r ≡ pick b (add binary64 r (of_bits binary64 0x4076800000000000)) r
    go true = refl
    go false = refl

pub finite_is : (x : Float) → std.float_is_finite x ≡ finite x
unfolding std.float_is_finite
finite_is nan = refl
finite_is (inf s) = refl
finite_is (fin s m e) = refl

-- ---- same_value
-- what compares equal is no NaN
pub equal_numbers : (x y : Float) → eq x y ≡ true → T (not (is_nan x)) × T (not (is_nan y))
unfolding eq is_nan
equal_numbers nan y h = absurd (yes false h)
equal_numbers (inf s) nan h = absurd (yes false h)
equal_numbers (inf s) (inf t) h = (tt, tt)
equal_numbers (inf s) (fin t n d) h = (tt, tt)
equal_numbers (fin s m e) nan h = absurd (yes false h)
equal_numbers (fin s m e) (inf t) h = (tt, tt)
equal_numbers (fin s m e) (fin t n d) h = (tt, tt)

same_bits : (x y : Float) → fits binary64 x ≡ true → fits binary64 y ≡ true → to_bits binary64 x ≡ to_bits binary64 y → x ≡ y
same_bits x y f g e = sym (of_bits-to_bits binary64 x (yes _ f)) ∙ ap (of_bits binary64) e ∙ of_bits-to_bits binary64 y (yes _ g)

pub by_bits : (x y : Float) → fits binary64 x ≡ true → fits binary64 y ≡ true → {r : Bool} → r ≡ eqb (to_bits binary64 x) (to_bits binary64 y)
    → (r ≡ true → x ≡ y) × (is_nan x ≡ false → x ≡ y → r ≡ true)
by_bits x y f g q = (λ t. same_bits x y f g (eqb-true _ _ (sym q ∙ t)), λ n e. q ∙ eq-eqb _ _ (ap (to_bits binary64) e))

-- a number compares equal to itself
self_equal : (x : Float) → is_nan x ≡ false → eq x x ≡ true
unfolding ne
self_equal x h = not-false (eq x x) (sym (nan_test x) ∙ h)

pub unequal : (x y : Float) → eq x y ≡ false → {r : Bool} → r ≡ false → (r ≡ true → x ≡ y) × (is_nan x ≡ false → x ≡ y → r ≡ true)
unequal x y u q = (λ t. absurd (false≢true (sym q ∙ t)), λ n e. absurd (false≢true (sym u ∙ ap (eq x) (sym e) ∙ self_equal x n)))
