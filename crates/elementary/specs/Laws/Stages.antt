-- The three stages of the arc tangent give the arc tangent of every exponential. Assumes nothing.
use Rattle.std.specs.Prelude.{◌≡◌, ℕ, ◌+◌, ◌*◌, Bool, true, false, not, T, [], ◌∷◌, ℤ, refl, Float}
use Rattle.std.proofs.Common.{mul-pos, arith, ltb→lt, lt→ltb}
use Rattle.std.specs.Float.{nan, inf, fin, binary64}
use Rattle.std.specs.Float.Ieee.{up, down, is_nan, neg, add, sub, div, lt, le, of_bits}
use Rattle.std.specs.Float.Ieee.Bits.{is_false, is_true}
use Rattle.std.specs.Float.Ieee.Fits.{up_pos, down_pos}
use Rattle.std.specs.Float.Ieee.Positive.{positive, between}
use Rattle.float.specs.Functions.{pick}
use Rattle.float.specs.Laws.Signed.{→le}
use Rattle.float.specs.Laws.Comparisons.{lt→le}
use Rattle.float.specs.Laws.Intervals.{iv, Between}
use Rattle.float.specs.Laws.Order.{le_trans}
use Rattle.float.specs.Laws.Expressions.{var, lit, over}
use Rattle.elementary.specs.Constants as K
use Rattle.elementary.specs.Functions.{clamp_of, exp_of, half_angle_of, atan_small, atan_nonneg, atan_of}
use Rattle.elementary.specs.Inner.Stages.{atan_first, atan_second, quadrupled, atan_third}
use Rattle.elementary.specs.Laws.Codes.{encloses, enclosed}
use Rattle.elementary.specs.Laws.Powers.{power}
use Rattle.elementary.specs.Laws.Exponential.{exp_least, exp_most, exp_nan, exp_in}
use Rattle.elementary.specs.Laws.Arctangent.{le→not-lt, halved_encloses, halved_from, unit-high}

-- ---- what is above zero: its opposite is below
record Above (h : Float) : Type 0 where
  plus : lt h K.zero ≡ false
  minus : lt (neg h) K.zero ≡ true
  back : neg (neg h) ≡ h

opposite : (h : Float) (n : ℕ) (d : ℤ) → T (positive h) → T (lt (neg h) (fin false n d))
unfolding lt neg
opposite nan n d p = absurd p
opposite (inf s) n d p = absurd p
opposite (fin true m e) n d p = absurd p
opposite (fin false m e) n d p = lt→ltb 0 (m * up e * down d + n * up d * down e) (omega (arith, mul-pos (mul-pos (ltb→lt 0 m p) (up_pos e)) (down_pos d)))

twice : (h : Float) → T (positive h) → neg (neg h) ≡ h
unfolding neg
twice nan p = absurd p
twice (inf s) p = absurd p
twice (fin true m e) p = absurd p
twice (fin false m e) p = refl

zero-low : (n : ℕ) → T (le K.zero (power true n))
unfolding of_bits
zero-low n = →le K.zero (power true n) tt tt (omega arith)

above : (n : ℕ) (h : Float) → Between (power true n) K.one h → Above h
unfolding of_bits
above n h i =
    let p = between (power true n) h K.one tt tt i.low i.high in
    record {
      plus = is_false (lt h K.zero) (le→not-lt K.zero h tt (le_trans K.zero (power true n) h (zero-low n) i.low));
      minus = is_true (lt (neg h) K.zero) (opposite h _ _ p);
      back = twice h p;
    }

-- ---- one side of 1
halved_tests : T (halved_encloses (power true 1011) (power true 1013)) × T (halved_encloses (power true 1013) (power true 1015))
unfolding of_bits add div le
halved_tests = (tt, tt)

module _ (v : Float) (i : Between exp_least K.one v) where
  once : Between (power true 1013) K.one (half_angle_of v)
  once = halved_from exp_least (power true 1013) v (zero-low 1011) halved_tests.0 i

  first : Above (half_angle_of v)
  first = above 1013 (half_angle_of v) once

  second : Above (half_angle_of (half_angle_of v))
  second = above 1015 (half_angle_of (half_angle_of v)) (halved_from (power true 1013) (power true 1015) (half_angle_of v) (zero-low 1013) halved_tests.1 once)

  within : atan_third (atan_second (half_angle_of v)) ≡ atan_small v
  unfolding atan_second atan_third quadrupled atan_small
  within = rw (first.plus, second.plus)

  beyond : atan_third (atan_second (neg (half_angle_of v))) ≡ clamp_of K.zero K.frac_pi2 (sub binary64 K.frac_pi2 (atan_small v))
  unfolding atan_second atan_third quadrupled atan_small
  beyond = rw (first.minus, first.back, second.minus, second.back)

-- ---- both sides of 1
inverse_test : T (encloses (over (lit K.one) (var 0)) (iv K.one exp_most ∷ []) exp_least K.one)
unfolding of_bits div le
inverse_test = tt

stages : (v : Float) → Between exp_least exp_most v → atan_third (atan_second (atan_first v)) ≡ atan_of v
unfolding atan_first atan_of atan_nonneg
stages v i = rw (is_false (lt v K.zero) (le→not-lt K.zero v (unfold of_bits in tt) low)) (go (lt K.one v) (lt→le K.one v) (unit-high v low))
  where
    low : T (le K.zero v)
    low = le_trans K.zero exp_least v (zero-low 1011) i.low

    go : (b : Bool) → (T b → T (le K.one v)) → (T (not b) → T (le v K.one))
        → atan_third (atan_second (pick b (neg (half_angle_of (div binary64 K.one v))) (half_angle_of v)))
        ≡ pick b (clamp_of K.zero K.frac_pi2 (sub binary64 K.frac_pi2 (atan_small (div binary64 K.one v)))) (atan_small v)
    go true f g =
        beyond (div binary64 K.one v)
        (enclosed (over (lit K.one) (var 0)) (iv K.one exp_most ∷ []) (v ∷ []) exp_least K.one inverse_test (record { low = f tt; high = i.high; fl = unfold of_bits in tt; fh = i.fh }, tt))
    go false f g = within v (record { low = i.low; high = g tt; fl = i.fl; fh = unfold of_bits in tt })

-- every test of a NaN fails
at_nan : atan_third (atan_second (atan_first nan)) ≡ atan_of nan
unfolding atan_first atan_second atan_third quadrupled atan_of atan_nonneg atan_small half_angle_of lt div of_bits
at_nan = refl

pub stages_exp : (u : Float) → atan_third (atan_second (atan_first (exp_of u))) ≡ atan_of (exp_of u)
unfolding is_nan
stages_exp nan = rw (← exp_nan nan refl) at_nan
stages_exp (inf s) = stages (exp_of (inf s)) (exp_in (inf s) tt)
stages_exp (fin s m e) = stages (exp_of (fin s m e)) (exp_in (fin s m e) tt)
