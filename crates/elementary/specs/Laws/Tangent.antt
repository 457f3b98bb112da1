-- The tangent from 1/256 to 1.5707 is finite and above zero: from 2 ^ -10 to 2 ^ 15. Assumes nothing.
use Rattle.std.specs.Prelude.{◌≡◌, ℕ, ◌*◌, ◌^◌, ◌<◌, ◌≤◌, Bool, true, false, not, T, [], ◌∷◌, ℤ, negsuc, refl}
use Rattle.std.proofs.Common.{sym, ap, ◌∙◌, subst, mod-eq_of_lt, mul-pos, arith, pow_pos}
use Rattle.std.proofs.Math.Nat.{div-eq_of_lt}
use Rattle.std.specs.Float.Ieee.{Float, up, down, round, is_nan, neg, sub, mul, div, rem, lt, eq, le, of_bits}
use Rattle.std.specs.Float.{nan, inf, fin, binary64}
use Rattle.std.specs.Float.Ieee.Fits.{down_pos}
use Rattle.std.specs.Float.Ieee.Order.{round_mono}
use Rattle.std.specs.Float.Ieee.Positive.{positive, between}
use Rattle.std.specs.Float.Ieee.Scale.{round_same, finite}
use Rattle.float.specs.Functions.{pick, abs_of, min_of, trunc_of}
use Rattle.float.specs.Laws.Signed.{le→}
use Rattle.float.specs.Laws.Order.{le_trans}
use Rattle.float.specs.Laws.Intervals.{iv, Between}
use Rattle.float.specs.Laws.Expressions.{var, over, fits_in}
use Rattle.elementary.specs.Constants as K
use Rattle.elementary.specs.Series.{even_of, odd_of, sine_table, cosine_table}
use Rattle.elementary.specs.Functions.{rem_tau_of, quadrant_of, rest_of, sine_at, cosine_at, sin_of, cos_of, tan_of}
use Rattle.elementary.specs.Laws.Codes.{encloses, enclosed, even_code, odd_code, even_range, odd_range}
use Rattle.elementary.specs.Laws.Powers.{power}
use Rattle.elementary.specs.Laws.Sine.{bound, quotient_code, rest_code}
use Rattle.elementary.specs.Laws.Arctangent.{le→not-lt}

abbrev pub c1/256 : Float
c1/256 = power true 8

-- a little below FRAC_PI_2, 1.570796
abbrev pub c1·5707 : Float
c1·5707 = fin false 3536901967355419 (negsuc 50)

abbrev pub InTanRange : Float → Type 0
InTanRange a = Between c1/256 c1·5707 a

pub tan_range_positive : (a : Float) → InTanRange a → T (positive a)
tan_range_positive a i = between c1/256 a c1·5707 tt tt i.low i.high

-- ---- less than a turn, so the turn's part is a, rounded once
own_ends : (round binary64 false 1 (2 ^ 8) ≡ c1/256) × (round binary64 false 3536901967355419 (2 ^ 51) ≡ c1·5707)
unfolding round
own_ends = (refl, refl)

rounded_in : (m : ℕ) (e : ℤ) → InTanRange (fin false m e) → InTanRange (round binary64 false (m * up e) (down e))
rounded_in m e i =
    let v = round binary64 false (m * up e) (down e) in
    let l = le→ c1/256 (fin false m e) tt tt i.low in
    let h = le→ (fin false m e) c1·5707 tt tt i.high in
    record {
      low = subst (λ (z : Float). T (le z v)) own_ends.0 (round_mono binary64 1 (2 ^ 8) (m * up e) (down e) (pow_pos 8) (down_pos e) (omega arith));
      high = subst (λ (z : Float). T (le v z)) own_ends.1 (round_mono binary64 (m * up e) (down e) 3536901967355419 (2 ^ 51) (down_pos e) (pow_pos 51) (omega arith));
      fl = tt;
      fh = tt;
    }

short : (x d : ℕ) → 0 < d → x * 2 ^ 51 ≤ 3536901967355419 * d → x * 2 ^ 47 < 884279719003555 * 1 * d
short x d D h = omega arith

pub turn_is : (m : ℕ) (e : ℤ) → InTanRange (fin false m e) → rem_tau_of (fin false m e) ≡ round binary64 false (m * up e) (down e)
unfolding rem_tau_of abs_of rem of_bits
turn_is m e i =
    let h = le→ (fin false m e) c1·5707 tt tt i.high in
    ap (λ (j : ℕ). round binary64 false j (down e * 2 ^ 47)) (mod-eq_of_lt (short (m * up e) (down e) (down_pos e) (omega arith)))
    ∙ round_same binary64 false (m * up e * 2 ^ 47) (down e * 2 ^ 47) (m * up e) (down e) (mul-pos (down_pos e) (pow_pos 47)) (down_pos e) (omega arith)

turn_in : (a : Float) → T (positive a) → InTanRange a → InTanRange (rem_tau_of a)
turn_in nan p i = absurd p
turn_in (inf s) p i = absurd p
turn_in (fin true m e) p i = absurd p
turn_in (fin false m e) p i = subst InTanRange (sym (turn_is m e i)) (rounded_in m e i)

-- ---- the first quadrant
abbrev q-lo : Float
q-lo = power true 9

-- 1 - 2 ^ -14
abbrev q-hi : Float
q-hi = fin false 16383 (negsuc 13)

quotient_test : T (encloses quotient_code (iv c1/256 c1·5707 ∷ []) q-lo q-hi)
unfolding of_bits div le
quotient_test = tt

whole_part : (w : Float) → T (positive w) → T (le w q-hi) → min_of (trunc_of w) K.three ≡ K.zero
unfolding min_of trunc_of is_nan lt round of_bits
whole_part nan p h = absurd p
whole_part (inf s) p h = absurd p
whole_part (fin true m d) p h = absurd p
whole_part (fin false m d) p h =
    ap (λ (n : ℕ). min_of (round binary64 false n 1) K.three) (div-eq_of_lt (under (m * up d) (down d) (down_pos d) (let k = le→ (fin false m d) q-hi tt tt h in omega arith)))
  where
    under : (x d : ℕ) → 0 < d → x * 2 ^ 14 ≤ 16383 * d → x < d
    under x d D h = omega arith

quadrant_is : (r : Float) → InTanRange r → quadrant_of r ≡ K.zero
unfolding quadrant_of
quadrant_is r i =
    let w = div binary64 r K.frac_pi2 in
    let j = enclosed quotient_code (iv c1/256 c1·5707 ∷ []) (r ∷ []) q-lo q-hi quotient_test (i, tt) in
    whole_part w (between q-lo w q-hi tt tt j.low j.high) j.high

rest_test : T (encloses (rest_code K.zero) (iv c1/256 c1·5707 ∷ []) c1/256 c1·5707)
unfolding of_bits sub mul le
rest_test = tt

pub rest_on : (lo hi r : Float) → T (encloses (rest_code K.zero) (iv lo hi ∷ []) lo hi) → InTanRange r → Between lo hi r → Between lo hi (rest_of r)
unfolding rest_of
rest_on lo hi r t i j = subst (λ (q : Float). Between lo hi (sub binary64 r (mul binary64 q K.frac_pi2))) (sym (quadrant_is r i)) (enclosed (rest_code K.zero) (iv lo hi ∷ []) (r ∷ []) lo hi t (j, tt))

rest_in : (r : Float) → InTanRange r → InTanRange (rest_of r)
rest_in r i = rest_on c1/256 c1·5707 r rest_test i i

-- ---- sine and cosine series in that range
abbrev sine_least : Float
sine_least = power true 9

abbrev cosine_least : Float
cosine_least = power true 14

sine_test : T (fits_in 20 (odd_code sine_table) sine_least bound c1/256 c1·5707)
unfolding sine_table le
sine_test = tt

cosine_test : T (fits_in 20 (even_code cosine_table) cosine_least bound c1/256 c1·5707)
unfolding cosine_table le
cosine_test = tt

first_sine : (q u : Float) → q ≡ K.zero → odd_of sine_table u ≡ sine_at q u
unfolding sine_at eq of_bits
first_sine q u e = rw e

first_cosine : (q u : Float) → q ≡ K.zero → even_of cosine_table u ≡ cosine_at q u
unfolding cosine_at eq of_bits
first_cosine q u e = rw e

above_zero : T (le K.zero c1/256)
unfolding of_bits le
above_zero = tt

-- what the series give where the rest lies from a to b
pub sin_on : (lo hi a b x : Float) → T (finite lo) → T (finite hi) → T (fits_in 20 (odd_code sine_table) lo hi a b) → InTanRange x → Between a b (rest_of (rem_tau_of x)) → Between lo hi (sin_of x)
unfolding sin_of
sin_on lo hi a b x p q t i k = go (lt x K.zero) (le→not-lt K.zero x (unfold of_bits in tt) (le_trans K.zero c1/256 x above_zero i.low))
  where
    r : Float
    r = rem_tau_of x

    go : (b : Bool) → T (not b) → Between lo hi (pick b (neg (sine_at (quadrant_of r) (rest_of r))) (sine_at (quadrant_of r) (rest_of r)))
    go true n = absurd n
    go false n =
        subst (Between lo hi) (first_sine (quadrant_of r) (rest_of r) (quadrant_is r (turn_in x (tan_range_positive x i) i))) (odd_range 20 sine_table lo hi a b (rest_of r) p q t k)

pub cos_on : (lo hi a b x : Float) → T (finite lo) → T (finite hi) → T (fits_in 20 (even_code cosine_table) lo hi a b) → InTanRange x → Between a b (rest_of (rem_tau_of x)) → Between lo hi (cos_of x)
unfolding cos_of
cos_on lo hi a b x p q t i k =
    let r = rem_tau_of x in
    subst (Between lo hi) (first_cosine (quadrant_of r) (rest_of r) (quadrant_is r (turn_in x (tan_range_positive x i) i))) (even_range 20 cosine_table lo hi a b (rest_of r) p q t k)

sin_in : (a : Float) → InTanRange a → Between sine_least bound (sin_of a)
sin_in a i = sin_on sine_least bound c1/256 c1·5707 a tt tt sine_test i (rest_in (rem_tau_of a) (turn_in a (tan_range_positive a i) i))

cos_in : (a : Float) → InTanRange a → Between cosine_least bound (cos_of a)
cos_in a i = cos_on cosine_least bound c1/256 c1·5707 a tt tt cosine_test i (rest_in (rem_tau_of a) (turn_in a (tan_range_positive a i) i))

-- ---- the law
abbrev pub tan_least : Float
tan_least = power true 10

abbrev pub tan_most : Float
tan_most = power false 15

tan_test : T (encloses (over (var 0) (var 1)) (iv sine_least bound ∷ iv cosine_least bound ∷ []) tan_least tan_most)
unfolding div le
tan_test = tt

pub tan_in : (a : Float) → InTanRange a → Between tan_least tan_most (tan_of a)
unfolding tan_of
tan_in a i = enclosed (over (var 0) (var 1)) (iv sine_least bound ∷ iv cosine_least bound ∷ []) (sin_of a ∷ cos_of a ∷ []) tan_least tan_most tan_test (sin_in a i, (cos_in a i, tt))
