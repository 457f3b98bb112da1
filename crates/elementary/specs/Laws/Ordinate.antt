-- The ordinate of a latitude up to 85.06 degrees, over the radius, is at most 3.1875 in size: its tangent lies from
-- 43/1024 to 24. Assumes nothing.
use Rattle.std.specs.Prelude.{◌≡◌, ℕ, zero, suc, ◌-◌, ◌*◌, ◌/◌, ◌^◌, ◌<◌, ◌≤◌, Bool, true, false, not, T, [], ◌∷◌, ℤ, pos, negsuc, nat_le, refl, Float}
use Rattle.std.proofs.Common.{sym, ap, ◌∙◌, subst, arith, leb→le, pow_pos, pow_mono}
use native.Mathlib.Nat.{lt_irrefl, lt_of_lt_of_le, le_of_suc-le-suc, mul-le-mul_right, pow-suc, le-div_iff_mul-le, div-lt_iff_lt-mul}
use Rattle.std.proofs.Math.Dec.{nleb→lt}
use Rattle.std.specs.Float.{nan, inf, fin}
use Rattle.std.specs.Float.Ieee.{binary64, up, down, minus, size, round, of_int, fits, neg, add, sub, mul, div, le, of_bits}
use Rattle.std.specs.Float.Ieee.Fits.{down_pos, add-fits, div-fits}
use Rattle.std.specs.Float.Ieee.Positive.{positive, between}
use Rattle.float.specs.Laws.Signed.{le→}
use Rattle.float.specs.Laws.Order.{le_trans, le_refl}
use Rattle.float.specs.Laws.Intervals.{iv, Between}
use Rattle.float.specs.Laws.Expressions.{var, over, fits_in}
use Rattle.float.specs.Laws.Remainder.{fits_digits}
use Rattle.float.specs.Laws.Exact.{fits_top, own_round}
use Rattle.elementary.specs.Constants as K
use Rattle.elementary.specs.Series.{sine_table, cosine_table, logarithm_table}
use Rattle.elementary.specs.Functions.{to_radians_of, rem_tau_of, rest_of, sin_of, cos_of, tan_of, ln_at, ln_of}
use Rattle.elementary.specs.Laws.Codes.{encloses, enclosed, even_code, odd_code}
use Rattle.elementary.specs.Laws.Logarithm.{Digits, digits, units_some, units_few, significand_on, significand_in, exponent_on, log_code, whole, ln_on}
use Rattle.elementary.specs.Laws.Sine.{bound, rest_code}
use Rattle.elementary.specs.Laws.Tangent.{c1/256, c1·5707, InTanRange, tan_range_positive, turn_is, rest_on, sin_on, cos_on}
use Rattle.elementary.specs.Laws.Mercator.{frac_pi4, tan_argument_of, tan_argument}

-- 85.06, and its opposite
abbrev pub c85·06 : Float
c85·06 = of_bits binary64 0x405543d70a3d70a4

abbrev pub m85·06 : Float
m85·06 = neg c85·06

abbrev pub c3·1875 : Float
c3·1875 = fin false 51 (negsuc 3)

abbrev pub m3·1875 : Float
m3·1875 = fin true 51 (negsuc 3)

-- ---- the argument of the tangent, from 0.04309 to 1.52771
abbrev lo : Float
lo = fin false 353 (negsuc 12)

abbrev hi : Float
hi = fin false 12515 (negsuc 12)

tan_argument_test : T (encloses tan_argument (iv m85·06 c85·06 ∷ []) lo hi)
unfolding of_bits neg add mul div le
tan_argument_test = tt

tan_argument_in : (lat : Float) → Between m85·06 c85·06 lat → Between lo hi (tan_argument_of lat)
unfolding to_radians_of
tan_argument_in lat i = enclosed tan_argument (iv m85·06 c85·06 ∷ []) (lat ∷ []) lo hi tan_argument_test (i, tt)

tan_argument_ends : T (le c1/256 lo) × T (le hi c1·5707)
unfolding le
tan_argument_ends = (tt, tt)

in_tan_range : (a : Float) → Between lo hi a → InTanRange a
in_tan_range a i = record { low = le_trans c1/256 lo a tan_argument_ends.0 i.low; high = le_trans a hi c1·5707 i.high tan_argument_ends.1; fl = tt; fh = tt }

-- ---- the tangent: a value of the format below FRAC_PI_2 is its own turn's part
turn_own : (a : Float) → T (positive a) → InTanRange a → T (fits binary64 a) → rem_tau_of a ≡ a
turn_own nan p i f = absurd p
turn_own (inf s) p i f = absurd p
turn_own (fin true m e) p i f = absurd p
turn_own (fin false m e) p i f = turn_is m e i ∙ own_round false m e f

rest_test : T (encloses (rest_code K.zero) (iv lo hi ∷ []) lo hi)
unfolding of_bits sub mul le
rest_test = tt

rest_in : (a : Float) → T (fits binary64 a) → Between lo hi a → Between lo hi (rest_of (rem_tau_of a))
rest_in a f i =
    let j = in_tan_range a i in
    subst (λ (z : Float). Between lo hi (rest_of z)) (sym (turn_own a (tan_range_positive a j) j f)) (rest_on lo hi a rest_test j i)

-- the least sine and cosine there, 0.0427
abbrev least : Float
least = fin false 175 (negsuc 11)

sine_test : T (fits_in 20 (odd_code sine_table) least bound lo hi)
unfolding sine_table le
sine_test = tt

cosine_test : T (fits_in 20 (even_code cosine_table) least bound lo hi)
unfolding cosine_table le
cosine_test = tt

abbrev c43/1024 : Float
c43/1024 = fin false 43 (negsuc 9)

abbrev c24 : Float
c24 = fin false 3 (pos 3)

tan_test : T (encloses (over (var 0) (var 1)) (iv least bound ∷ iv least bound ∷ []) c43/1024 c24)
unfolding div le
tan_test = tt

tan_in : (a : Float) → T (fits binary64 a) → Between lo hi a → Between c43/1024 c24 (tan_of a)
unfolding tan_of
tan_in a f i =
    let j = in_tan_range a i in
    let k = rest_in a f i in
    enclosed (over (var 0) (var 1)) (iv least bound ∷ iv least bound ∷ []) (sin_of a ∷ cos_of a ∷ []) c43/1024 c24 tan_test
    (sin_on least bound lo hi a tt tt sine_test j k, (cos_on least bound lo hi a tt tt cosine_test j k, tt))

-- ---- the units of 2 ^ -1074 in a value x / d from 43/1024 to 24, and their digits
units_least : (x d w : ℕ) → 0 < d → 43 * d ≤ x * 1024 → 43 * w ≤ x * (w * 1024) / d
units_least x d w D h = (le-div_iff_mul-le D).1 (omega (arith, mul-le-mul_right w h))

units_most : (x d u : ℕ) → 0 < d → x ≤ 24 * d → x * u / d ≤ 24 * u
units_most x d u D h = le_of_suc-le-suc ((div-lt_iff_lt-mul D).1 (omega (arith, mul-le-mul_right u h)))

fewer : (n k j : ℕ) → 2 ^ k ≤ n → n < 2 ^ j → k < j
fewer n k j a b = go (nat_le j k) (leb→le j k) (nleb→lt j k)
  where
    go : (t : Bool) → (T t → j ≤ k) → (T (not t) → k < j) → k < j
    go true p q = absurd (lt_irrefl n (lt_of_lt_of_le b (native.Mathlib.Nat.le_trans (pow_mono (p tt)) a)))
    go false p q = q tt

-- 2 ^ 1069 ≤ n < 2 ^ 1079
above : (n w : ℕ) → 43 * w ≤ n → 32 * w ≤ n
above n w h = omega arith

under : (n u : ℕ) → 0 < u → n ≤ 24 * u → n < 32 * u
under n u U h = omega arith

record Inner (n : ℕ) : Type 0 where
  least : 43 * 2 ^ 1064 ≤ n
  most : n ≤ 24 * 2 ^ 1074

-- ---- the logarithm in the least binade, e = -5, in the greatest, e = 4, and between them
abbrev m5 : Float
m5 = fin true 5 (pos 0)

abbrev c4 : Float
c4 = fin false 1 (pos 2)

abbrev m4 : Float
m4 = fin true 1 (pos 2)

abbrev c3 : Float
c3 = fin false 3 (pos 0)

abbrev c43/32 : Float
c43/32 = fin false 43 (negsuc 4)

abbrev c3/2 : Float
c3/2 = fin false 3 (negsuc 0)

-- the series' ends: 0.1406, 0.2070 and 0.5508, above 0.5493 at 1/3
abbrev s-least : Float
s-least = fin false 9 (negsuc 5)

abbrev s_mid : Float
s_mid = fin false 53 (negsuc 7)

abbrev s-most : Float
s-most = fin false 141 (negsuc 7)

series_tests : T (fits_in 8 log_code s-least s-most c43/32 K.two) × T (fits_in 8 log_code K.zero s-most K.one K.two) × T (fits_in 8 log_code K.zero s_mid K.one c3/2)
unfolding of_bits add sub div logarithm_table le
series_tests = (tt, tt, tt)

whole_tests : T (encloses whole (iv m5 m5 ∷ iv s-least s-most ∷ []) m3·1875 c3·1875) × T (encloses whole (iv m4 c3 ∷ iv K.zero s-most ∷ []) m3·1875 c3·1875)
    × T (encloses whole (iv c4 c4 ∷ iv K.zero s_mid ∷ []) m3·1875 c3·1875)
unfolding of_bits add mul le
whole_tests = (tt, tt, tt)

rounded : (round binary64 false 43 32 ≡ c43/32) × (round binary64 false 3 2 ≡ c3/2) × (round binary64 false 1 1 ≡ K.one) × (round binary64 false 2 1 ≡ K.two)
    × (round binary64 true 4 1 ≡ m4) × (round binary64 false 3 1 ≡ c3)
unfolding round of_bits
rounded = (refl, refl, refl, refl, refl, refl)

exponents : (of_int binary64 (minus 1069 1074) ≡ m5) × (of_int binary64 (minus 1078 1074) ≡ c4)
unfolding of_int round
exponents = (refl, refl)

low_end : (n w p : ℕ) → p ≡ 32 * w → 43 * w ≤ n → 43 * p ≤ n * 32
low_end n w p e h = omega arith

high_end : (n u p : ℕ) → p ≡ 16 * u → n ≤ 24 * u → n * 2 ≤ 3 * p
high_end n u p e h = omega arith

module _ (n k : ℕ) (d : Digits n k) (i : Inner n) where
  abbrev At : Type 0
  At = Between m3·1875 c3·1875 (ln_at (round binary64 false n (2 ^ k)) (of_int binary64 (minus k 1074)))

  at_least : k ≡ 1069 → At
  unfolding of_bits
  at_least e =
      ln_on c43/32 K.two m5 m5 s-least s-most m3·1875 c3·1875 _ _ tt tt series_tests.0 whole_tests.0
      (significand_on 43 32 2 1 n k c43/32 K.two rounded.0 rounded.3 tt tt (pow_pos 5) (pow_pos 0) (low_end n (2 ^ 1064) (2 ^ k) (ap (λ (j : ℕ). 2 ^ j) e) i.least) (let h = d.most in omega (arith, pow-suc 2 k)))
      (subst (Between m5 m5) (sym (ap (λ (j : ℕ). of_int binary64 (minus j 1074)) e ∙ exponents.0)) (record { low = le_refl m5 tt; high = le_refl m5 tt; fl = tt; fh = tt }))

  at_most : k ≡ 1078 → At
  unfolding of_bits
  at_most e =
      ln_on K.one c3/2 c4 c4 K.zero s_mid m3·1875 c3·1875 _ _ tt tt series_tests.2 whole_tests.2
      (significand_on 1 1 3 2 n k K.one c3/2 rounded.2 rounded.1 tt tt (pow_pos 0) (pow_pos 1) (let h = d.least in omega arith) (high_end n (2 ^ 1074) (2 ^ k) (ap (λ (j : ℕ). 2 ^ j) e) i.most))
      (subst (Between c4 c4) (sym (ap (λ (j : ℕ). of_int binary64 (minus j 1074)) e ∙ exponents.1)) (record { low = le_refl c4 tt; high = le_refl c4 tt; fl = tt; fh = tt }))

  at_mid : 1070 ≤ k → k ≤ 1077 → At
  unfolding of_bits
  at_mid g h =
      ln_on K.one K.two m4 c3 K.zero s-most m3·1875 c3·1875 _ _ tt tt series_tests.1 whole_tests.1
      (significand_in n k d) (exponent_on 4 3 k m4 c3 rounded.4 rounded.5 tt tt (omega arith) (omega arith))

  least-k : 1069 < suc k
  least-k = fewer n 1069 (suc k) (above n (2 ^ 1064) i.least) d.most

  most-k : k < 1079
  most-k = fewer n k 1079 d.least (under n (2 ^ 1074) (pow_pos 1074) i.most)

  at_all : At
  at_all = go (nat_le 1070 k) (leb→le 1070 k) (nleb→lt 1070 k) (nat_le k 1077) (leb→le k 1077) (nleb→lt k 1077)
    where
      go : (t : Bool) → (T t → 1070 ≤ k) → (T (not t) → k < 1070) → (u : Bool) → (T u → k ≤ 1077) → (T (not u) → 1077 < k) → At
      go false a b u x y = at_least (let g = b tt in let h = least-k in omega arith)
      go true a b false x y = at_most (let g = y tt in let h = most-k in omega arith)
      go true a b true x y = at_mid (a tt) (x tt)

-- ---- the laws
inner : (m : ℕ) (e : ℤ) → Between c43/1024 c24 (fin false m e) → Inner (m * up e * 2 ^ 1074 / down e)
inner m e i =
    let l = le→ c43/1024 (fin false m e) tt tt i.low in
    let h = le→ (fin false m e) c24 tt tt i.high in
    record { least = units_least (m * up e) (down e) (2 ^ 1064) (down_pos e) (omega arith); most = units_most (m * up e) (down e) (2 ^ 1074) (down_pos e) (omega arith) }

ln_mid : (v : Float) → T (positive v) → T (fits binary64 v) → Between c43/1024 c24 v → Between m3·1875 c3·1875 (ln_of v)
unfolding ln_of
ln_mid nan p f i = absurd p
ln_mid (inf s) p f i = absurd p
ln_mid (fin true m e) p f i = absurd p
ln_mid (fin false zero e) p f i = absurd p
ln_mid (fin false (suc m) e) p f i =
    let n = suc m * up e * 2 ^ 1074 / down e in
    at_all n (size n - 1) (digits n (units_some m e (fits_digits false (suc m) e f).1) (units_few m e (fits_top false (suc m) e f))) (inner (suc m) e i)

pub ordinate_in : (lat : Float) → Between m85·06 c85·06 lat → Between m3·1875 c3·1875 (ln_of (tan_of (tan_argument_of lat)))
ordinate_in lat i =
    let a = tan_argument_of lat in
    let v = tan_of a in
    let j = tan_in a (add-fits binary64 frac_pi4 (div binary64 (to_radians_of lat) K.two)) (tan_argument_in lat i) in
    ln_mid v (between c43/1024 v c24 tt tt j.low j.high) (unfold tan_of in div-fits binary64 (sin_of a) (cos_of a)) j
