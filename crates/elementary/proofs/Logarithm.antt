-- What `decompose` gives is the m and the e of the logarithm's definition. Assumes nothing.
use Rattle.std.proofs.Common.{◌≡◌, ℕ, zero, suc, ◌+◌, ◌-◌, ◌*◌, ◌/◌, ◌%◌, ◌^◌, ◌<◌, ◌≤◌, Bool, true, false, not, ◌||◌, T, eqb, ℤ, pos, sym, refl, ap, ◌∙◌, subst, true≢false, le_trans, le_of_eq, lt_of_lt_of_le, lt_of_le_of_lt, lt_irrefl, mul-le-mul_right, zero-lt-suc, mul_assoc, lt_of_mul-lt-mul_right, mul-lt-mul_of_pos_right, mul-pos, lt_of_not-le, zero-mul, mul_right_comm, le_of_mul-le-mul_right, mul-div_cancel, arith, lit≤, le→leb, eqb→eq, ltb→lt, lt→ltb, pow_pos, pow_mono, pow-add}
use mathlib.Core.Bool.{beq}
use native.Mathlib.Nat.{eq_of_mul-eq-mul_right}
use lib.Arith.{le→nltb}
use lib.Ieee.{Float, nan, inf, fin, binary64, up, down, minus, size, round, of_int, sub, div, neg, lt, eq, in_float, is_nan, nan_bits, fits, of_bits, to_bits}
use lib.Ieee.Back.{round_whole}
use lib.Ieee.Bits.{of_bits-to_bits, of_bits-fits, nan_bits_above}
use lib.Ieee.Digits.{size-lt, size-le}
use lib.Ieee.Exact.{HasValue, round_exact}
use lib.Ieee.Fits.{up_pos, down_pos, round-fits, and_i, and_l, eq→eqb}
use lib.Ieee.Positive.{positive}
use lib.Ieee.Scale.{finite, round_same}
use Rattle.float.specs.Inner.Decomposition.{units_at, Decomposition}
use Rattle.float.specs.Laws.Exact.{same_value}
use Rattle.float.specs.Laws.Integers.{whole_sub, minus_shift}
use Rattle.float.specs.Laws.Tests.{yes, no}
use Rattle.float.specs.Laws.Units.{value_of_pattern, some_units, positive_bits}
use Rattle.elementary.specs.Functions.{ln_at, ln_of}

-- ---- by the argument's value
not_none : (n d : ℕ) → 0 < n → 0 < d → 0 ≡ n * d → ⊥
not_none n d N D e = lt_irrefl 0 (subst (λ (x : ℕ). 0 < x) (sym e) (mul-pos N D))

-- the logarithm of n units
abbrev ln_units : ℕ → Float
ln_units n = ln_at (round binary64 false n (2 ^ (size n - 1))) (of_int binary64 (minus (size n - 1) 1074))

ln_of_value : (v : Float) (n : ℕ) → HasValue v false n (2 ^ 1074) → 0 < n → ln_of v ≡ ln_units n
unfolding ln_of
ln_of_value nan n h N = absurd h
ln_of_value (inf s) n h N = absurd h
ln_of_value (fin s zero e) n h N = absurd (not_none n (down e) N (down_pos e) (sym (ap (λ (x : ℕ). x * 2 ^ 1074) (zero-mul (up e)) ∙ zero-mul (2 ^ 1074)) ∙ h.1))
ln_of_value (fin true (suc m) e) n h N = absurd (true≢false h.0)
ln_of_value (fin false (suc m) e) n h N = ap ln_units (ap (λ (x : ℕ). x / down e) h.1 ∙ mul-div_cancel n (down_pos e))

-- ---- n * 2 ^ 1076 is m * 2 ^ e
module _ (n m e : ℕ) (value : n * 2 ^ 1076 ≡ m * 2 ^ e) (full : 2 ^ 52 ≤ m) (small : m < 2 ^ 53) (low : 1024 ≤ e) where
  place : (a b : ℕ) → a + 1076 ≡ b + e → 2 ^ b * 2 ^ e ≡ 2 ^ a * 2 ^ 1076
  place a b h = sym (pow-add 2 b e) ∙ ap (λ (x : ℕ). 2 ^ x) (sym h) ∙ pow-add 2 a 1076

  least : 2 ^ (e - 1024) ≤ n
  least = le_of_mul-le-mul_right (le_trans (le_of_eq (sym (place (e - 1024) 52 (sum low)))) (le_trans (mul-le-mul_right (2 ^ e) full) (le_of_eq (sym value)))) (pow_pos 1076)
    where
      sum : 1024 ≤ e → e - 1024 + 1076 ≡ 52 + e
      sum h = omega arith

  most : n < 2 ^ suc (e - 1024)
  most = lt_of_mul-lt-mul_right (2 ^ 1076) (lt_of_le_of_lt (le_of_eq value) (lt_of_lt_of_le (mul-lt-mul_of_pos_right small (pow_pos e)) (le_of_eq (place (suc (e - 1024)) 53 (sum low)))))
    where
      sum : 1024 ≤ e → suc (e - 1024) + 1076 ≡ 53 + e
      sum h = omega arith

  size_here : size n - 1 ≡ e - 1024
  size_here = one (size n) (e - 1024) (size-le n (suc (e - 1024)) most) (back (e - 1024) (size n) (lt_of_le_of_lt least (size-lt n)))
    where
      back : (i p : ℕ) → 2 ^ i < 2 ^ p → i < p
      back i p h = lt_of_not-le (λ (g : p ≤ i). lt_irrefl (2 ^ i) (lt_of_lt_of_le h (pow_mono g)))

      one : (s k : ℕ) → s ≤ suc k → k < s → s - 1 ≡ k
      one s k a b = omega arith

  scaled : n * 2 ^ 52 ≡ m * 2 ^ (e - 1024)
  scaled =
      eq_of_mul-eq-mul_right (2 ^ 1024) (pow_pos 1024) (n * 2 ^ 52) (m * 2 ^ (e - 1024))
      (mul_assoc n (2 ^ 52) (2 ^ 1024)
      ∙ value
      ∙ ap (λ (x : ℕ). m * x) (ap (λ (x : ℕ). 2 ^ x) (sum low) ∙ pow-add 2 (e - 1024) 1024)
      ∙ sym (mul_assoc m (2 ^ (e - 1024)) (2 ^ 1024)))
    where
      sum : 1024 ≤ e → e ≡ e - 1024 + 1024
      sum h = omega arith

  significand : round binary64 false n (2 ^ (size n - 1)) ≡ round binary64 false m (2 ^ 52)
  significand = ap (λ (k : ℕ). round binary64 false n (2 ^ k)) size_here ∙ round_same binary64 false n (2 ^ (e - 1024)) m (2 ^ 52) (pow_pos (e - 1024)) (pow_pos 52) scaled

  exponent : of_int binary64 (minus (size n - 1) 1074) ≡ of_int binary64 (minus e 2098)
  exponent =
      ap (λ (k : ℕ). of_int binary64 (minus k 1074)) size_here
      ∙ ap (of_int binary64) (sym (minus_shift (e - 1024) 1074 1024) ∙ ap (λ (k : ℕ). minus k 2098) (sum low))
    where
      sum : 1024 ≤ e → e - 1024 + 1024 ≡ e
      sum h = omega arith

-- ---- the significand by its pattern, m + 1022 * 2 ^ 52
module _ (m : ℕ) (full : 2 ^ 52 ≤ m) (small : m < 2 ^ 53) where
  field : (m + 4602678819172646912) / 2 ^ 52 ≡ 1023
  field = omega arith

  digits : 2 ^ 52 + (m + 4602678819172646912) % 2 ^ 52 ≡ m
  digits = omega arith

  from_pattern : HasValue (of_bits binary64 (m + 4602678819172646912)) false (m * 2 ^ 1022) (2 ^ 1074)
  from_pattern =
      subst (λ (x : ℕ). HasValue (of_bits binary64 (m + 4602678819172646912)) false x (2 ^ 1074))
      (ap (λ (f : ℕ). units_at f ((m + 4602678819172646912) % 2 ^ 52)) field ∙ ap (λ (x : ℕ). x * 2 ^ 1022) digits)
      (value_of_pattern (m + 4602678819172646912) (omega arith))

  split_power : 2 ^ 1074 ≡ 2 ^ 1022 * 2 ^ 52
  split_power = pow-add 2 1022 52

  pub pattern_is : of_bits binary64 (m + 4602678819172646912) ≡ round binary64 false m (2 ^ 52)
  pattern_is =
      same_value (of_bits binary64 (m + 4602678819172646912)) (round binary64 false m (2 ^ 52)) false m (2 ^ 52) (pow_pos 52) (of_bits-fits binary64 (m + 4602678819172646912)) (round-fits binary64 false m (2 ^ 52))
      (narrow (of_bits binary64 (m + 4602678819172646912)) from_pattern)
      (round_exact binary64 false m (2 ^ 52) m 1022 (pow_pos 52) small (lt_of_lt_of_le (mul-lt-mul_of_pos_right small (pow_pos 1022)) (le_trans (le_of_eq (sym (pow-add 2 53 1022))) (pow_mono {i = 1075} {j = 2098} (lit≤ tt))))
      (ap (λ (x : ℕ). m * x) split_power ∙ sym (mul_assoc m (2 ^ 1022) (2 ^ 52))))
    where
      narrow : (v : Float) → HasValue v false (m * 2 ^ 1022) (2 ^ 1074) → HasValue v false m (2 ^ 52)
      narrow nan h = h
      narrow (inf s) h = h
      narrow (fin s k d) h = (h.0, eq_of_mul-eq-mul_right (2 ^ 1022) (pow_pos 1022) (k * up d * 2 ^ 52) (m * down d) (wide ∙ h.1 ∙ mul_right_comm m (2 ^ 1022) (down d)))
        where
          wide : k * up d * 2 ^ 52 * 2 ^ 1022 ≡ k * up d * 2 ^ 1074
          wide = mul_assoc (k * up d) (2 ^ 52) (2 ^ 1022) ∙ ap (λ (x : ℕ). k * up d * x) (sym (pow-add 2 52 1022))

  pub pattern_no_nan : T (not (nan_bits binary64 (m + 4602678819172646912)))
  pattern_no_nan =
      subst (λ (b : Bool). T (not b)) (sym (nan_bits_above binary64 (m + 4602678819172646912)))
      (le→nltb (2047 * 2 ^ 52) ((m + 4602678819172646912) % 2 ^ 63) (omega arith))

-- ---- the exponent
pub exponent_fits : (e : ℕ) → e ≤ 3121 → T (in_float binary64 (pos e))
unfolding in_float
exponent_fits e h = le→leb e (2 ^ 53) (le_trans h (lit≤ tt))

offset : of_bits binary64 4656831965863870464 ≡ of_int binary64 (pos 2098)
unfolding of_bits of_int
offset = refl

whole : (n : ℕ) → n ≤ 2 ^ 53 → HasValue (of_int binary64 (pos n)) false n 1
unfolding of_int
whole n h = round_whole binary64 false n h

exponent_is : (e : ℕ) → e ≤ 3121 → sub binary64 (of_int binary64 (pos e)) (of_bits binary64 4656831965863870464) ≡ of_int binary64 (minus e 2098)
exponent_is e h = ap (sub binary64 (of_int binary64 (pos e))) offset ∙ whole_sub (of_int binary64 (pos e)) (of_int binary64 (pos 2098)) e 2098 (whole e (le_trans h (lit≤ tt))) (whole 2098 (lit≤ tt))

-- ---- the whole
pub ln_decomposed : (v : Float) (m e : ℕ) → T (positive v) → T (fits binary64 v) → Decomposition (to_bits binary64 v) m e
    → ln_at (of_bits binary64 (m + 4602678819172646912)) (sub binary64 (of_int binary64 (pos e)) (of_bits binary64 4656831965863870464)) ≡ ln_of v
ln_decomposed v m e p f s =
    let b = to_bits binary64 v in
    let n = units_at (b / 2 ^ 52) (b % 2 ^ 52) in
    let r = positive_bits v p f in
    let h : HasValue v false n (2 ^ 1074) = subst (λ (x : Float). HasValue x false n (2 ^ 1074)) (of_bits-to_bits binary64 v f) (value_of_pattern b r.1) in
    ap (λ (x : Float). ln_at x (sub binary64 (of_int binary64 (pos e)) (of_bits binary64 4656831965863870464))) (pattern_is m s.full s.small ∙ sym (significand n m e s.value s.full s.small s.low))
    ∙ ap (ln_at (round binary64 false n (2 ^ (size n - 1)))) (exponent_is e s.high ∙ sym (exponent n m e s.value s.full s.small s.low))
    ∙ sym (ln_of_value v n h (some_units b r.0))

-- ---- the other arguments
pub positive_number : (v : Float) → T (positive v) → T (not (is_nan v))
unfolding is_nan
positive_number nan p = absurd p
positive_number (inf s) p = absurd p
positive_number (fin s m e) p = tt

pub ln_below : (v : Float) → lt v (of_bits binary64 0) ≡ true → div binary64 (of_bits binary64 0) (of_bits binary64 0) ≡ ln_of v
unfolding ln_of of_bits div lt
ln_below nan h = absurd (yes false h)
ln_below (inf true) h = refl
ln_below (inf false) h = absurd (yes false h)
ln_below (fin true zero e) h = absurd (none (up e) (down e) (ltb→lt 0 (0 * up e * 1 + 0 * 1 * down e) (yes _ h)))
  where
    none : (u d : ℕ) → 0 < 0 * u * 1 + 0 * 1 * d → ⊥
    none u d h = omega arith
ln_below (fin true (suc m) e) h = refl
ln_below (fin false m e) h = absurd (none (m * up e) (down e) (ltb→lt (m * up e * 1) (0 * down e) (yes _ h)))
  where
    none : (a d : ℕ) → a * 1 < 0 * d → ⊥
    none a d h = omega arith

-- a zero's size
none_of : (u d : ℕ) → 0 * u * 1 ≡ 0 * d
none_of u d = omega arith

some_of : (m u : ℕ) → 0 < u → 0 < suc m * u * 1
some_of m u h = omega (arith, mul-pos (zero-lt-suc m) h)

pub ln_zero : (v : Float) → eq v (of_bits binary64 0) ≡ true → div binary64 (neg (of_bits binary64 4607182418800017408)) (of_bits binary64 0) ≡ ln_of v
unfolding ln_of of_bits div neg eq
ln_zero nan h = absurd (yes false h)
ln_zero (inf s) h = absurd (yes false h)
ln_zero (fin s zero e) h = refl
ln_zero (fin s (suc m) e) h = absurd (off (some_of m (up e) (up_pos e)) (eqb→eq (suc m * up e * 1) (0 * down e) (and_l (eqb (suc m * up e * 1) (0 * down e)) (beq s false || eqb (suc m * up e * 1) 0) (yes _ h))))
  where
    off : {x : ℕ} → 0 < x → x ≡ 0 * down e → ⊥
    off h k = omega arith

-- both zeros equal 0.0
zero_equal : (s : Bool) (e : ℤ) → T (eq (fin s zero e) (of_bits binary64 0))
unfolding eq of_bits
zero_equal s e = and_i (eqb (0 * up e * 1) (0 * down e)) (beq s false || eqb (0 * up e * 1) 0) (eq→eqb (none_of (up e) (down e))) (or_r (beq s false) (eqb (0 * up e * 1) 0) (eq→eqb (none (up e))))
  where
    none : (u : ℕ) → 0 * u * 1 ≡ 0
    none u = omega arith

    or_r : (a b : Bool) → T b → T (a || b)
    or_r true b t = tt
    or_r false b t = t

pub ln_above : (v : Float) → lt v (of_bits binary64 0) ≡ false → eq v (of_bits binary64 0) ≡ false → finite v ≡ true → T (positive v)
unfolding of_bits lt
ln_above nan h k f = absurd (yes false f)
ln_above (inf s) h k f = absurd (yes false f)
ln_above (fin s zero e) h k f = absurd (no _ k (zero_equal s e))
ln_above (fin true (suc m) e) h k f = absurd (no _ h (lt→ltb 0 (suc m * up e * 1 + 0 * down e) (more (some_of m (up e) (up_pos e)))))
  where
    more : {x : ℕ} → 0 < x → 0 < x + 0 * down e
    more h = omega arith
ln_above (fin false (suc m) e) h k f = lt→ltb 0 (suc m) (zero-lt-suc m)

pub ln_end : (v : Float) → lt v (of_bits binary64 0) ≡ false → finite v ≡ false → v ≡ ln_of v
unfolding ln_of of_bits lt
ln_end nan h f = refl
ln_end (inf true) h f = absurd (no true h tt)
ln_end (inf false) h f = refl
ln_end (fin s m e) h f = absurd (no true f tt)
