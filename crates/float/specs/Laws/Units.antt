-- The patterns of finite values that are not negative: what number each stands for, in units of the format's smallest
-- value, and where they lie. Assumes nothing.
use Rattle.std.specs.Prelude.{◌≡◌, refl, Bool, true, false, not, ℕ, zero, suc, ◌+◌, ◌-◌, ◌*◌, ◌/◌, ◌%◌, ◌^◌, ◌≤◌, ◌<◌, ℤ, Float}
use Rattle.std.proofs.Common.{sym, ap, ◌∙◌, subst, arith, pow_pos}
use native.Mathlib.Nat.{le_of_eq, lt_of_lt_of_le, mul-pos, mul_right_comm, mul-lt-mul_of_pos_right, div-lt_iff_lt-mul, le-div_iff_mul-le}
use lib.Dec.{T, leb, ltb→lt, lit≤}
use Rattle.std.proofs.Math.Arith.{lt→nleb}
use Rattle.std.specs.Float.{nan, inf, fin, binary64}
use Rattle.std.specs.Float.Ieee.{up, down, size, fits, of_fields, of_bits, to_bits}
use Rattle.std.specs.Float.Ieee.Bits.{is_false}
use Rattle.std.specs.Float.Ieee.Digits.{size-le}
use Rattle.std.specs.Float.Ieee.Exact.{HasValue}
use Rattle.std.specs.Float.Ieee.Fits.{up_pos, down_pos, kept-lt}
use Rattle.std.specs.Float.Ieee.Positive.{positive}
use Rattle.float.specs.Inner.Decomposition.{units_at}
use Rattle.float.specs.Laws.Remainder.{fits_digits}
use Rattle.float.specs.Inner.Fraction.{field_of}
use Rattle.float.specs.Laws.Exact.{fits_top}
use Rattle.float.specs.Laws.Fields.{of_fields_lem, fields_value}

-- ---- from a pattern to its value
pub plus_fields : (b : ℕ) → b < 2 ^ 63 → of_bits binary64 b ≡ of_fields binary64 false (b / 2 ^ 52) (b % 2 ^ 52)
plus_fields b h =
    of_fields_lem b
    ∙ ap (λ (s : Bool). of_fields binary64 s (field_of b) (b % 2 ^ 52)) (is_false (leb (2 ^ 63) b) (lt→nleb (2 ^ 63) b h))
    ∙ ap (λ (x : ℕ). of_fields binary64 false x (b % 2 ^ 52)) (plain b h)
  where
    plain : (b : ℕ) → b < 2 ^ 63 → b / 2 ^ 52 % 2048 ≡ b / 2 ^ 52
    plain b h = omega arith

pub value_of_pattern : (b : ℕ) → b < 2047 * 2 ^ 52 → HasValue (of_bits binary64 b) false (units_at (b / 2 ^ 52) (b % 2 ^ 52)) (2 ^ 1074)
value_of_pattern b h =
    subst (λ (v : Float). HasValue v false (units_at (b / 2 ^ 52) (b % 2 ^ 52)) (2 ^ 1074)) (sym (plus_fields b (lt_of_lt_of_le h (lit≤ tt)))) (fields_value false (b / 2 ^ 52) (b % 2 ^ 52) (field b h))
  where
    field : (b : ℕ) → b < 2047 * 2 ^ 52 → b / 2 ^ 52 < 2047
    field b h = omega arith

pub some_units : (b : ℕ) → 0 < b → 0 < units_at (b / 2 ^ 52) (b % 2 ^ 52)
some_units b h = go (b / 2 ^ 52) refl
  where
    go : (x : ℕ) → b / 2 ^ 52 ≡ x → 0 < units_at x (b % 2 ^ 52)
    go zero e = omega arith
    go (suc k) e = mul-pos (omega arith) (pow_pos k)

-- ---- where the patterns of finite values above zero lie
units_lt : (m : ℕ) (e : ℤ) → m * up e < 2 ^ 1024 * down e → m * up e * 2 ^ 1074 / down e < 2 ^ 2098
units_lt m e h =
    (div-lt_iff_lt-mul (down_pos e)).1
    (lt_of_lt_of_le (mul-lt-mul_of_pos_right h (pow_pos 1074)) (le_of_eq (mul_right_comm (2 ^ 1024) (down e) (2 ^ 1074))))

units_pos : (m : ℕ) (e : ℤ) → 0 < m → down e ≤ 2 ^ 1074 → 0 < m * up e * 2 ^ 1074 / down e
units_pos m e M L = (le-div_iff_mul-le (down_pos e)).1 (one (down e) (m * up e * 2 ^ 1074) (native.Mathlib.Nat.le_trans L (scale (m * up e) (2 ^ 1074) (mul-pos M (up_pos e)))))
  where
    one : (d x : ℕ) → d ≤ x → 1 * d ≤ x
    one d x h = omega arith

    scale : (a x : ℕ) → 0 < a → x ≤ a * x
    scale a x h = native.Mathlib.Nat.le_trans (le_of_eq (sym (native.Mathlib.Nat.one-mul x))) (native.Mathlib.Nat.mul-le-mul_right x h)

bits_in : (n : ℕ) → 0 < n → n < 2 ^ 2098 → (0 < (size n - 53) * 2 ^ 52 + n / 2 ^ (size n - 53)) × ((size n - 53) * 2 ^ 52 + n / 2 ^ (size n - 53) < 2047 * 2 ^ 52)
bits_in n N H = (low (size n) (n / 2 ^ (size n - 53)) first, high (size n) (n / 2 ^ (size n - 53)) (size-le n 2098 H) (kept-lt 53 n))
  where
    first : size n ≤ 53 → 0 < n / 2 ^ (size n - 53)
    first h = subst (λ (k : ℕ). 0 < n / 2 ^ k) (sym (none (size n) h)) ((le-div_iff_mul-le (pow_pos 0)).1 (one n N))
      where
        none : (k : ℕ) → k ≤ 53 → k - 53 ≡ 0
        none k h = omega arith

        one : (n : ℕ) → 0 < n → 1 * 1 ≤ n
        one n h = omega arith

    low : (k q : ℕ) → (k ≤ 53 → 0 < q) → 0 < (k - 53) * 2 ^ 52 + q
    low k q f = go (leb k 53) (lib.Dec.leb→le k 53) (lib.Dec.nleb→lt k 53)
      where
        go : (b : Bool) → (T b → k ≤ 53) → (T (not b) → 53 < k) → 0 < (k - 53) * 2 ^ 52 + q
        go true g h = let z = f (g tt) in omega arith
        go false g h = let z = h tt in omega arith

    high : (k q : ℕ) → k ≤ 2098 → q < 2 ^ 53 → (k - 53) * 2 ^ 52 + q < 2047 * 2 ^ 52
    high k q g h = omega arith

pub positive_bits : (x : Float) → T (positive x) → T (fits binary64 x) → (0 < to_bits binary64 x) × (to_bits binary64 x < 2047 * 2 ^ 52)
unfolding to_bits
positive_bits nan p f = absurd p
positive_bits (inf s) p f = absurd p
positive_bits (fin true m e) p f = absurd p
positive_bits (fin false m e) p f =
    let n = m * up e * 2 ^ 1074 / down e in
    let r = bits_in n (units_pos m e (ltb→lt 0 m p) (fits_digits false m e f).1) (units_lt m e (fits_top false m e f)) in
    (above (size n - 53) (n / 2 ^ (size n - 53)) r.0, below (size n - 53) (n / 2 ^ (size n - 53)) r.1)
  where
    above : (k q : ℕ) → 0 < k * 2 ^ 52 + q → 0 < 0 + k * 2 ^ 52 + q
    above k q h = omega arith

    below : (k q : ℕ) → k * 2 ^ 52 + q < 2047 * 2 ^ 52 → 0 + k * 2 ^ 52 + q < 2047 * 2 ^ 52
    below k q h = omega arith
