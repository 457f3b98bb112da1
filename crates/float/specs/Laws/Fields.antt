-- Patterns of either sign: what number a finite one stands for, and which pattern a number of 53 digits has. Assumes
-- nothing.
use Rattle.std.specs.Prelude.{◌≡◌, refl, ◌⊎◌, Bool, true, false, not, cond, ℕ, zero, suc, ◌+◌, ◌-◌, ◌*◌, ◌/◌, ◌%◌, ◌^◌, ◌≤◌, ◌<◌, T, eqb, Float}
use Rattle.std.proofs.Common.{sym, ap, ◌∙◌, subst, inl, inr, le_of_eq, lt_of_le_of_lt, lt_irrefl, eq-or-lt_of_le, mul-one, mul_comm, mul_assoc, mul-le-mul_right, mul-lt-mul_of_pos_right, mul-div_cancel, pow-suc, arith, eqb→eq, lit<, pow-add, pow_pos}
use Rattle.std.proofs.Math.Dec.{not_T}
use Rattle.std.specs.Float.{nan, inf, fin, binary64}
use Rattle.std.specs.Float.Ieee.{up, down, size, odd, fits, of_fields, of_bits, to_bits}
use Rattle.std.specs.Float.Ieee.Digits.{size-le}
use Rattle.std.specs.Float.Ieee.Fits.{down_pos}
use Rattle.std.specs.Float.Ieee.Exact.{HasValue, odd_sign}
use Rattle.std.specs.Float.Ieee.Bits.{of_bits-to_bits}
use Rattle.float.specs.Inner.Decomposition.{units_at}
use Rattle.float.specs.Inner.Fraction.{sign_of, field_of}
use Rattle.float.specs.Laws.Quick.{size_gt}

-- ---- from a pattern to its value
pub fields_value : (s : Bool) (x t : ℕ) → x < 2047 → HasValue (of_fields binary64 s x t) s (units_at x t) (2 ^ 1074)
unfolding of_fields
fields_value s zero t h = subst (λ (n : ℕ). HasValue (odd 53 s t 0 1074) s n (2 ^ 1074)) (mul-one t) (odd_sign 53 s t 0 1074)
fields_value s (suc x) t h = go (eqb (suc x) 2047) (not_T (eqb (suc x) 2047) (λ u. lt_irrefl 2047 (subst (λ (n : ℕ). n < 2047) (eqb→eq (suc x) 2047 u) h)))
  where
    go : (b : Bool) → T (not b) → HasValue (cond b (cond (eqb t 0) (inf s) nan) (odd 53 s (2 ^ 52 + t) x 1074)) s ((2 ^ 52 + t) * 2 ^ x) (2 ^ 1074)
    go true n = absurd n
    go false n = odd_sign 53 s (2 ^ 52 + t) x 1074

pub of_fields_lem : (b : ℕ) → of_bits binary64 b ≡ of_fields binary64 (sign_of b) (field_of b) (b % 2 ^ 52)
unfolding of_bits
of_fields_lem b = ap (λ (x : ℕ). of_fields binary64 (sign_of b) x (b % 2 ^ 52)) (same b)
  where
    same : (b : ℕ) → b % 9223372036854775808 / 4503599627370496 ≡ b / 4503599627370496 % 2048
    same b = omega arith

pub pattern_value : (b : ℕ) → field_of b < 2047 → HasValue (of_bits binary64 b) (sign_of b) (units_at (field_of b) (b % 2 ^ 52)) (2 ^ 1074)
pattern_value b h = subst (λ (v : Float). HasValue v (sign_of b) (units_at (field_of b) (b % 2 ^ 52)) (2 ^ 1074)) (sym (of_fields_lem b)) (fields_value (sign_of b) (field_of b) (b % 2 ^ 52) h)

-- ---- from a value to its pattern
bits_of : (v : Float) (s : Bool) (n : ℕ) → HasValue v s n (2 ^ 1074) → to_bits binary64 v ≡ cond s (2 ^ 63) 0 + (size n - 53) * 2 ^ 52 + n / 2 ^ (size n - 53)
unfolding to_bits
bits_of nan s n h = absurd h
bits_of (inf t) s n h = absurd h
bits_of (fin t m e) s n h =
    ap (λ (u : Bool). cond u (2 ^ 63) 0 + (size (m * up e * 2 ^ 1074 / down e) - 53) * 2 ^ 52 + m * up e * 2 ^ 1074 / down e / 2 ^ (size (m * up e * 2 ^ 1074 / down e) - 53)) h.0
    ∙ ap (λ (x : ℕ). cond s (2 ^ 63) 0 + (size x - 53) * 2 ^ 52 + x / 2 ^ (size x - 53)) (ap (λ (x : ℕ). x / down e) h.1 ∙ mul-div_cancel n (down_pos e))

-- 53 digits, and j zeros after them
pub size-at : (j n : ℕ) → 2 ^ 52 * 2 ^ j ≤ n → n < 2 ^ 53 * 2 ^ j → size n ≡ 53 + j
size-at j n lo hi =
    let most : size n ≤ 53 + j = size-le n (53 + j) (subst (λ (x : ℕ). n < x) (sym (pow-add 2 53 j)) hi) in
    let least : 52 + j < size n = size_gt n (52 + j) (subst (λ (x : ℕ). x ≤ n) (sym (pow-add 2 52 j)) lo) in
    omega arith

-- the digits' leading one adds one to the exponent's field, and so does a carry to 2 ^ 53
pub pattern_of : (v : Float) (s : Bool) (q j : ℕ) → 2 ^ 52 ≤ q → q ≤ 2 ^ 53 → HasValue v s (q * 2 ^ j) (2 ^ 1074) → to_bits binary64 v ≡ cond s (2 ^ 63) 0 + j * 2 ^ 52 + q
pattern_of v s q j lo hi h = bits_of v s (q * 2 ^ j) h ∙ go (eq-or-lt_of_le hi)
  where
    less : (j : ℕ) → 53 + j - 53 ≡ j
    less j = omega arith

    at : (k n r : ℕ) → size n ≡ 53 + k → n ≡ r * 2 ^ k → cond s (2 ^ 63) 0 + (size n - 53) * 2 ^ 52 + n / 2 ^ (size n - 53) ≡ cond s (2 ^ 63) 0 + k * 2 ^ 52 + r
    at k n r e f =
        ap (λ (x : ℕ). cond s (2 ^ 63) 0 + x * 2 ^ 52 + n / 2 ^ x) (ap (λ (x : ℕ). x - 53) e ∙ less k)
        ∙ ap (λ (x : ℕ). cond s (2 ^ 63) 0 + k * 2 ^ 52 + x) (ap (λ (x : ℕ). x / 2 ^ k) f ∙ mul-div_cancel r (pow_pos k))

    carry : (c j : ℕ) → c + suc j * 2 ^ 52 + 2 ^ 52 ≡ c + j * 2 ^ 52 + 2 ^ 53
    carry c j = omega arith

    go : (q ≡ 2 ^ 53) ⊎ (q < 2 ^ 53) → cond s (2 ^ 63) 0 + (size (q * 2 ^ j) - 53) * 2 ^ 52 + q * 2 ^ j / 2 ^ (size (q * 2 ^ j) - 53) ≡ cond s (2 ^ 63) 0 + j * 2 ^ 52 + q
    go (inl e) =
        let f : q * 2 ^ j ≡ 2 ^ 52 * 2 ^ suc j = ap (λ (x : ℕ). x * 2 ^ j) e ∙ mul_assoc (2 ^ 52) 2 (2 ^ j) ∙ ap (λ (x : ℕ). 2 ^ 52 * x) (mul_comm 2 (2 ^ j) ∙ sym (pow-suc 2 j)) in
        at (suc j) (q * 2 ^ j) (2 ^ 52) (size-at (suc j) (q * 2 ^ j) (le_of_eq (sym f)) (lt_of_le_of_lt (le_of_eq f) (mul-lt-mul_of_pos_right (lit< tt) (pow_pos (suc j))))) f
        ∙ carry (cond s (2 ^ 63) 0) j
        ∙ ap (λ (x : ℕ). cond s (2 ^ 63) 0 + j * 2 ^ 52 + x) (sym e)
    go (inr l) = at j (q * 2 ^ j) q (size-at j (q * 2 ^ j) (mul-le-mul_right (2 ^ j) lo) (mul-lt-mul_of_pos_right l (pow_pos j))) refl

pub pattern_reads : (v : Float) (s : Bool) (q j : ℕ) → T (fits binary64 v) → 2 ^ 52 ≤ q → q ≤ 2 ^ 53 → HasValue v s (q * 2 ^ j) (2 ^ 1074) → of_bits binary64 (cond s (2 ^ 63) 0 + j * 2 ^ 52 + q) ≡ v
pattern_reads v s q j F lo hi h = ap (of_bits binary64) (sym (pattern_of v s q j lo hi h)) ∙ of_bits-to_bits binary64 v F
