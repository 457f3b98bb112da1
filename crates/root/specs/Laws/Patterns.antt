-- `root_of` of the value of a bit pattern. Assumes nothing.
use Rattle.std.specs.Prelude.{◌≡◌, refl, Bool, not, cond, ◌⊎◌, ℕ, zero, suc, ◌+◌, ◌-◌, ◌*◌, ◌/◌, ◌%◌, ◌^◌, ◌≤◌, ◌<◌, ℤ, T, leb, eqb, Float}
use Rattle.std.proofs.Common.{sym, ap, ◌∙◌, subst, true≢false, inl, inr, le_of_lt, lt_of_le_of_lt, lt_irrefl, zero-mul, mul_assoc, mul_right_comm, mul-pos, mul-div_cancel, mul-le-mul_right, mul-lt-mul_of_pos_right, zero-lt-suc, arith, le→leb, pow_pos}
use Rattle.std.proofs.Math.Bool.{true, false}
use Rattle.std.proofs.Math.Nat.{mul-mul-mul_comm}
use Rattle.std.proofs.Math.Dec.{eqb_refl}
use Rattle.std.specs.Float.{nan, inf, fin, binary64}
use Rattle.std.specs.Float.Ieee.{up, down, odd, of_fields, of_bits, nan_bits}
use Rattle.std.specs.Float.Ieee.Fits.{down_pos}
use Rattle.std.specs.Float.Ieee.Exact.{HasValue, odd_sign}
use Rattle.std.specs.Float.Ieee.Bits.{is_true}
use Rattle.float.specs.Inner.Decomposition.{units_at, Decomposition}
use Rattle.float.specs.Laws.Patterns.{of_bits_is}
use Rattle.float.specs.Laws.Units.{plus_fields, value_of_pattern, some_units}
use Rattle.std.specs.Int.Count.{count_trailing_zeros}
use Rattle.root.specs.Digits.{digits_at, digits_of}
use Rattle.root.specs.Laws.Counted.{counted_exact, counted_other}
use Rattle.root.specs.Root.{scaled, root_at, root_of}
use Rattle.root.specs.Laws.Whole.{IsRoot, sq_le_root, sq_lt_back, pow_sum}
use Rattle.root.specs.Laws.Form.{root_no_nan}

-- ---- by a value's size
not_none : (n d : ℕ) → 0 < n → 0 < d → 0 ≡ n * d → ⊥
not_none n d N D e = lt_irrefl 0 (subst (λ (x : ℕ). 0 < x) (sym e) (mul-pos N D))

pub scaled-is : (m : ℕ) (e : ℤ) (n : ℕ) → m * up e * 2 ^ 1074 ≡ n * down e → scaled m e ≡ n * 2 ^ 1076
unfolding scaled
scaled-is m e n h =
    ap (λ (x : ℕ). x / down e)
    (sym (mul_assoc (m * up e) (2 ^ 1074) (2 ^ 1076)) ∙ ap (λ (x : ℕ). x * 2 ^ 1076) h ∙ mul_right_comm n (down e) (2 ^ 1076))
    ∙ mul-div_cancel (n * 2 ^ 1076) (down_pos e)

-- a value with the size 0 is no value of n / c
no_size : (e : ℤ) (n c : ℕ) → 0 < n → 0 * up e * c ≡ n * down e → ⊥
no_size e n c N h = not_none n (down e) N (down_pos e) (sym (ap (λ (x : ℕ). x * c) (zero-mul (up e)) ∙ zero-mul c) ∙ h)

pub root_of_value : (v : Float) (n : ℕ) → HasValue v false n (2 ^ 1074) → 0 < n → root_of v ≡ root_at (n * 2 ^ 1076)
unfolding root_of
root_of_value nan n h N = absurd h
root_of_value (inf s) n h N = absurd h
root_of_value (fin s zero e) n h N = absurd (no_size e n (2 ^ 1074) N h.1)
root_of_value (fin true (suc m) e) n h N = absurd (true≢false h.0)
root_of_value (fin false (suc m) e) n h N = ap root_at (scaled-is (suc m) e n h.1)

digits_of_value : (v : Float) (n : ℕ) → HasValue v false n (2 ^ 1074) → 0 < n → digits_of v ≡ digits_at (n * 2 ^ 1076)
unfolding digits_of
digits_of_value nan n h N = absurd h
digits_of_value (inf s) n h N = absurd h
digits_of_value (fin s zero e) n h N = absurd (no_size e n (2 ^ 1074) N h.1)
digits_of_value (fin true (suc m) e) n h N = absurd (true≢false h.0)
digits_of_value (fin false (suc m) e) n h N = ap digits_at (scaled-is (suc m) e n h.1)

below_zero : (v : Float) (n c : ℕ) → HasValue v true n c → 0 < n → (nan ≡ root_of v) × (0 ≡ digits_of v)
unfolding root_of digits_of
below_zero nan n c h N = absurd h
below_zero (inf s) n c h N = absurd h
below_zero (fin s zero e) n c h N = absurd (no_size e n c N h.1)
below_zero (fin true (suc m) e) n c h N = (refl, refl)
below_zero (fin false (suc m) e) n c h N = absurd (true≢false (sym h.0))

-- ---- a zero, an infinity, and what is below zero
-- the value is its own root, and no digits are worked out
abbrev pub Own : Float → Type 0
Own v = (v ≡ root_of v) × (0 ≡ digits_of v)

plus-zero : Own (of_bits binary64 0)
unfolding root_of digits_of of_bits
plus-zero = (refl, refl)

minus_zero : Own (of_bits binary64 (2 ^ 63))
unfolding root_of digits_of of_bits
minus_zero = (refl, refl)

pub at_zero : (b : ℕ) → b < 2 ^ 64 → b % 2 ^ 63 ≡ 0 → Own (of_bits binary64 b)
at_zero b h e = go (b / 2 ^ 63) refl
  where
    go : (x : ℕ) → b / 2 ^ 63 ≡ x → Own (of_bits binary64 b)
    go zero f = subst (λ (n : ℕ). Own (of_bits binary64 n)) (omega arith) plus-zero
    go (suc x) f = subst (λ (n : ℕ). Own (of_bits binary64 n)) (omega arith) minus_zero

at_ones : (s : Bool) (x t : ℕ) → x ≡ 2047 → of_fields binary64 s x t ≡ cond (eqb t 0) (inf s) nan
unfolding of_fields
at_ones s zero t e = absurd (omega arith)
at_ones s (suc x) t e = ap (λ (b : Bool). cond b (cond (eqb t 0) (inf s) nan) (odd 53 s (2 ^ 52 + t) x 1074)) (is_true (eqb (suc x) 2047) (subst (λ (n : ℕ). T (eqb (suc x) n)) e (eqb_refl (suc x))))

pub at_infinity : (b : ℕ) → b < 2 ^ 63 → 2047 * 2 ^ 52 ≤ b → Own (of_bits binary64 b)
at_infinity b h k = subst Own (sym (plus_fields b h ∙ at_ones false (b / 2 ^ 52) (b % 2 ^ 52) (omega arith))) (go (eqb (b % 2 ^ 52) 0))
  where
    go : (z : Bool) → Own (cond z (inf false) nan)
    go true = unfold root_of digits_of in (refl, refl)
    go false = unfold root_of digits_of in (refl, refl)

-- it has no root
abbrev pub None : Float → Type 0
None v = (nan ≡ root_of v) × (0 ≡ digits_of v)

minus_value : (x t : ℕ) → (x ≡ 0 → 0 < t) → None (of_fields binary64 true x t)
unfolding of_fields
minus_value zero t h = below_zero (odd 53 true t 0 1074) (t * 1) (2 ^ 1074) (odd_sign 53 true t 0 1074) (mul-pos (h refl) (zero-lt-suc 0))
minus_value (suc x) t h = go (eqb (suc x) 2047) (eqb t 0)
  where
    go : (b c : Bool) → None (cond b (cond c (inf true) nan) (odd 53 true (2 ^ 52 + t) x 1074))
    go true true = unfold root_of digits_of in (refl, refl)
    go true false = unfold root_of digits_of in (refl, refl)
    go false c = below_zero (odd 53 true (2 ^ 52 + t) x 1074) ((2 ^ 52 + t) * 2 ^ x) (2 ^ 1074) (odd_sign 53 true (2 ^ 52 + t) x 1074) (mul-pos (omega arith) (pow_pos x))

pub at_minus : (b : ℕ) → b < 2 ^ 64 → 2 ^ 63 < b → None (of_bits binary64 b)
at_minus b h k =
    subst None (sym (of_bits_is b ∙ ap (λ (s : Bool). of_fields binary64 s (b % 2 ^ 63 / 2 ^ 52) (b % 2 ^ 52)) (is_true (leb (2 ^ 63) b) (le→leb (2 ^ 63) b (le_of_lt k)))))
    (minus_value (b % 2 ^ 63 / 2 ^ 52) (b % 2 ^ 52) (λ e. omega arith))

-- ---- finite and above zero: m * 2 ^ e is m' * 4 ^ (e / 2), m doubled where e is odd
-- what is told of a root p of a, of 54 digits
abbrev pub Told : ℕ → ℕ → ℕ → Type 0
Told a p d = (p * p ≡ a → d ≡ 54 - count_trailing_zeros 54 p) × ((p * p ≡ a → ⊥) → d ≡ 54)

abbrev pub Evened : ℕ → ℕ → ℕ → Type 0
Evened m e m' = ((e % 2 ≡ 1) × (m' ≡ m * 2)) ⊎ ((e % 2 ≡ 1 → ⊥) × (m' ≡ m))

-- 27 places of the root are set apart
pub evened : (m e m' : ℕ) → 1024 ≤ e → Evened m e m' → m * 2 ^ e ≡ m' * 2 ^ 54 * (2 ^ (e / 2 - 27) * 2 ^ (e / 2 - 27))
evened m e m' l w = go w ∙ sym (apart (e / 2) (omega arith))
  where
    apart : (h : ℕ) → 27 ≤ h → m' * 2 ^ 54 * (2 ^ (h - 27) * 2 ^ (h - 27)) ≡ m' * (2 ^ h * 2 ^ h)
    apart h g =
        mul_assoc m' (2 ^ 54) (2 ^ (h - 27) * 2 ^ (h - 27))
        ∙ ap (λ (x : ℕ). m' * x) (mul-mul-mul_comm (2 ^ 27) (2 ^ 27) (2 ^ (h - 27)) (2 ^ (h - 27)) ∙ ap (λ (x : ℕ). x * x) (pow_sum 27 (h - 27) h (omega arith)))

    go : Evened m e m' → m * 2 ^ e ≡ m' * (2 ^ (e / 2) * 2 ^ (e / 2))
    go (inl w) =
        ap (λ (x : ℕ). m * x) (sym (pow_sum 1 (2 * (e / 2)) e (omega arith)) ∙ ap (λ (x : ℕ). 2 * x) (sym (pow_sum (e / 2) (e / 2) (2 * (e / 2)) (omega arith))))
        ∙ sym (mul_assoc m 2 (2 ^ (e / 2) * 2 ^ (e / 2)))
        ∙ ap (λ (x : ℕ). x * (2 ^ (e / 2) * 2 ^ (e / 2))) (sym w.1)
    go (inr w) = ap (λ (x : ℕ). m * x) (sym (pow_sum (e / 2) (e / 2) e (omega arith))) ∙ ap (λ (x : ℕ). x * (2 ^ (e / 2) * 2 ^ (e / 2))) (sym w.1)

module _ {b m e m' : ℕ} (S : Decomposition b m e) (w : Evened m e m') where
  pub m_in : (2 ^ 52 ≤ m') × (m' < 2 ^ 54)
  m_in = go w S.full S.small
    where
      go : Evened m e m' → 2 ^ 52 ≤ m → m < 2 ^ 53 → (2 ^ 52 ≤ m') × (m' < 2 ^ 54)
      go (inl w) x y = omega arith
      go (inr w) x y = omega arith

  module _ {p : ℕ} (A : IsRoot (m' * 2 ^ 54) p) where
    pub p-lo : 2 ^ 53 ≤ p
    p-lo = sq_le_root (2 ^ 53) A (mul-le-mul_right (2 ^ 54) m_in.0)

    pub p-hi : p < 2 ^ 54
    p-hi = sq_lt_back p (2 ^ 54) (lt_of_le_of_lt A.least (mul-lt-mul_of_pos_right m_in.1 (pow_pos 54)))

    pub fine : e / 2 - 27 < 1994
    fine = let h = S.high in omega arith

    pub pattern_no_nan : T (not (nan_bits binary64 ((e / 2 - 27) * 2 ^ 52 + (p + 1) / 2)))
    pattern_no_nan = let h = p-hi in root_no_nan (e / 2 - 27) ((p + 1) / 2) fine (omega arith)

    as_form : 0 < b → b < 2047 * 2 ^ 52 → digits_of (of_bits binary64 b) ≡ digits_at (m' * 2 ^ 54 * (2 ^ (e / 2 - 27) * 2 ^ (e / 2 - 27)))
    as_form B F =
        digits_of_value (of_bits binary64 b) (units_at (b / 2 ^ 52) (b % 2 ^ 52)) (value_of_pattern b F) (some_units b B)
        ∙ ap digits_at (S.value ∙ evened m e m' S.low w)

    pub pattern_digits : 0 < b → b < 2047 * 2 ^ 52 → Told (m' * 2 ^ 54) p (digits_of (of_bits binary64 b))
    pattern_digits B F =
        ((λ h. as_form B F ∙ counted_exact (m' * 2 ^ 54) p (e / 2 - 27) A p-lo p-hi h), (λ h. as_form B F ∙ counted_other (m' * 2 ^ 54) p (e / 2 - 27) A p-lo p-hi h))
