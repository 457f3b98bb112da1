-- How `decompose` takes a pattern apart. Assumes nothing.
use mathlib.Core.Path.{◌≡◌, refl, sym, ap, ◌∙◌, subst}
use Prim.Native.Nat.{ℕ, zero, suc, ◌+◌, ◌-◌, ◌*◌, ◌/◌, ◌%◌, ◌^◌, ◌≤◌, ◌<◌}
use native.Mathlib.Nat.{le_trans, le_of_eq, lt_of_lt_of_le, lt_of_not-le, lt_irrefl, mul_assoc, mul-le-mul_right, mul-lt-mul_of_pos_right, mod-eq_of_lt}
use native.Mathlib.Omega.{arith}
use lib.Pow.{pow-add, pow_pos, pow_mono}
use lib.Dec.{lit≤}
use lib.Count.{count_leading_zeros, leading_top}
use Rattle.float.specs.Inner.Decomposition.{units_at, Decomposition}

pow_back : (i p : ℕ) → 2 ^ i < 2 ^ p → i < p
pow_back i p h = lt_of_not-le (λ (g : p ≤ i). lt_irrefl (2 ^ i) (lt_of_lt_of_le h (pow_mono g)))

sum_is : (a b c : ℕ) → a + b ≡ c → 2 ^ a * 2 ^ b ≡ 2 ^ c
sum_is a b c e = sym (pow-add 2 a b) ∙ ap (λ (z : ℕ). 2 ^ z) e

-- how far t is moved up so that it has 53 digits
abbrev shift : ℕ → ℕ
shift t = count_leading_zeros 64 t - 11

module _ (t : ℕ) (p : 0 < t) (h : t < 2 ^ 52) where
  lead : (j : ℕ) × (count_leading_zeros 64 t + suc j ≡ 64) × (2 ^ j ≤ t) × (t < 2 ^ suc j)
  lead = leading_top 64 t p (lt_of_lt_of_le h (lit≤ tt))

  few : lead.0 < 52
  few = pow_back lead.0 52 (le_of_le_lt lead.2 h)
    where
      le_of_le_lt : {a b c : ℕ} → a ≤ b → b < c → a < c
      le_of_le_lt x y = omega arith

  pub enough : 11 ≤ count_leading_zeros 64 t
  enough = go (count_leading_zeros 64 t) lead.0 lead.1 few
    where
      go : (z j : ℕ) → z + suc j ≡ 64 → j < 52 → 11 ≤ z
      go z j a b = omega arith

  up_to : (lead.0 + shift t ≡ 52) × (suc lead.0 + shift t ≡ 53) × (shift t ≤ 52)
  up_to = go (count_leading_zeros 64 t) lead.0 lead.1 few
    where
      go : (z j : ℕ) → z + suc j ≡ 64 → j < 52 → (j + (z - 11) ≡ 52) × (suc j + (z - 11) ≡ 53) × (z - 11 ≤ 52)
      go z j a b = omega arith

  pub shift_le : shift t ≤ 52
  shift_le = up_to.2

  lo : 2 ^ 52 ≤ t * 2 ^ shift t
  lo = le_trans (le_of_eq (sym (sum_is lead.0 (shift t) 52 up_to.0))) (mul-le-mul_right (2 ^ shift t) lead.2)

  hi : t * 2 ^ shift t < 2 ^ 53
  hi = lt_of_lt_of_le (mul-lt-mul_of_pos_right lead.3 (pow_pos (shift t))) (le_of_eq (sum_is (suc lead.0) (shift t) 53 up_to.1))

  kept : t * 2 ^ shift t % 2 ^ 64 ≡ t * 2 ^ shift t
  kept = mod-eq_of_lt (lt_of_lt_of_le hi (lit≤ tt))

  back : (z : ℕ) → z ≤ 52 → z + (1076 - z) ≡ 1076
  back z l = omega arith

  pub decompose_low : (b : ℕ) → b / 2 ^ 52 ≡ 0 → b % 2 ^ 52 ≡ t → Decomposition b (t * 2 ^ shift t % 2 ^ 64) (1076 - shift t)
  decompose_low b e f = record {
    value =
        ap (λ (x : ℕ). units_at x (b % 2 ^ 52) * 2 ^ 1076) e
        ∙ ap (λ (x : ℕ). x * 2 ^ 1076) f
        ∙ ap (λ (x : ℕ). t * x) (sym (sum_is (shift t) (1076 - shift t) 1076 (back (shift t) shift_le)))
        ∙ sym (mul_assoc t (2 ^ shift t) (2 ^ (1076 - shift t)))
        ∙ ap (λ (x : ℕ). x * 2 ^ (1076 - shift t)) (sym kept);
    full = le_trans lo (le_of_eq (sym kept));
    small = lt_of_lt_of_le (subst (λ (x : ℕ). x < 2 ^ 53) (sym kept) hi) (le_of_eq refl);
    low = let l = shift_le in omega arith;
    high = omega arith;
  }

decompose_high : (b k : ℕ) → b / 2 ^ 52 ≡ suc k → k < 2046 → Decomposition b (2 ^ 52 + b % 2 ^ 52) (1075 + b / 2 ^ 52)
decompose_high b k e l = record {
  value =
      ap (λ (x : ℕ). units_at x (b % 2 ^ 52) * 2 ^ 1076) e
      ∙ mul_assoc (2 ^ 52 + b % 2 ^ 52) (2 ^ k) (2 ^ 1076)
      ∙ ap (λ (x : ℕ). (2 ^ 52 + b % 2 ^ 52) * x) (sum_is k 1076 (1075 + b / 2 ^ 52) (count k (b / 2 ^ 52) e));
  full = omega arith;
  small = omega arith;
  low = omega arith;
  high = omega arith;
}
  where
    count : (k f : ℕ) → f ≡ suc k → k + 1076 ≡ 1075 + f
    count k f e = omega arith

pub decompose_normal : (b : ℕ) → b < 2047 * 2 ^ 52 → (b / 2 ^ 52 ≡ 0 → ⊥) → Decomposition b (2 ^ 52 + b % 2 ^ 52) (1075 + b / 2 ^ 52)
decompose_normal b h n = go (b / 2 ^ 52) refl
  where
    go : (f : ℕ) → b / 2 ^ 52 ≡ f → Decomposition b (2 ^ 52 + b % 2 ^ 52) (1075 + b / 2 ^ 52)
    go zero e = absurd (n e)
    go (suc k) e = decompose_high b k e (omega arith)
