-- The number of digits of a root in its normal form: for n = a * 4 ^ j and the whole root p of a, of 54 digits, an
-- exact root has all but the zeros at p's end. Assumes nothing.
use Rattle.std.specs.Prelude.{◌≡◌, Bool, ℕ, zero, suc, ◌+◌, ◌-◌, ◌*◌, ◌/◌, ◌%◌, ◌^◌, ◌≤◌, ◌<◌, eqb}
use Rattle.std.proofs.Math.Path.{refl, ap}
use Rattle.std.proofs.Common.{sym, ap₂, ◌∙◌, subst, le_of_eq, mul-one, zero-add, suc-add, mul-le-mul_right, mul-lt-mul_of_pos_right, pow-suc, eqb→eq, pow_pos}
use Rattle.std.proofs.Math.Bool.{true, false, cond}
use Rattle.std.proofs.Math.Nat.{mul-mul-mul_comm}
use native.Mathlib.Omega.{arith}
use Rattle.std.proofs.Math.Dec.{T, eqb_refl}
use Rattle.std.specs.Int.Bits.{shifted_half, shifted_even}
use Rattle.std.specs.Int.Count.{count_trailing_zeros, under}
use Rattle.std.specs.Float.Ieee.{size}
use Rattle.std.specs.Float.Ieee.Bits.{is_true}
use Rattle.float.specs.Laws.Fields.{size-at}
use Rattle.root.specs.Root.{isqrt}
use Rattle.root.specs.Laws.Whole.{IsRoot, isqrt_root, square_out, exact_is, root_unique}
use Rattle.root.specs.Digits.{significant, digits_at}

-- ---- zeros at the end
pub zeros_shifted : (j d e p : ℕ) → e ≡ j + d → count_trailing_zeros e (p * 2 ^ j) ≡ j + count_trailing_zeros d p
unfolding count_trailing_zeros
zeros_shifted zero d e p h = ap₂ count_trailing_zeros (h ∙ zero-add d) (mul-one p) ∙ sym (zero-add (count_trailing_zeros d p))
zeros_shifted (suc j) d zero p h = absurd (omega arith)
zeros_shifted (suc j) d (suc e) p h =
    ap (λ (r : ℕ). under r (count_trailing_zeros e (p * 2 ^ suc j / 2))) (shifted_even p j)
    ∙ ap (λ (x : ℕ). suc (count_trailing_zeros e x)) (shifted_half p j)
    ∙ ap suc (zeros_shifted j d e p (omega arith))
    ∙ sym (suc-add j (count_trailing_zeros d p))

-- more digits to look at change nothing above zero
pub zeros-more : (d e n : ℕ) → d ≤ e → 0 < n → n < 2 ^ d → count_trailing_zeros e n ≡ count_trailing_zeros d n
unfolding count_trailing_zeros
zeros-more zero e n l N h = absurd (omega arith)
zeros-more (suc d) zero n l N h = absurd (omega arith)
zeros-more (suc d) (suc e) n l N h = go (n % 2) refl (λ k. zeros-more d e (n / 2) (omega arith) k (halved (subst (λ (x : ℕ). n < x) (pow-suc 2 d) h)))
  where
    halved : {w : ℕ} → n < w * 2 → n / 2 < w
    halved h = omega arith

    go : (r : ℕ) → n % 2 ≡ r → (0 < n / 2 → count_trailing_zeros e (n / 2) ≡ count_trailing_zeros d (n / 2)) → under r (count_trailing_zeros e (n / 2)) ≡ under r (count_trailing_zeros d (n / 2))
    go zero f k = ap suc (k (omega arith))
    go (suc r) f k = refl

pub exact_root : (n r : ℕ) → r * r ≡ n → IsRoot n r
exact_root n r e = record { least = le_of_eq e; most = omega arith }

module _ (a p j : ℕ) (A : IsRoot a p) (lo : 2 ^ 53 ≤ p) (hi : p < 2 ^ 54) where
  abbrev n : ℕ
  n = a * (2 ^ j * 2 ^ j)

  size_is : size (p * 2 ^ j) ≡ j + 54
  size_is =
      size-at (suc j) (p * 2 ^ j)
      (subst (λ (x : ℕ). 2 ^ 52 * x ≤ p * 2 ^ j) (sym (pow-suc 2 j)) (at_least (2 ^ j) (mul-le-mul_right (2 ^ j) lo)))
      (subst (λ (x : ℕ). p * 2 ^ j < 2 ^ 53 * x) (sym (pow-suc 2 j)) (at_most (2 ^ j) (mul-lt-mul_of_pos_right hi (pow_pos j))))
      ∙ same
    where
      same : 53 + suc j ≡ j + 54
      same = omega arith

      at_least : (w : ℕ) → 2 ^ 53 * w ≤ p * w → 2 ^ 52 * (w * 2) ≤ p * w
      at_least w h = omega arith

      at_most : (w : ℕ) → p * w < 2 ^ 54 * w → p * w < 2 ^ 53 * (w * 2)
      at_most w h = omega arith

  digits : significant (p * 2 ^ j) ≡ 54 - count_trailing_zeros 54 p
  unfolding significant
  digits = ap (λ (x : ℕ). x - count_trailing_zeros x (p * 2 ^ j)) size_is ∙ ap (λ (x : ℕ). j + 54 - x) (zeros_shifted j 54 (j + 54) p refl) ∙ less (count_trailing_zeros 54 p)
    where
      less : (t : ℕ) → j + 54 - (j + t) ≡ 54 - t
      less t = omega arith

  pub counted_exact : p * p ≡ a → digits_at (a * (2 ^ j * 2 ^ j)) ≡ 54 - count_trailing_zeros 54 p
  unfolding digits_at
  counted_exact e =
      let s : p * 2 ^ j * (p * 2 ^ j) ≡ n = mul-mul-mul_comm p (2 ^ j) p (2 ^ j) ∙ ap (λ (x : ℕ). x * (2 ^ j * 2 ^ j)) e in
      ap (λ (x : ℕ). cond (eqb (x * x) n) (significant x) 54) (root_unique (isqrt_root n) (exact_root n (p * 2 ^ j) s))
      ∙ ap (λ (b : Bool). cond b (significant (p * 2 ^ j)) 54) (is_true (eqb (p * 2 ^ j * (p * 2 ^ j)) n) (subst (λ (x : ℕ). T (eqb (p * 2 ^ j * (p * 2 ^ j)) x)) s (eqb_refl (p * 2 ^ j * (p * 2 ^ j)))))
      ∙ digits

  pub counted_other : (p * p ≡ a → ⊥) → digits_at (a * (2 ^ j * 2 ^ j)) ≡ 54
  unfolding digits_at
  counted_other h = go (eqb (isqrt n * isqrt n) n) (eqb→eq (isqrt n * isqrt n) n)
    where
      go : (b : Bool) → (T b → isqrt n * isqrt n ≡ n) → cond b (significant (isqrt n)) 54 ≡ 54
      go true e = let s = square_out j (isqrt n) a (e tt) in absurd (h (exact_is s.0 A s.1.1))
      go false e = refl
