-- How two names are compared, one byte after another.
use Rattle.std.specs.Prelude.{◌≡◌, true, false, List, [], ◌∷◌, ℕ, ◌+◌, ◌≤◌, ◌<◌, length, get_or, drop, eqb}
use Rattle.std.proofs.Math.Path.{refl}
use Rattle.std.proofs.Common.{◌∙◌, add-one, arith}
use Rattle.std.proofs.Math.Bool.{and-false}
use Rattle.std.proofs.Math.Decide.{ℕ_discrete}
use Rattle.std.proofs.Math.ListN.{drop_of_length-le}
use Rattle.std.proofs.Math.Seq.{drop-cons}
use Rattle.std.proofs.Math.Dec.{eqb-zero-suc, eqb-suc-suc}
use borrow.Author.Tests.{eq-eqb, ne_eqb}
use Rattle.records.specs.Inner.Names.{common_prefix}
use Rattle.scene.specs.Labels.{same_bytes}

pub same_lengths : (a b : List ℕ) → (length a ≡ length b → ⊥) → same_bytes a b ≡ false
unfolding same_bytes
same_lengths [] [] h = absurd (h refl)
same_lengths [] (y ∷ ys) h = refl
same_lengths (x ∷ xs) [] h = refl
same_lengths (x ∷ xs) (y ∷ ys) h = rw (same_lengths xs ys (λ e. h (omega arith)), and-false) refl

-- names of equal length have the same bytes where they begin alike to their ends
pub same_common : (a b : List ℕ) → length a ≡ length b → eqb (common_prefix a b) (length a) ≡ same_bytes a b
unfolding same_bytes common_prefix
same_common [] [] h = refl
same_common [] (y ∷ ys) h = absurd (omega arith)
same_common (x ∷ xs) [] h = absurd (omega arith)
same_common (x ∷ xs) (y ∷ ys) h =
    elim (ℕ_discrete x y) [
      | yes e ↦ rw (eq-eqb x y e) (eqb-suc-suc (common_prefix xs ys) (length xs) ∙ same_common xs ys (omega arith))
      | no e ↦ rw (ne_eqb x y e) (eqb-zero-suc (length xs))
    ]

-- from position i on
module _ (a b : List ℕ) (i : ℕ) where
  pub same_ends : length a ≤ i → length b ≤ i → same_bytes (drop i a) (drop i b) ≡ true
  unfolding same_bytes
  same_ends h k = rw (drop_of_length-le a h, drop_of_length-le b k) refl

  module _ (h : i < length a) (k : i < length b) where
    pub same_step : get_or a i 0 ≡ get_or b i 0 → same_bytes (drop i a) (drop i b) ≡ same_bytes (drop (i + 1) a) (drop (i + 1) b)
    unfolding same_bytes
    same_step e = rw (drop-cons a i 0 h, drop-cons b i 0 k, eq-eqb (get_or a i 0) (get_or b i 0) e, add-one) refl

    pub same_fails : (get_or a i 0 ≡ get_or b i 0 → ⊥) → same_bytes (drop i a) (drop i b) ≡ false
    unfolding same_bytes
    same_fails e = rw (drop-cons a i 0 h, drop-cons b i 0 k, ne_eqb (get_or a i 0) (get_or b i 0) e) refl
