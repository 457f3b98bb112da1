-- A slot that was written.
use Rattle.std.specs.Prelude.{Some, slice_get}
use mathlib.Core.Path.{◌≡◌, refl}
use mathlib.Core.List.{List, [], ◌∷◌}
use Prim.Native.Nat.{ℕ, zero, suc, ◌+◌, ◌<◌}
use native.Mathlib.Omega.{arith}
use lib.ListN.{length, set}
use Rattle.scene.specs.declared.labels.Best.{Best}
use Rattle.names.specs.Inner.Batch.{slot_of}

slice_get-set_same : {A : Type 0} (l : List A) (i : ℕ) (v : A) → i < length l → slice_get (set l i v) i ≡ Some v
slice_get-set_same [] i v h = absurd (omega arith)
slice_get-set_same (x ∷ xs) zero v h = refl
slice_get-set_same (x ∷ xs) (suc i) v h = slice_get-set_same xs i v (omega arith)

slice_get-set_other : {A : Type 0} (l : List A) (i j : ℕ) (v : A) → (j ≡ i → ⊥) → slice_get (set l i v) j ≡ slice_get l j
slice_get-set_other [] i j v h = refl
slice_get-set_other (x ∷ xs) zero zero v h = absurd (h refl)
slice_get-set_other (x ∷ xs) zero (suc j) v h = refl
slice_get-set_other (x ∷ xs) (suc i) zero v h = refl
slice_get-set_other (x ∷ xs) (suc i) (suc j) v h = slice_get-set_other xs i j v (λ e. h (omega arith))

module _ (slots : List Best) (i : ℕ) (v : Best) where
  pub slot_same : (m : ℕ) → m ≡ i + 1 → i < length slots → slot_of (set slots i v) m ≡ Some v
  slot_same zero e h = absurd (omega arith)
  slot_same (suc m) e h = let g : m ≡ i = omega arith in rw g (slice_get-set_same slots i v h)

  pub slot_other : (m : ℕ) → (m ≡ i + 1 → ⊥) → slot_of (set slots i v) m ≡ slot_of slots m
  slot_other zero h = refl
  slot_other (suc m) h = slice_get-set_other slots i m v (λ e. h (omega arith))
