-- A slice that is cleared. Assumes nothing.
use Rattle.std.specs.Prelude.{◌≡◌, ℕ, zero, suc, List, ◌∷◌, replicate}
use Rattle.std.proofs.Math.Path.{refl, ap}
use Rattle.geopic.specs.Geopic.{clear}

-- as `fill` says it
pub filled : {A : Type 0} (z : A) (n : ℕ) → replicate n z ≡ clear z n
unfolding clear
filled z zero = refl
filled {A = A} z (suc n) = ap (λ (r : List A). z ∷ r) (filled z n)
