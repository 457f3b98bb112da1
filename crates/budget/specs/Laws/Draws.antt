-- Demand 3's first sentence: the claim holds of any list of draws from any allowance.
use Rattle.std.specs.Prelude.{◌≡◌, refl, Bool, cond, List, [], ◌∷◌, ℕ, ◌+◌, ◌-◌, ◌≤◌, min, ltb}
use Rattle.std.proofs.Math.Bool.{true, false}
use native.Mathlib.Omega.{arith}
use borrow.Author.Tests.{ltb-true, ltb-false}
use Rattle.budget.specs.Budget.{grant_of}
use Rattle.budget.specs.Draws.{Draw, left_after, granted, overrun, short_floors, GrantsInRange, Claim}

module _ (left want floor : ℕ) where
  grant_most : grant_of left want floor ≤ want
  unfolding grant_of
  grant_most = omega arith

  grant_least : min want floor ≤ grant_of left want floor
  unfolding grant_of
  grant_least = omega arith

  -- what a grant takes from an allowance, and by how much it may exceed it
  grant_short : (b : Bool) → ltb left floor ≡ b → grant_of left want floor ≤ left + cond b floor 0
  unfolding grant_of
  grant_short true h = omega (arith, ltb-true left floor h)
  grant_short false h = omega (arith, ltb-false left floor h)

grants_in_range : (left : ℕ) (ds : List Draw) → GrantsInRange left ds
grants_in_range left [] = tt
grants_in_range left (d ∷ ds) = (grant_most left d.want d.floor, grant_least left d.want d.floor, grants_in_range (left - grant_of left d.want d.floor) ds)

exact : (left : ℕ) (ds : List Draw) → granted left ds + left_after left ds ≡ left + overrun left ds
unfolding granted left_after overrun
exact left [] = omega arith
exact left (d ∷ ds) = let g = grant_of left d.want d.floor in omega (arith, exact (left - g) ds)

-- Sharper than the claim: what stays left is counted too. A draw with enough left takes from it, and any other leaves
-- nothing.
bounded : (left : ℕ) (ds : List Draw) → granted left ds ≤ left + short_floors left ds
unfolding granted short_floors
bounded left [] = omega arith
bounded left (d ∷ ds) =
    let g = grant_of left d.want d.floor in
    omega (arith, bounded (left - g) ds, grant_short left d.want d.floor (ltb left d.floor) refl)

pub claim : (allowance : ℕ) (ds : List Draw) → Claim allowance ds
claim allowance ds = record { in_range = grants_in_range allowance ds; exact = exact allowance ds; bounded = bounded allowance ds }
