-- Lists of draws, each handed the left that the last one returned.
use Rattle.std.specs.Prelude.{ℕ, ◌+◌, ◌-◌, ◌≤◌, min, ◌≡◌, cond, List, [], ◌∷◌, ltb}
use Rattle.budget.specs.Budget.{grant_of}

-- one call of `take`: what it wants, and its floor
pub record Draw : Type 0 where
  pub want : ℕ
  pub floor : ℕ

-- what is left after a list of draws
unfoldable pub left_after : ℕ → List Draw → ℕ
left_after left [] = left
left_after left (d ∷ ds) = left_after (left - grant_of left d.want d.floor) ds

-- the grants' sum
unfoldable pub granted : ℕ → List Draw → ℕ
granted left [] = 0
granted left (d ∷ ds) = let g = grant_of left d.want d.floor in g + granted (left - g) ds

-- the overruns' sum: a draw's overrun is its grant less what was left before it, 0 where that is negative
unfoldable pub overrun : ℕ → List Draw → ℕ
overrun left [] = 0
overrun left (d ∷ ds) = let g = grant_of left d.want d.floor in g - left + overrun (left - g) ds

-- the floors of the draws that are made with less than their floor left
unfoldable pub short_floors : ℕ → List Draw → ℕ
short_floors left [] = 0
short_floors left (d ∷ ds) =
    let g = grant_of left d.want d.floor in
    cond (ltb left d.floor) d.floor 0 + short_floors (left - g) ds

-- each grant is at most its want, and at least the smaller of want and floor
abbrev pub GrantsInRange : ℕ → List Draw → Type 0
GrantsInRange left [] = Unit {0}
GrantsInRange left (d ∷ ds) =
    (grant_of left d.want d.floor ≤ d.want)
    × (min d.want d.floor ≤ grant_of left d.want d.floor)
    × GrantsInRange (left - grant_of left d.want d.floor) ds

-- the claim on a whole list of draws from an allowance
pub record Claim (allowance : ℕ) (ds : List Draw) : Type 0 where
  pub in_range : GrantsInRange allowance ds
  pub exact : granted allowance ds + left_after allowance ds ≡ allowance + overrun allowance ds
  pub bounded : granted allowance ds ≤ allowance + short_floors allowance ds
