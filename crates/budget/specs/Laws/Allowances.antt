-- The allowances of the tiers beside each other.
use Rattle.std.specs.Prelude.{ℕ, ◌≤◌, ◌≡◌, refl, Bool, true, false, cond, eqb}
use Rattle.std.proofs.Common.{arith, ne_eqb}
use Rattle.budget.specs.Budget.{allowance_of}

pub allowance_entry : allowance_of 0 ≡ 20000
unfolding allowance_of
allowance_entry = refl

pub allowance_larger : (tier : ℕ) → (tier ≡ 0 → ⊥) → allowance_of tier ≡ 2000000
unfolding allowance_of
allowance_larger tier some = rw (ne_eqb tier 0 some)

within : (entry : Bool) → (20000 ≤ cond entry 20000 2000000) × (cond entry 20000 2000000 ≤ 2000000)
within true = (omega arith, omega arith)
within false = (omega arith, omega arith)

-- no tier has less than the entry tier
pub allowance-least : (tier : ℕ) → allowance_of 0 ≤ allowance_of tier
unfolding allowance_of
allowance-least tier = (within (eqb tier 0)).0

pub allowance-most : (tier : ℕ) → allowance_of tier ≤ 2000000
unfolding allowance_of
allowance-most tier = (within (eqb tier 0)).1
