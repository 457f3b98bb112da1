-- `Budget` of the source's densify.rs: what it starts with, and `take`, which grants min(wanted, max(left, floor)) and lowers left, not below 0.
use Rattle.std.specs.Prelude.{ℕ, ◌-◌, min, max, false, ◌||◌, cond, eqb, ltb}
use Rattle.budget.specs.declared.Budget.{Budget}
use Rattle.budget.specs.declared.Taken.{Taken}

-- document 02, viii: the vertices that one scene may draw, by the panel's tier: 0 is the entry tier, and every other number has the source's MAX_VERTICES
unfoldable pub allowance_of : ℕ → ℕ
allowance_of tier = cond (eqb tier 0) 20000 2000000

abbrev pub fresh : ℕ → Budget
fresh allowance = record { left = allowance; hit = false }

unfoldable pub grant_of : ℕ → ℕ → ℕ → ℕ
grant_of left wanted floor = min wanted (max left floor)

unfoldable pub take_of : Budget → ℕ → ℕ → Taken
take_of b wanted floor =
    let n = grant_of b.left wanted floor in
    record { granted = n; budget = record { left = b.left - n; hit = b.hit || ltb n wanted } }
