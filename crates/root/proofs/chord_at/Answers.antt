-- `root::chord_at` meets its contract: each chord's own numbers, and in the last arm i is 63, as it is none of the
-- numbers before. Assumes nothing.
use mathlib.Core.Path.{◌≡◌}
use Prim.Native.Nat.{ℕ, zero, suc, ◌+◌, ◌≤◌}
use native.Mathlib.Omega.{arith}

-- i is none of 16 and the k - 1 numbers after it
abbrev NoneOf : ℕ → ℕ → Type 0
NoneOf i zero = Unit
NoneOf i (suc k) = NoneOf i k × (i ≡ 16 + k → ⊥)

past : (i k : ℕ) → 16 ≤ i → NoneOf i k → 16 + k ≤ i
past i zero l n = l
past i (suc k) l n =
    let h : 16 + k ≤ i = past i k l n.0 in
    omega (arith, n.1)
