-- The cases of `split_of`, as `pieces` meets them. Assumes nothing.
use Rattle.std.proofs.Common.{◌≡◌, ℕ, zero, suc, ◌+◌, ◌-◌, ◌<◌, ◌≤◌, true, false, refl, arith, le-ltb, lt-ltb}
use lib.Ieee.{Float}
use Rattle.budget.specs.declared.Budget.{Budget}
use Rattle.densify.specs.Densify.{Block, and_then, flat_of, first_half, second_half, leaf_of, split_of}

module _ (tol : Float) (c : Block) (b : Budget) where
  pub ends_deep : (depth : ℕ) → 16 ≤ depth → split_of (16 - depth) tol c b ≡ leaf_of (flat_of tol c) c.p3 b
  unfolding split_of
  ends_deep depth h = let z : 16 - depth ≡ 0 = omega arith in rw z

  pub ends_flat : (k : ℕ) → flat_of tol c ≡ true → split_of k tol c b ≡ leaf_of (flat_of tol c) c.p3 b
  unfolding split_of
  ends_flat zero flat = refl
  ends_flat (suc k) flat = rw flat

  pub ends_left : (k : ℕ) → flat_of tol c ≡ false → b.left < 2 → split_of k tol c b ≡ leaf_of (flat_of tol c) c.p3 b
  unfolding split_of
  ends_left zero bent few = refl
  ends_left (suc k) bent few = rw (bent, lt-ltb b.left 2 few)

pub halved : (tol : Float) (c : Block) (b : Budget) (depth : ℕ) → depth < 16 → flat_of tol c ≡ false → 2 ≤ b.left
    → split_of (16 - depth) tol c b ≡ and_then (split_of (16 - (depth + 1)) tol (first_half c) b) (split_of (16 - (depth + 1)) tol (second_half c))
unfolding split_of
halved tol c b depth h bent more =
    let fuel : 16 - depth ≡ suc (16 - (depth + 1)) = omega arith in
    rw (fuel, bent, le-ltb b.left 2 more)
