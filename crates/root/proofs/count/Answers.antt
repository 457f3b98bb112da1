-- `root::count` meets its contract: a root of 54 digits has no more zeros at its end than 54. Assumes nothing.
use mathlib.Core.Path.{◌≡◌, ap}
use Prim.Native.Nat.{ℕ, ◌-◌}
use native.Mathlib.Omega.{arith}
use lib.Count.{count_trailing_zeros, trailing_le}
use Rattle.root.specs.Laws.Counted.{zeros-more}
use Rattle.root.proofs.count.Goals as goal
use Rattle.root.proofs.count.Goals.{Start}

module _ (c : Start) where
  same : count_trailing_zeros 64 c.args.w.root ≡ count_trailing_zeros 54 c.args.w.root
  same = zeros-more 54 64 c.args.w.root (omega arith) (omega (arith, c.requires)) c.requires.1

pub overflow_sub-result : goal.overflow_sub-result
overflow_sub-result c = omega (arith, same c.before.before.before, trailing_le 54 c.args.w.root)

pub returns : goal.returns
returns c = ((λ h. ap (λ (x : ℕ). 54 - x) (same c.before.before.before)), (λ h. absurd (c.if-w-eq54.false h)))
