-- `root::whole_root` meets its contract: the first half uses up m, and where something remains no root is exact.
-- Assumes nothing.
use mathlib.Core.Path.{subst, sym}
use Prim.Native.Nat.{ℕ, ◌*◌, ◌^◌}
use native.Mathlib.Omega.{arith}
use borrow.Author.Rules.{rules}
use Rattle.root.specs.Laws.Whole.{IsRoot}
use Rattle.root.proofs.Halves.{root_ge, root_lt, ends-first, ends-second}
use Rattle.root.proofs.whole_root.Goals as goal

pub overflow_mul-result : goal.overflow_mul-result
overflow_mul-result c = omega (arith, root_lt c.first_half-p.ensures (search rules))

pub returns-then-p-eq0 : goal.returns-then-p-eq0
returns-then-p-eq0 c = ends-first c.first_half-p.ensures c.if-p-eq0.true

pub second_half-root-requires : goal.second_half-root-requires
second_half-root-requires c = let v = c.first_half-p.ensures in
    (root_ge v (search rules), root_lt v (search rules), v.little)

pub returns : goal.returns
returns c = let v = c.first_half-p.ensures in
    (subst (λ (n : ℕ). IsRoot (n * 2 ^ 54) c.second_half-root.result) (sym v.is) c.second_half-root.ensures, ends-second c.second_half-root.result v (λ e. omega arith))
