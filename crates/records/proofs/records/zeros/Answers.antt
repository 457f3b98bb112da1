use Prim.Native.Nat.{◌*◌}
use native.Mathlib.Omega.{arith}
use mathlib.Core.Path.{◌≡◌, ◌∙◌, sym}
use Prim.Native.Nat.{◌/◌}
use Rattle.records.proofs.Tests.{long_fails, long_turn}
use Rattle.records.proofs.records.zeros.Goals as goal

pub returns-then-u64_at-ne0 : goal.returns-then-u64_at-ne0
returns-then-u64_at-ne0 c = long_fails _ (8 * c.loop-k.k) (omega arith)

pub loop-k-preserved : goal.loop-k-preserved
loop-k-preserved c = c.loop-k.invariant ∙ long_turn _ (8 * c.loop-k.k) (omega arith) (omega arith) (omega arith)

pub returns : goal.returns
returns c = let e : c.remaining-n.result / 8 ≡ c.loop-k.k = omega arith in
    c.zeros_from.ensures ∙ rw e (sym c.loop-k.invariant)
