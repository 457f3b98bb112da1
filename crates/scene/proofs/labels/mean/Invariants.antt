use Prim.Native.Nat.{◌-◌, ◌≤◌}
use Rattle.stream.specs.Payload.{payload}
use Rattle.scene.proofs.Means.{Sums}
use Rattle.scene.proofs.labels.mean.Given as goal

abbrev pub invariant-loop-i : goal.invariant-loop-i
invariant-loop-i l =
    (l.i ≤ l.count)
    × Sums (λ q. q.x) (payload l.s) l.at l.count l.x l.i
    × Sums (λ q. q.y) (payload l.s) l.at l.count l.y l.i

abbrev pub decreases-loop-i : goal.decreases-loop-i
decreases-loop-i l = l.count - l.i
