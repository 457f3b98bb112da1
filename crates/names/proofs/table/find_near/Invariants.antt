use Prim.Native.Nat.{◌+◌, ◌-◌, ◌≤◌, ◌<◌}
use Rattle.stream.specs.Payload.{payload}
use Rattle.records.specs.Records.{bytes_at}
use Rattle.names.proofs.Halves.{Between}
use Rattle.names.proofs.table.find_near.Given as goal

abbrev pub invariant-loop-lo : goal.invariant-loop-lo
invariant-loop-lo l =
    Between l.more (payload l.s) l.t l.count (bytes_at (payload l.s) (l.p + 1) l.n) l.lo l.hi × (l.lo < l.hi → (l.lo ≤ l.mid) × (l.mid < l.hi))

abbrev pub decreases-loop-lo : goal.decreases-loop-lo
decreases-loop-lo l = l.hi - l.lo
