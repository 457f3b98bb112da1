use mathlib.Core.Path.{◌≡◌}
use Prim.Native.Nat.{◌-◌, ◌≤◌}
use Rattle.stream.specs.Payload.{payload}
use Rattle.stream.specs.Inner.Payload.{room}
use Rattle.records.specs.Inner.Hits.{records_at, SkipsTo}
use Rattle.records.proofs.search.find.Given as goal

abbrev pub invariant-loop-p : goal.invariant-loop-p
invariant-loop-p l = (l.p ≤ l.q) × (records_at (payload l.s) l.p l.tag l.key ≡ records_at (payload l.s) l.q l.tag l.key) × SkipsTo (payload l.s) l.tag l.p l.q

abbrev pub decreases-loop-p : goal.decreases-loop-p
decreases-loop-p l = room l.s - l.q
