use mathlib.Core.Path.{◌≡◌}
use Prim.Native.Nat.{◌-◌, ◌≤◌}
use lib.ListN.{drop}
use Rattle.stream.specs.Payload.{payload}
use Rattle.stream.specs.Inner.Payload.{room}
use Rattle.records.specs.Walk.{entries}
use Rattle.records.specs.Limits.{all_limited, limited}
use Rattle.records.proofs.floats.limits.Given as goal

abbrev pub invariant-loop-p : goal.invariant-loop-p
invariant-loop-p l = (l.p ≤ room l.s) × (limited (payload l.s) ≡ all_limited (entries (drop l.p (payload l.s)) 0))

abbrev pub decreases-loop-p : goal.decreases-loop-p
decreases-loop-p l = room l.s - l.p
