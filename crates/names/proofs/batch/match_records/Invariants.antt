use Prim.Native.Nat.{◌-◌, ◌≤◌}
use Rattle.stream.specs.Payload.{payload}
use Rattle.stream.specs.Inner.Payload.{room}
use Rattle.records.specs.Inner.Hits.{SkipsTo}
use Rattle.names.specs.Inner.Batch.{slots_of, tag_by, steps_from}
use Rattle.names.proofs.Walking.{Walk}
use Rattle.names.proofs.batch.match_records.Given as goal

abbrev pub invariant-loop-end : goal.invariant-loop-end
invariant-loop-end l = record {
  counted : l.i ≤ l.q;
  behind : SkipsTo (payload l.s) (tag_by l.kind) l.p l.q;
  walked : Walk l.more (payload l.s) l.count (slots_of l.initial.t l.initial.slots l.before) (slots_of l.t l.slots l.used) (steps_from l.kind (payload l.s) l.p 0) (steps_from l.kind (payload l.s) l.q l.i);
}

abbrev pub decreases-loop-end : goal.decreases-loop-end
decreases-loop-end l = room l.s - l.q
