use mathlib.Core.Path.{◌≡◌}
use Prim.Native.Nat.{◌-◌, ◌≤◌}
use Rattle.stream.specs.Payload.{payload}
use Rattle.stream.specs.Inner.Payload.{room}
use Rattle.records.specs.Records.{bytes_at}
use Rattle.scene.specs.Labels.{best_item}
use Rattle.scene.specs.Inner.Answers.{items_at, best_by}
use Rattle.scene.proofs.labels.best_item.Given as goal

abbrev pub invariant-loop-h : goal.invariant-loop-h
invariant-loop-h l =
    (l.i ≤ l.q)
    × (best_item (bytes_at (payload l.s) l.at l.n) 0 (items_at (payload l.s) l.p) (best_by l.initial.b) ≡ best_item (bytes_at (payload l.s) l.at l.n) l.i (items_at (payload l.s) l.q) (best_by l.b))

abbrev pub decreases-loop-h : goal.decreases-loop-h
decreases-loop-h l = room l.s - l.q
