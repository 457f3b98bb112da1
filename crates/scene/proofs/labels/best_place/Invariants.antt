use Rattle.std.specs.Prelude.{None}
use mathlib.Core.Path.{◌≡◌}
use Prim.Native.Nat.{◌-◌, ◌≤◌}
use Rattle.stream.specs.Payload.{payload}
use Rattle.stream.specs.Inner.Payload.{room}
use Rattle.records.specs.Records.{bytes_at}
use Rattle.scene.specs.Labels.{best_place}
use Rattle.scene.specs.Inner.Answers.{places_at, items_at, best_by}
use Rattle.scene.proofs.labels.best_place.Given as goal

abbrev pub invariant-loop-h : goal.invariant-loop-h
invariant-loop-h l =
    (l.i ≤ l.q)
    × (items_at (payload l.s) l.p ≡ items_at (payload l.s) l.q)
    × (best_place (bytes_at (payload l.s) l.at l.n) 0 (places_at (payload l.s) l.p) None ≡ best_place (bytes_at (payload l.s) l.at l.n) l.i (places_at (payload l.s) l.q) (best_by l.b))

abbrev pub decreases-loop-h : goal.decreases-loop-h
decreases-loop-h l = room l.s - l.q
