use mathlib.Core.Path.{◌≡◌}
use mathlib.Core.List.{[], ◌++◌}
use Prim.Native.Nat.{◌-◌}
use Rattle.stream.specs.Payload.{payload}
use Rattle.stream.specs.Inner.Payload.{room}
use Rattle.records.specs.Records.{bytes_at}
use Rattle.scene.specs.Labels.{variable_of}
use Rattle.scene.specs.Inner.Answers.{variables_at}
use Rattle.scene.specs.Laws.Rising.{Rising}
use Rattle.register.specs.Register.{suffix_lat}
use Rattle.register.proofs.lat_lookup.lat_of.Given as goal

abbrev pub invariant-loop-v : goal.invariant-loop-v
invariant-loop-v l =
    (variable_of (bytes_at (payload l.s) l.at l.n ++ suffix_lat) (variables_at (payload l.s) l.p) ≡ variable_of (bytes_at (payload l.s) l.at l.n ++ suffix_lat) (variables_at (payload l.s) l.q))
    × Rising [] (variables_at (payload l.s) l.q)

abbrev pub decreases-loop-v : goal.decreases-loop-v
decreases-loop-v l = room l.s - l.q
