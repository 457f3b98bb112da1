use Prim.Native.Nat.{◌-◌}
use Rattle.stream.specs.Payload.{payload}
use Rattle.stream.specs.Inner.Payload.{room}
use Rattle.register.proofs.Surveys.{Numbering}
use Rattle.register.proofs.survey.count_features.Given as goal

abbrev pub invariant-loop-f : goal.invariant-loop-f
invariant-loop-f l = Numbering (payload l.s) l.count l.end

abbrev pub decreases-loop-f : goal.decreases-loop-f
decreases-loop-f l = room l.s - l.end
