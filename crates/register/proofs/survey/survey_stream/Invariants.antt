use Prim.Native.Nat.{◌-◌}
use Rattle.stream.specs.Payload.{payload}
use Rattle.stream.specs.Inner.Payload.{room}
use Rattle.register.proofs.Surveys.{Surveying}
use Rattle.register.proofs.survey.survey_stream.Given as goal

abbrev pub invariant-loop-v : goal.invariant-loop-v
invariant-loop-v l = Surveying (payload l.s) l.geo l.name_count l.lon_count l.q

abbrev pub decreases-loop-v : goal.decreases-loop-v
decreases-loop-v l = room l.s - l.q
