use Prim.Native.Nat.{◌-◌}
use Rattle.stream.specs.Inner.Payload.{room}
use Rattle.register.proofs.WarningLaws.{Told}
use Rattle.register.proofs.warnings.warn_features.Given as goal

abbrev pub invariant-loop-f : goal.invariant-loop-f
invariant-loop-f l = Told l.s l.kept l.positions l.controls l.initial.out l.initial.used l.out l.used l.q l.i

abbrev pub decreases-loop-f : goal.decreases-loop-f
decreases-loop-f l = room l.s - l.q
