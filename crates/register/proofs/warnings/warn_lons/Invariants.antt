use Prim.Native.Nat.{◌-◌}
use Rattle.stream.specs.Inner.Payload.{room}
use Rattle.register.proofs.WarningLaws.{WarningLoop}
use Rattle.register.proofs.warnings.warn_lons.Given as goal

abbrev pub invariant-loop-m : goal.invariant-loop-m
invariant-loop-m l = WarningLoop l.s l.kept l.initial.out l.initial.used l.out l.used l.starts l.c l.k l.features l.j

abbrev pub decreases-loop-m : goal.decreases-loop-m
decreases-loop-m l = room l.s - l.c.q
