use Prim.Native.Nat.{◌-◌}
use Rattle.stream.specs.Inner.Payload.{room}
use Rattle.register.proofs.GatheredBatches.{Parted}
use Rattle.register.proofs.controls.gather_part.Given as goal

abbrev pub invariant-loop-v : goal.invariant-loop-v
invariant-loop-v l =
    Parted l.s l.lons l.initial.all l.initial.controls l.initial.kept l.c l.starts l.base l.all l.controls l.kept

abbrev pub decreases-loop-v : goal.decreases-loop-v
decreases-loop-v l = room l.s - l.c.q
