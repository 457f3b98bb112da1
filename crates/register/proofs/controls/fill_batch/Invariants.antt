use Prim.Native.Nat.{◌-◌}
use Rattle.stream.specs.Inner.Payload.{room}
use Rattle.register.proofs.TableEntries.{Fills}
use Rattle.register.proofs.controls.fill_batch.Given as goal

abbrev pub invariant-loop-n : goal.invariant-loop-n
invariant-loop-n l = Fills l.s l.lons l.initial.at l.at l.n l.count l.t l.starts

abbrev pub decreases-loop-n : goal.decreases-loop-n
decreases-loop-n l = room l.s - l.at.q
