use Prim.Native.Nat.{◌-◌}
use Rattle.stream.specs.Inner.Payload.{room}
use Rattle.register.proofs.MentionLists.{Looking}
use Rattle.register.proofs.mentions.next_lon.Given as goal

abbrev pub invariant-loop-v : goal.invariant-loop-v
invariant-loop-v l = Looking l.s l.initial.c l.starts l.c

abbrev pub decreases-loop-v : goal.decreases-loop-v
decreases-loop-v l = room l.s - l.c.q
