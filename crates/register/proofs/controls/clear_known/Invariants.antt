use Rattle.stream.specs.Payload.{payload}
use Rattle.register.proofs.Known.{Forgets}
use Rattle.register.proofs.controls.clear_known.Given as goal

abbrev pub invariant-loop-k : goal.invariant-loop-k
invariant-loop-k l = Forgets (payload l.s) l.more l.initial.t l.t l.n l.i l.q l.k
