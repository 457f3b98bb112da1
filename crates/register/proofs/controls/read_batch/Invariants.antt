use Rattle.register.proofs.ReadMentions.{Going}
use Rattle.register.proofs.controls.read_batch.Given as goal

abbrev pub invariant-loop-k : goal.invariant-loop-k
invariant-loop-k l = Going l.s l.lons l.initial.t l.n l.slots l.count l.base l.initial.controls l.initial.kept l.initial.all l.initial.at l.t l.starts l.controls l.kept l.all l.at l.k
