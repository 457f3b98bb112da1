use Rattle.std.proofs.Common.{arith, rules}
use Rattle.stream.specs.Numbers.{u16_at}
use Rattle.stream.specs.Laws.Payload.{rest-length}
use Rattle.stream.proofs.u16_at.Goals as goal

pub overflow_add-i : goal.overflow_add-i
overflow_add-i c = omega (arith, rest-length c.args.part.now c.args.off)

pub returns : goal.returns
unfolding u16_at
returns c = search rules
