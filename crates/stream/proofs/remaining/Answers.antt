use Rattle.std.proofs.Common.{arith}
use Rattle.stream.specs.Laws.Payload.{rest-length}
use Rattle.stream.proofs.remaining.Goals as goal

pub returns : goal.returns
returns c = omega (arith, rest-length c.args.part.now c.args.off)
