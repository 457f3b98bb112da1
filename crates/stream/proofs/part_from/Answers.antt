use Rattle.std.proofs.Common.{◌*◌, ◌/◌}
use Rattle.stream.specs.Laws.Payload.{tail-whole}
use Rattle.stream.proofs.part_from.Goals as goal

pub returns : goal.returns
returns c = tail-whole c.args.s.now (512 * (c.args.p / 508))
