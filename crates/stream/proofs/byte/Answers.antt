use Rattle.std.proofs.Common.{arith}
use Rattle.stream.specs.Laws.Payload.{within}
use Rattle.stream.proofs.Inside as inside
use Rattle.stream.proofs.byte.Goals as goal

pub overflow_add-off : goal.overflow_add-off
overflow_add-off c =
    omega (arith, within c.args.part.now c.args.off c.args.i 1 c.requires.0 (omega arith))

pub stream_offset-requires : goal.stream_offset-requires
stream_offset-requires c =
    omega (arith, within c.args.part.now c.args.off c.args.i 1 c.requires.0 (omega arith))

pub bounds-part-stream_offset : goal.bounds-part-stream_offset
bounds-part-stream_offset c =
    omega (arith, within c.args.part.now c.args.off c.args.i 1 c.requires.0 (omega arith))

pub returns : goal.returns
returns c = inside.one _ _ c.requires.0 _ _ (omega arith) c.stream_offset.ensures
