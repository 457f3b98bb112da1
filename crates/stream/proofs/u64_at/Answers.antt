use Rattle.std.proofs.Common.{◌∙◌, arith, rules}
use Rattle.stream.specs.Numbers.{u64_at}
use Rattle.stream.specs.Laws.Payload.{within}
use Rattle.stream.proofs.Inside as inside
use Rattle.stream.proofs.u64_at.Goals as goal

pub overflow_add-off : goal.overflow_add-off
overflow_add-off c =
    omega (arith, within c.args.part.now c.args.off c.args.i 8 c.requires.0 c.requires.1)

pub stream_offset-at-requires : goal.stream_offset-at-requires
stream_offset-at-requires c =
    omega (arith, within c.args.part.now c.args.off c.args.i 8 c.requires.0 c.requires.1)

pub u64_le-requires : goal.u64_le-requires
u64_le-requires c =
    omega (arith, within c.args.part.now c.args.off c.args.i 8 c.requires.0 c.requires.1)

pub returns-then-at-le-PAYLOAD : goal.returns-then-at-le-PAYLOAD
returns-then-at-le-PAYLOAD c =
    c.u64_le.ensures ∙ inside.eight _ _ c.requires.0 _ _ c.requires.1 c.if-at-le-PAYLOAD.true c.stream_offset-at.ensures

pub overflow_add-i : goal.overflow_add-i
overflow_add-i c =
    omega (arith, within c.args.part.now c.args.off c.args.i 8 c.requires.0 c.requires.1)

pub returns : goal.returns
unfolding u64_at
returns c = search rules
