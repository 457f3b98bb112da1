use Rattle.std.proofs.Common.{◌∙◌, arith}
use Rattle.stream.specs.Payload.{payload}
use Rattle.stream.specs.Inner.Payload.{rest}
use Rattle.stream.specs.Laws.Payload.{rest-length, bytes-payload}
use Rattle.names.proofs.Reading.{swapped}
use Rattle.names.proofs.words.word_at.Goals as goal

pub u64_at-requires : goal.u64_at-requires
u64_at-requires c = (omega arith, omega (arith, rest-length c.args.s.now 0))

pub returns : goal.returns
unfolding rest
returns c = let s = c.args.s.now in
    c.swap_bytes.ensures ∙ swapped (payload s) c.args.p (bytes-payload s (λ j. omega (arith, c.type_inv.s j))) c.u64_at.ensures
