use Rattle.stream.proofs.Inside as inside
use Rattle.stream.proofs.contiguous_at.Goals as goal

pub returns-then-at-n-le-PAYLOAD-clause-are_contiguous : goal.returns-then-at-n-le-PAYLOAD-clause-are_contiguous
returns-then-at-n-le-PAYLOAD-clause-are_contiguous c s h k = inside.straight s _ h _ _ _ k c.if-at-n-le-PAYLOAD.true c.stream_offset-at.ensures
