use Rattle.stream.specs.Laws.Numbers.{float_read}
use Rattle.stream.proofs.float.Goals as goal

pub returns : goal.returns
returns c = float_read _ _ c.u64_at.ensures c.float_of.ensures
