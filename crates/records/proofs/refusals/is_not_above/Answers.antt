use Rattle.std.proofs.Common.{rules}
use Rattle.records.specs.Values.{not_above}
use Rattle.records.proofs.refusals.is_not_above.Goals as goal

pub returns : goal.returns
unfolding not_above
returns c = search rules
