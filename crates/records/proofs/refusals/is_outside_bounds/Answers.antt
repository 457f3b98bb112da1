use Rattle.std.proofs.Common.{rules}
use Rattle.records.specs.Values.{outside_bounds}
use Rattle.records.proofs.refusals.is_outside_bounds.Goals as goal

pub returns : goal.returns
unfolding outside_bounds
returns c = search rules
