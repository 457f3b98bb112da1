use borrow.Author.Rules.{rules}
use Rattle.records.specs.Records.{values_width}
use Rattle.records.proofs.records.values_width.Goals as goal

pub returns : goal.returns
unfolding values_width
returns c = search rules
