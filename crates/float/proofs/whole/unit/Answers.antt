use Rattle.float.proofs.Fractions.{unit-is}
use Rattle.float.proofs.whole.unit.Goals as goal

pub returns : goal.returns
returns c = unit-is c.args.b c.requires
