use Rattle.register.proofs.VariableSteps.{turned}
use Rattle.register.proofs.lat_lookup.pass_variable.Goals as goal

pub returns : goal.returns
returns c = turned c.requires.0 c.requires.1 c.common_prefix-alike.ensures c.set_prefix_starts.ensures
