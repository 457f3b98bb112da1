use Rattle.std.specs.Float.Ieee.{div, of_bits}
use Rattle.elementary.specs.Functions.{to_radians_of}
use Rattle.elementary.proofs.to_radians.Goals as goal

pub returns : goal.returns
unfolding to_radians_of div of_bits
returns c = c.to_radians.ensures
