use Rattle.std.specs.Float.Ieee.{div, of_bits}
use Rattle.elementary.specs.Functions.{to_degrees_of}
use Rattle.elementary.proofs.to_degrees.Goals as goal

pub returns : goal.returns
unfolding to_degrees_of div of_bits
returns c = c.to_degrees.ensures
