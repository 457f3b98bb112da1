use mathlib.Core.Path.{◌∙◌}
use lib.Ieee.{of_bits, to_bits, is_nan}
use Rattle.stream.specs.Numbers.{float_of}
use Rattle.records.specs.Values.{step_in}
use Rattle.records.proofs.refusals.sheet_step.Goals as goal

pub float_to_bits-bits_or : goal.float_to_bits-bits_or
unfolding is_nan of_bits
float_to_bits-bits_or c = tt

pub returns : goal.returns
unfolding step_in float_of of_bits to_bits
returns c = c.float_of.ensures ∙ c.bits_or.ensures
