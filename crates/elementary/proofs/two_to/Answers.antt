use Rattle.std.proofs.Common.{arith}
use Rattle.elementary.proofs.Powers.{casts, field_small, no_nan, two_to_read}
use Rattle.elementary.proofs.two_to.Goals as goal

pub float_to_int-f : goal.float_to_int-f
float_to_int-f c = casts c.args.k c.requires

pub overflow_mul-result : goal.overflow_mul-result
overflow_mul-result c = omega (arith, (field_small c.args.k c.requires).1)

pub float_from_bits-result : goal.float_from_bits-result
float_from_bits-result c = no_nan _ (field_small c.args.k c.requires).1

pub returns : goal.returns
returns c = two_to_read c.args.k c.requires
