use Rattle.stream.proofs.Patterns.{all_ones, value, readable}
use Rattle.stream.proofs.little_endian.float_of.Goals as goal

pub float_from_bits-result : goal.float_from_bits-result
float_from_bits-result c = readable _ c.if-bits-eq-ALL_ONES.false

pub returns-then-bits-eq-ALL_ONES : goal.returns-then-bits-eq-ALL_ONES
returns-then-bits-eq-ALL_ONES c = all_ones _ c.if-bits-eq-ALL_ONES.true

pub returns-else-bits-eq-ALL_ONES : goal.returns-else-bits-eq-ALL_ONES
returns-else-bits-eq-ALL_ONES c = value _ c.if-bits-eq-ALL_ONES.false
