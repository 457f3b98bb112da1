use Rattle.std.proofs.Common.{refl}
use Rattle.float.proofs.Cases.{equal_numbers, by_bits, unequal}
use Rattle.float.proofs.same_value.Goals as goal

pub float_to_bits-result-then-a-b : goal.float_to_bits-result-then-a-b
float_to_bits-result-then-a-b c = (equal_numbers c.args.a c.args.b c.if-a-b.true).1

pub returns-then-a-b : goal.returns-then-a-b
returns-then-a-b c = by_bits c.args.a c.args.b c.well_formed.0.1 c.well_formed.1.0.1 refl

pub returns-else-a-b : goal.returns-else-a-b
returns-else-a-b c = unequal c.args.a c.args.b c.if-a-b.false c.if-a-b.false
