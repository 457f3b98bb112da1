use Rattle.register.proofs.KeptNumbers.{none_called, one_called, other_called}
use Rattle.register.proofs.warnings.is_feature_name.Goals as goal

pub returns-then-name_at_equals : goal.returns-then-name_at_equals
returns-then-name_at_equals c = one_called _ _ _ _ c.loop-p.invariant c.loop-p-test.true c.name_at_equals.ensures c.if-name_at_equals.true

pub loop-p-preserved : goal.loop-p-preserved
loop-p-preserved c = other_called _ _ _ _ c.loop-p.invariant c.loop-p-test.true c.name_at_equals.ensures c.if-name_at_equals.false

pub returns : goal.returns
returns c = none_called _ _ _ _ c.loop-p.invariant c.loop-p-test.false
