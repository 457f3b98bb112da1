use Rattle.register.proofs.ReadMentions.{go_begin, go_end, go_none, go_on}
use Rattle.register.proofs.controls.read_batch.Goals as goal

pub loop-k-init : goal.loop-k-init
loop-k-init c = go_begin _ _ c.requires

pub returns-in_default : goal.returns-in_default
returns-in_default c = go_none c.loop-k.invariant c.in_default.ensures

pub loop-k-preserved : goal.loop-k-preserved
loop-k-preserved c = go_on c.loop-k.invariant c.in-Ok.m c.in-Ok.ensures c.loop-k-test.true c.read_mention-all.ensures.reads c.read_mention-all.ensures.table c.read_mention-all.auto.controls c.read_mention-all.auto.kept

pub returns : goal.returns
returns c = go_end c.loop-k.invariant c.loop-k-test.false
