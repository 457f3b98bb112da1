use Rattle.register.proofs.Known.{forgets_none, forgets_ends, forgets_more, behind_taken}
use Rattle.register.proofs.controls.clear_known.Goals as goal

pub loop-k-init : goal.loop-k-init
loop-k-init c = forgets_none c.requires.1

pub returns-in_default : goal.returns-in_default
returns-in_default c = forgets_ends c.loop-k.invariant c.in_default.ensures.p_value

pub loop-k-preserved : goal.loop-k-preserved
loop-k-preserved c = forgets_more c.loop-k.invariant c.in-Ok.f c.in-Ok.ensures.p_value (behind_taken c.in-Ok.ensures.length_prefixed c.take_mark.ensures) c.loop-k-test.true
