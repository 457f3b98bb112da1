use Rattle.elementary.proofs.Reduction.{sine_below, sine_above}
use Rattle.elementary.proofs.sin.Goals as goal

pub returns-then-t : goal.returns-then-t
returns-then-t c = sine_below _ _ _ _ c.reduce-p.ensures c.sine_at-v.ensures c.if-t.true

pub returns-else-t : goal.returns-else-t
returns-else-t c = sine_above _ _ _ _ c.reduce-p.ensures c.sine_at-v.ensures c.if-t.false
