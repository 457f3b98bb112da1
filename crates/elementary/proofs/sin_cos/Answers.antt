use Rattle.elementary.proofs.Reduction.{cosine_is, sine_below, sine_above}
use Rattle.elementary.proofs.sin_cos.Goals as goal

pub returns-then-t : goal.returns-then-t
returns-then-t c = let p = c.reduce-p.ensures in
    (sine_below _ _ _ _ p c.sine_at-v.ensures c.if-t.true, cosine_is _ _ _ _ p c.cosine_at-c.ensures)

pub returns-else-t : goal.returns-else-t
returns-else-t c = let p = c.reduce-p.ensures in
    (sine_above _ _ _ _ p c.sine_at-v.ensures c.if-t.false, cosine_is _ _ _ _ p c.cosine_at-c.ensures)
