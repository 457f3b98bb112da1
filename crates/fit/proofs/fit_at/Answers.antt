use Rattle.fit.specs.Fit.{fit_at}
use Rattle.fit.proofs.fit_at.Goals as goal

pub returns-then-not-is_finite : goal.returns-then-not-is_finite
unfolding fit_at
returns-then-not-is_finite c = rw (← c.hypot-scale.ensures, ← c.is_finite.ensures, c.if-not-is_finite.true)

pub returns-then-not-scale : goal.returns-then-not-scale
unfolding fit_at
returns-then-not-scale c = rw (← c.hypot-scale.ensures, ← c.is_finite.ensures, c.if-not-is_finite.false, c.if-not-scale.true)

pub returns : goal.returns
unfolding fit_at
returns c = rw (c.to_degrees.ensures, c.atan2.ensures, c.mercator_inverse-anchor.ensures, ← c.hypot-scale.ensures, ← c.is_finite.ensures, c.if-not-is_finite.false, c.if-not-scale.false)
