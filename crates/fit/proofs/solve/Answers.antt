use Rattle.fit.specs.Fit.{solved_of}
use Rattle.fit.proofs.solve.Goals as goal

pub returns-then-s : goal.returns-then-s
unfolding solved_of
returns-then-s c = rw c.if-s.true

pub returns-then-not-is_finite : goal.returns-then-not-is_finite
unfolding solved_of
returns-then-not-is_finite c = rw (c.if-s.false, ← c.is_finite.ensures, c.if-not-is_finite.true)

pub returns : goal.returns
unfolding solved_of
returns c = rw (c.if-s.false, ← c.is_finite.ensures, c.if-not-is_finite.false) c.fit_at.ensures
