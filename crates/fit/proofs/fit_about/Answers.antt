use mathlib.Core.Path.{refl}
use Rattle.fit.specs.Fit.{round_of}
use Rattle.fit.proofs.fit_about.Goals as goal

pub returns : goal.returns
unfolding round_of
returns c = rw (c.solve.ensures, c.moments_of.ensures, c.means_of-c.ensures) refl
