use mathlib.Core.Path.{refl}
use Rattle.fit.specs.Fit.{momented}
use Rattle.fit.proofs.add_moment.Goals as goal

pub returns : goal.returns
unfolding momented
returns c = refl
