use mathlib.Core.Path.{refl}
use Rattle.fit.specs.Fit.{divided_by}
use Rattle.fit.proofs.divide.Goals as goal

pub returns : goal.returns
unfolding divided_by
returns c = refl
