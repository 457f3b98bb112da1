use mathlib.Core.Path.{refl}
use Rattle.fit.specs.Fit.{added}
use Rattle.fit.proofs.add_control.Goals as goal

pub returns : goal.returns
unfolding added
returns c = refl
