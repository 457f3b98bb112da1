use Rattle.projection.specs.Inner.Stages.{plane_position_of}
use mathlib.Core.Path.{refl}
use Rattle.projection.proofs.plane_position.Goals as goal

pub returns : goal.returns
unfolding plane_position_of
returns c = refl
