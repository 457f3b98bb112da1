use Rattle.projection.specs.Inner.Stages.{plane_stage_of}
use Rattle.projection.proofs.plane_stage.Goals as goal

pub returns : goal.returns
unfolding plane_stage_of
returns c = cc
