use Rattle.projection.specs.Inner.Stages.{rounded_latitude_of}
use Rattle.projection.proofs.rounded_latitude.Goals as goal

pub returns : goal.returns
unfolding rounded_latitude_of
returns c = cc
