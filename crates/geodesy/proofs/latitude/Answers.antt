use Rattle.geodesy.specs.Inner.Stages.{latitude_of}
use Rattle.geodesy.proofs.latitude.Goals as goal

pub returns : goal.returns
unfolding latitude_of
returns c = c.to_degrees.ensures
