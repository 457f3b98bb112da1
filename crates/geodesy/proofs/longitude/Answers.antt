use Rattle.geodesy.specs.Inner.Stages.{longitude_of}
use Rattle.geodesy.proofs.longitude.Goals as goal

pub returns : goal.returns
unfolding longitude_of
returns c = rw (c.normalize_lon.ensures, c.to_degrees.ensures)
