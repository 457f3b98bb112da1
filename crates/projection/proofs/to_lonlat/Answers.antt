use Rattle.projection.specs.Projection.{to_lon_lat_by}
use Rattle.projection.specs.Inner.Stages.{plane_position_of}
use Rattle.projection.proofs.to_lonlat.Goals as goal

pub returns : goal.returns
unfolding to_lon_lat_by plane_position_of
returns c = rw (c.mercator_inverse.ensures, c.plane_position-m.ensures)
