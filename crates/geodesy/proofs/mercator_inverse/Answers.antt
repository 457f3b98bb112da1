use Rattle.geodesy.specs.Geodesy.{mercator_inverse_of}
use Rattle.geodesy.specs.Inner.Stages.{longitude_of, exp_ordinate_of, latitude_of}
use Rattle.geodesy.proofs.mercator_inverse.Goals as goal

pub returns : goal.returns
unfolding mercator_inverse_of longitude_of exp_ordinate_of latitude_of
returns c = rw (c.latitude.ensures, c.atan.ensures, c.exp_ordinate.ensures, c.longitude.ensures)
