-- The inverse projection in stages: the longitude of an abscissa, the exponential of an ordinate, and the latitude of
-- that exponential's arc tangent.
use Rattle.std.specs.Prelude.{Float}
use Rattle.std.specs.Float.{binary64}
use Rattle.std.specs.Float.Ieee.{sub, mul, div}
use Rattle.elementary.specs.Constants as K
use Rattle.elementary.specs.Functions.{to_degrees_of, exp_of}
use Rattle.geodesy.specs.Geodesy.{radius, normalize_lon_of}

unfoldable pub longitude_of : Float → Float
longitude_of x = normalize_lon_of (to_degrees_of (div binary64 x radius))

unfoldable pub exp_ordinate_of : Float → Float
exp_ordinate_of y = exp_of (div binary64 y radius)

unfoldable pub latitude_of : Float → Float
latitude_of a = to_degrees_of (sub binary64 (mul binary64 K.two a) K.frac_pi2)
