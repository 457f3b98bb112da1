-- The arc tangent of an argument above 0 in three stages, each of which hands on one float: a line of points goes
-- through one stage after the other. The sign tells on which side of 1 the argument was.
use Rattle.std.specs.Prelude.{Float}
use Rattle.std.specs.Float.{binary64}
use Rattle.std.specs.Float.Ieee.{neg, sub, mul, div, lt}
use Rattle.float.specs.Functions.{pick}
use Rattle.elementary.specs.Constants as K
use Rattle.elementary.specs.Series.{odd_of, arctangent_table}
use Rattle.elementary.specs.Functions.{clamp_of, half_angle_of}

unfoldable pub atan_first : Float → Float
atan_first v = pick (lt K.one v) (neg (half_angle_of (div binary64 K.one v))) (half_angle_of v)

unfoldable pub atan_second : Float → Float
atan_second w = pick (lt w K.zero) (neg (half_angle_of (neg w))) (half_angle_of w)

-- four times the series, clamped
unfoldable pub quadrupled : Float → Float
quadrupled w = clamp_of K.zero K.frac_pi2 (mul binary64 K.four (odd_of arctangent_table w))

unfoldable pub atan_third : Float → Float
atan_third w = pick (lt w K.zero) (clamp_of K.zero K.frac_pi2 (sub binary64 K.frac_pi2 (quadrupled (neg w)))) (quadrupled w)
