-- The arguments of the Mercator projection: the ordinate of a latitude up to 89.5 degrees is finite, and a mean of
-- ordinates gives such a latitude. Assumes nothing.
use Rattle.std.specs.Prelude.{true, false, T, [], ◌∷◌, negsuc, Float}
use Rattle.std.specs.Float.{fin}
use Rattle.std.specs.Float.Ieee.{binary64, add, sub, mul, div, le, of_bits}
use Rattle.std.specs.Float.Ieee.Fits.{div-fits}
use Rattle.std.specs.Float.Ieee.Positive.{between}
use Rattle.float.specs.Laws.Intervals.{iv, Between}
use Rattle.float.specs.Laws.Expressions.{Expr, var, lit, plus, less, times, over}
use Rattle.elementary.specs.Constants as K
use Rattle.elementary.specs.Functions.{to_radians_of, to_degrees_of, sin_of, cos_of, tan_of, ln_of, exp_of, atan_of}
use Rattle.elementary.specs.Laws.Codes.{encloses, enclosed}
use Rattle.elementary.specs.Laws.Exponential.{m3·25, c3·25, exp_mid}
use Rattle.elementary.specs.Laws.Logarithm.{ln_least, ln_most, ln_in}
use Rattle.elementary.specs.Laws.Arctangent.{atan_least, atan_most, atan_mid}
use Rattle.elementary.specs.Laws.Tangent.{c1/256, c1·5707, InTanRange, tan_least, tan_most, tan_in}

-- ---- the logarithm of the tangent
pub ln_tan_in : (a : Float) → InTanRange a → Between ln_least ln_most (ln_of (tan_of a))
ln_tan_in a i =
    let j = tan_in a i in
    ln_in (tan_of a) (between tan_least (tan_of a) tan_most tt tt j.low j.high) (unfold tan_of in div-fits binary64 (sin_of a) (cos_of a))

-- ---- forward: a latitude in degrees
-- std::f64::consts::FRAC_PI_4, 0.7853981633974483
abbrev pub frac_pi4 : Float
frac_pi4 = of_bits binary64 0x3fe921fb54442d18

-- the argument of the tangent, whose logarithm is the ordinate over the radius
abbrev pub tan_argument_of : Float → Float
tan_argument_of lat = add binary64 frac_pi4 (div binary64 (to_radians_of lat) K.two)

abbrev pub c89·5 : Float
c89·5 = fin false 179 (negsuc 0)

abbrev pub m89·5 : Float
m89·5 = fin true 179 (negsuc 0)

abbrev pub tan_argument : Expr
tan_argument = plus (lit frac_pi4) (over (times (var 0) (over (lit K.pi) (lit K.c180))) (lit K.two))

tan_argument_test : T (encloses tan_argument (iv m89·5 c89·5 ∷ []) c1/256 c1·5707)
unfolding of_bits add mul div le
tan_argument_test = tt

pub latitude_in : (lat : Float) → Between m89·5 c89·5 lat → InTanRange (tan_argument_of lat)
unfolding to_radians_of
latitude_in lat i = enclosed tan_argument (iv m89·5 c89·5 ∷ []) (lat ∷ []) c1/256 c1·5707 tan_argument_test (i, tt)

-- ---- inverse: an ordinate over the radius
abbrev pub latitude_of : Float → Float
latitude_of w = to_degrees_of (sub binary64 (mul binary64 K.two (atan_of (exp_of w))) K.frac_pi2)

abbrev latitude : Expr
latitude = times (less (times (lit K.two) (var 0)) (lit K.frac_pi2)) (over (lit K.c180) (lit K.pi))

latitude_test : T (encloses latitude (iv atan_least atan_most ∷ []) m89·5 c89·5)
unfolding of_bits sub mul div le
latitude_test = tt

pub anchor_in : (w : Float) → Between m3·25 c3·25 w → Between m89·5 c89·5 (latitude_of w)
unfolding to_degrees_of
anchor_in w i = enclosed latitude (iv atan_least atan_most ∷ []) (atan_of (exp_of w) ∷ []) m89·5 c89·5 latitude_test (atan_mid (exp_of w) (exp_mid w i), tt)
