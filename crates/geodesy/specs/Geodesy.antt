-- Web Mercator as the source's geodesy.rs has it, operation by operation.
use Rattle.std.specs.Prelude.{from_bits, Float}
use Rattle.std.specs.Float.{binary64}
use Rattle.std.specs.Float.Ieee.{neg, add, sub, mul, div, eq}
use Rattle.float.specs.Functions.{pick, rem_euclid360_of}
use Rattle.elementary.specs.Constants as K
use Rattle.elementary.specs.Functions.{to_radians_of, to_degrees_of, tan_of, ln_of, exp_of, atan_of}
use Rattle.geodesy.specs.declared.LonLat.{LonLat}
use Rattle.geodesy.specs.declared.Metres.{Metres}

-- MERCATOR_RADIUS, 6378137
abbrev pub radius : Float
radius = from_bits binary64 0x415854a640000000

-- std::f64::consts::FRAC_PI_4, 0.7853981633974483
abbrev pub frac_pi4 : Float
frac_pi4 = from_bits binary64 0x3fe921fb54442d18

unfoldable pub normalize_lon_of : Float → Float
normalize_lon_of lon =
    let l = sub binary64 (rem_euclid360_of (add binary64 lon K.c180)) K.c180 in
    pick (eq l (neg K.c180)) K.c180 l

unfoldable pub mercator_forward_of : LonLat → Metres
mercator_forward_of p =
    record {
      x = mul binary64 radius (to_radians_of p.lon);
      y = mul binary64 radius (ln_of (tan_of (add binary64 frac_pi4 (div binary64 (to_radians_of p.lat) K.two))));
    }

unfoldable pub mercator_inverse_of : Metres → LonLat
mercator_inverse_of m =
    record {
      lon = normalize_lon_of (to_degrees_of (div binary64 m.x radius));
      lat = to_degrees_of (sub binary64 (mul binary64 K.two (atan_of (exp_of (div binary64 m.y radius)))) K.frac_pi2);
    }
