-- The numbers that the recipes name. Each is the f64 of Rust's constant or of the literal, by its pattern.
use Rattle.std.specs.Prelude.{from_bits, Float}
use Rattle.std.specs.Float.{binary64}
use Rattle.std.specs.Float.Ieee.{neg}

abbrev pub zero : Float
zero = from_bits binary64 0

abbrev pub one : Float
one = from_bits binary64 0x3ff0000000000000

abbrev pub two : Float
two = from_bits binary64 0x4000000000000000

abbrev pub three : Float
three = from_bits binary64 0x4008000000000000

abbrev pub four : Float
four = from_bits binary64 0x4010000000000000

abbrev pub c180 : Float
c180 = from_bits binary64 0x4066800000000000

abbrev pub c700 : Float
c700 = from_bits binary64 0x4085e00000000000

-- -700
abbrev pub m700 : Float
m700 = neg c700

-- std::f64::consts::PI, 3.141592653589793
abbrev pub pi : Float
pi = from_bits binary64 0x400921fb54442d18

-- std::f64::consts::FRAC_PI_2, 1.5707963267948966
abbrev pub frac_pi2 : Float
frac_pi2 = from_bits binary64 0x3ff921fb54442d18

-- 2π, 6.283185307179586
abbrev pub tau : Float
tau = from_bits binary64 0x401921fb54442d18

-- std::f64::consts::LN_2, 0.6931471805599453
abbrev pub ln2 : Float
ln2 = from_bits binary64 0x3fe62e42fefa39ef
