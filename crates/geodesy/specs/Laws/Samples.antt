-- Row 6 of document 01's table, and the ends of the range.
use Rattle.std.specs.Prelude.{◌≡◌, refl, Float}
use Rattle.std.specs.Float.{binary64}
use Rattle.std.specs.Float.Ieee.{of_bits, neg, add, sub, rem, lt, eq, sum, round, units, odd, size, climb, span}
use Rattle.float.specs.Functions.{rem_euclid360_of}
use Rattle.elementary.specs.Constants as K
use Rattle.geodesy.specs.Geodesy.{normalize_lon_of}

abbrev c190 : Float
c190 = of_bits binary64 0x4067c00000000000

abbrev c170 : Float
c170 = of_bits binary64 0x4065400000000000

normalized :
    (normalize_lon_of (neg K.c180) ≡ K.c180)
    × (normalize_lon_of c190 ≡ neg c170)
    × (normalize_lon_of K.c180 ≡ K.c180)
    × (normalize_lon_of (neg c190) ≡ c170)
    × (normalize_lon_of K.zero ≡ K.zero)
unfolding normalize_lon_of rem_euclid360_of of_bits neg add sub rem lt eq sum round units odd size climb span
normalized = (refl, refl, refl, refl, refl)
