-- Rows 4, 9 and 12 of document 01's table.
use Rattle.std.specs.Prelude.{◌≡◌, true, false, length, refl, Float}
use Rattle.std.specs.Float.{binary64}
use Rattle.std.specs.Float.Ieee.{of_bits, of_int, to_unsigned, neg, add, sub, mul, div, lt, eq, le, sum, round, units, odd, size, climb, span}
use Rattle.float.specs.Functions.{ceil_of}
use Rattle.elementary.specs.Constants as K
use Rattle.budget.specs.Budget.{fresh, grant_of, take_of}
use Rattle.values.specs.declared.Point.{Point}
use Rattle.densify.specs.Densify.{clamped, segment_parts, same_point, close_ring_of, sharp_corners, leaf_of}

-- 100 and 101
abbrev c100 : Float
c100 = of_bits binary64 0x4059000000000000

abbrev c101 : Float
c101 = of_bits binary64 0x4059400000000000

abbrev origin : Point
origin = record { x = K.zero; y = K.zero }

rows :
    -- 4: a segment of 100 m is one part, one of 101 m two
    (segment_parts c100 c100 ≡ 1)
    × (segment_parts c100 c101 ≡ 2)
    -- 9: a sharp box of no width and height has 4 positions
    × (length (close_ring_of (sharp_corners origin K.zero K.zero)) ≡ 4)
    -- 12: a piece that is not flat, with 1 left: one point, short
    × (length (leaf_of false origin (fresh 1)).points ≡ 1)
    × ((leaf_of false origin (fresh 1)).after.hit ≡ true)
unfolding segment_parts clamped close_ring_of same_point sharp_corners leaf_of take_of grant_of ceil_of to_unsigned of_bits of_int neg add sub mul div lt eq le sum round units odd size climb span
rows = (refl, refl, refl, refl, refl)
