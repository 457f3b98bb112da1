-- Known values: the patterns of x, and of its trunc, ceil and round.
use Rattle.std.specs.Prelude.{◌≡◌, refl, Bool, true, ◌&&◌, List, [], ◌∷◌, ℕ, eqb}
use Rattle.std.specs.Float.{binary64}
use Rattle.std.specs.Float.Ieee.{round, of_bits, to_bits}
use Rattle.float.specs.Functions.{trunc_of, ceil_of, round_of}

data Sample : Type 0 where
  row : (x trunc ceil round : ℕ) → Sample

abbrev holds : List Sample → Bool
holds [] = true
holds (row x t c r ∷ rs) =
    let v = of_bits binary64 x in
    eqb (to_bits binary64 (trunc_of v)) t && eqb (to_bits binary64 (ceil_of v)) c && eqb (to_bits binary64 (round_of v)) r && holds rs

abbrev samples : List Sample
samples =
    -- 2.5, -2.5 and 1.5
    row 0x4004000000000000 0x4000000000000000 0x4008000000000000 0x4008000000000000
    ∷ row 0xc004000000000000 0xc000000000000000 0xc000000000000000 0xc008000000000000
    ∷ row 0x3ff8000000000000 0x3ff0000000000000 0x4000000000000000 0x4000000000000000
    -- -0.5, -0.4, 0.5 and what lies below it
    ∷ row 0xbfe0000000000000 0x8000000000000000 0x8000000000000000 0xbff0000000000000
    ∷ row 0xbfd999999999999a 0x8000000000000000 0x8000000000000000 0x8000000000000000
    ∷ row 0x3fe0000000000000 0x0000000000000000 0x3ff0000000000000 0x3ff0000000000000
    ∷ row 0x3fdfffffffffffff 0x0000000000000000 0x3ff0000000000000 0x0000000000000000
    -- 2 ^ 52 - 0.5, 2 ^ 52 + 1 and 1e308
    ∷ row 0x432fffffffffffff 0x432ffffffffffffe 0x4330000000000000 0x4330000000000000
    ∷ row 0x4330000000000001 0x4330000000000001 0x4330000000000001 0x4330000000000001
    ∷ row 0x7fe1ccf385ebc8a0 0x7fe1ccf385ebc8a0 0x7fe1ccf385ebc8a0 0x7fe1ccf385ebc8a0
    -- -0.0, 5e-324, -5e-324 and the infinities
    ∷ row 0x8000000000000000 0x8000000000000000 0x8000000000000000 0x8000000000000000
    ∷ row 0x0000000000000001 0x0000000000000000 0x3ff0000000000000 0x0000000000000000
    ∷ row 0x8000000000000001 0x8000000000000000 0x8000000000000000 0x8000000000000000
    ∷ row 0x7ff0000000000000 0x7ff0000000000000 0x7ff0000000000000 0x7ff0000000000000
    ∷ row 0xfff0000000000000 0xfff0000000000000 0xfff0000000000000 0xfff0000000000000
    ∷ []

known : holds samples ≡ true
unfolding trunc_of ceil_of round_of round of_bits to_bits
known = refl
