-- The little-endian numbers that stand at p of a list of bytes. A NaN and an infinity are told apart from values here,
-- and refused later.
use Rattle.std.specs.Prelude.{ℕ, ◌+◌, ◌*◌, List, from_bits, slice_index, Float, Option, None, Some}
use Rattle.std.specs.Float.{nan, inf, fin, binary64}

unfoldable pub u16_at : List ℕ → ℕ → ℕ
u16_at l p = slice_index l p + 256 * slice_index l (p + 1)

unfoldable pub u32_at : List ℕ → ℕ → ℕ
u32_at l p = u16_at l p + 65536 * u16_at l (p + 2)

unfoldable pub u64_at : List ℕ → ℕ → ℕ
u64_at l p = u32_at l p + 4294967296 * u32_at l (p + 4)

unfoldable pub float_of : Float → Option Float
float_of nan = None
float_of (inf s) = None
float_of (fin s m e) = Some (fin s m e)

unfoldable pub float_at : List ℕ → ℕ → Option Float
float_at l p = float_of (from_bits binary64 (u64_at l p))
