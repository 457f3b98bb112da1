-- The big-endian numbers that stand at p of a list of bytes: their order is that of the bytes.
use Rattle.std.specs.Prelude.{ℕ, ◌+◌, ◌-◌, ◌*◌, ◌/◌, ◌%◌, ◌^◌, List, get_or}

unfoldable pub be16_at : List ℕ → ℕ → ℕ
be16_at l p = 256 * get_or l p 0 + get_or l (p + 1) 0

unfoldable pub be32_at : List ℕ → ℕ → ℕ
be32_at l p = 65536 * be16_at l p + be16_at l (p + 2)

unfoldable pub be64_at : List ℕ → ℕ → ℕ
be64_at l p = 4294967296 * be32_at l p + be32_at l (p + 4)

-- the eight bytes at p, the first of them being v
unfoldable pub word_of : List ℕ → ℕ → ℕ → ℕ
word_of l p v = be64_at l p % 72057594037927936 + v * 72057594037927936

-- what of eight bytes is a name's length and its first bytes, where the name has n
abbrev pub front_of : ℕ → ℕ → ℕ
front_of x n = x / 2 ^ (8 * (7 - n))
