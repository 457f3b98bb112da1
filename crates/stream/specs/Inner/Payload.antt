-- A part of a stream that starts at a block, as the readers see it.
use Rattle.std.specs.Prelude.{◌≡◌, ℕ, ◌+◌, ◌*◌, ◌/◌, ◌%◌, ◌<◌, ◌≤◌, Bool, true, false, Result, Ok, Err, List, length, drop, nat_le, slice_index}
use Rattle.stream.specs.Payload.{payload}

-- its length, over numbers alone so that omega reads it
abbrev pub room : List ℕ → ℕ
room s = 508 * (length s / 512)

-- where its byte p stands: a block holds 508 of them
abbrev pub stream_offset : ℕ → ℕ
stream_offset p = 512 * (p / 508) + p % 508

-- the payload from an offset on
unfoldable pub rest : List ℕ → ℕ → List ℕ
rest s off = drop off (payload s)

-- the part that starts at the block of byte p of the payload; in it, p is at p % 508
abbrev pub part_from : List ℕ → ℕ → List ℕ
part_from s p = drop (512 * (p / 508)) s

-- whether n bytes of the rest, from i on, lie in one block
abbrev pub one_block : ℕ → ℕ → ℕ → Bool
one_block off i n = nat_le ((off + i) % 508 + n) 508

-- where the first of these bytes stands, by whether they lie in one block
abbrev pub contiguous_if : Bool → ℕ → Result ℕ ℕ
contiguous_if true at = Ok at
contiguous_if false at = Err at

-- n bytes of the rest, from i on, stand side by side in the part, from `at` on
pub record IsContiguous (s : List ℕ) (off i n at : ℕ) : Type 0 where
  pub fits : at + n ≤ length s
  pub same : (k : ℕ) → k < n → slice_index s (at + k) ≡ slice_index (rest s off) (i + k)

-- they do so in every part that has these bytes
abbrev pub AreContiguous : ℕ → ℕ → ℕ → ℕ → Type 0
AreContiguous off i n at = (s : List ℕ) → off ≤ room s → i + n ≤ length (rest s off) → IsContiguous s off i n at
