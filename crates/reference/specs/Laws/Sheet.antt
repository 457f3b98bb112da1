-- Document 01's reference sheet: the host's call on its stream with the built-in kind table in the larger tier, as `place` makes it, computed from the definitions. Beside it the entry tier, a table by which boxes are not drawn, and refused calls: one for want of room, one early, and one for its table.
use Rattle.std.specs.Prelude.{◌≡◌, refl, Bool, true, false, ◌&&◌, List, [], ◌∷◌, ◌++◌, ℕ, ◌+◌, ◌-◌, ◌/◌, ◌%◌, ◌^◌, length, replicate, take, drop, pos, Float}
use Rattle.std.specs.Float.{binary64}
use Rattle.std.specs.Float.Ieee.{of_bits, of_int, neg, mul, eq}
use Rattle.float.specs.Functions.{round_of}
use Rattle.projection.specs.Projection.{billion}
use Rattle.stream.specs.Blocks.{word_sum}
use Rattle.kind_table.specs.KindTable.{built_in}
use Rattle.register.specs.Register as register
use Rattle.geopic.specs.Geopic.{Buffers, refusal, answer_of, buffers_after}
use Rattle.reference.specs.Laws.Everything.{everything}
use Rattle.reference.specs.Laws.Scenes.{f0, f1, f2, variable, item}

-- ---- one block with a right check: a payload of at most 508 bytes
abbrev word : ℕ → List ℕ
word n = n % 256 ∷ n / 256 % 256 ∷ n / 65536 % 256 ∷ n / 16777216 % 256 ∷ []

abbrev block : ℕ → List ℕ → List ℕ
block i p = p ++ word ((word_sum p 0 127 + i) % 2 ^ 32)

abbrev short : List ℕ → List ℕ
short p = p ++ replicate (508 - length p) 0

-- rescale 1, a record for the frame, geo_lat 0, geo_lon 0 and a box at (0, 0), w 2, h 2
abbrev stream_with : List ℕ → List ℕ
stream_with frame =
    block 0 (short (1 ∷ f1 ++ frame ++ variable register.geo_lat f0 ++ variable register.geo_lon f0 ++ item 0 0 7 ++ f0 ++ f0 ++ f2 ++ f2))

-- with geo_frame 1
abbrev pub stream : List ℕ
stream = stream_with (variable register.geo_frame f1)

-- ---- what is lent: nothing of it is zero, so that what is cleared can be told from what is as it was
abbrev o : Float
o = of_bits binary64 0

abbrev whole : ℕ → Float
whole n = of_int binary64 (pos n)

-- with so many words for features
abbrev pub buffers_with : ℕ → Buffers
buffers_with words = record { work = replicate 32 (whole 11); positions = replicate 32 (whole 12); features = replicate words 13; warnings = replicate 4 14 }

abbrev pub lent : Buffers
lent = buffers_with 12

-- ---- the P lines: each number to the nearest whole number of 10⁻⁹ degree, by value
abbrev pub agree : List Float → List Float → Bool
agree [] [] = true
agree [] (n ∷ ns) = false
agree (v ∷ vs) [] = false
agree (v ∷ vs) (n ∷ ns) = eq (round_of (mul binary64 v billion)) n && agree vs ns

abbrev p : Float
p = whole 898315

abbrev m : Float
m = neg p

-- longitude and latitude of the nine positions
abbrev pub ring : List Float
ring = m ∷ m ∷ o ∷ m ∷ p ∷ m ∷ p ∷ o ∷ p ∷ p ∷ o ∷ p ∷ m ∷ p ∷ m ∷ o ∷ m ∷ m ∷ []

pub sheet :
    -- R 0 0, 9 positions, 1 feature line, B 1999988 0
    (answer_of stream built_in 1 lent ≡ record { number = 0; method = 0; controls = 0; spent = 0; positions = 9; features = 1; warnings = 0; left = 1999988 })
    -- work is cleared
    × ((buffers_after stream built_in 1 lent).work ≡ replicate 32 o)
    -- the P lines, and the rest of the slice as it was
    × (agree (take 18 (buffers_after stream built_in 1 lent).positions) ring ≡ true)
    × (drop 18 (buffers_after stream built_in 1 lent).positions ≡ replicate 14 (whole 12))
    -- F 0 2 0 0 0 9, and the rest of the slice as it was
    × ((buffers_after stream built_in 1 lent).features ≡ 0 ∷ 2 ∷ 0 ∷ 0 ∷ 0 ∷ 9 ∷ replicate 6 13)
    -- no W line, and the slice as it was
    × ((buffers_after stream built_in 1 lent).warnings ≡ replicate 4 14)
unfolding everything
sheet = (refl, refl, refl, refl, refl, refl)

-- in the entry tier: the same but for what is left
pub entry_sheet : answer_of stream built_in 0 lent ≡ record { number = 0; method = 0; controls = 0; spent = 0; positions = 9; features = 1; warnings = 0; left = 19988 }
unfolding everything
entry_sheet = refl

-- with a word too few for the feature line: 17, and every slice is cleared
pub no_room :
    (answer_of stream built_in 1 (buffers_with 5) ≡ refusal 17)
    × (buffers_after stream built_in 1 (buffers_with 5) ≡ record { work = replicate 32 o; positions = replicate 32 o; features = replicate 5 0; warnings = replicate 4 0 })
unfolding everything
no_room = (refl, refl)

-- without a frame: 7, and every slice is as it was
pub no_frame : (answer_of (stream_with []) built_in 1 lent ≡ refusal 7) × (buffers_after (stream_with []) built_in 1 lent ≡ lent)
unfolding everything
no_frame = (refl, refl)

-- by a table whose entry for box is 2: no feature, nothing drawn
pub no_boxes : answer_of stream (2 ∷ drop 1 built_in) 1 lent ≡ record { number = 0; method = 0; controls = 0; spent = 0; positions = 0; features = 0; warnings = 0; left = 2000000 }
unfolding everything
no_boxes = refl

-- with a table whose entry for block is 0, and no stream at all: 20, and every slice is as it was
pub no_table : (answer_of [] (replicate 11 0) 1 lent ≡ refusal 20) × (buffers_after [] (replicate 11 0) 1 lent ≡ lent)
unfolding everything
no_table = (refl, refl)
