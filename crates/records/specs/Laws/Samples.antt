-- The definitions on known bytes: a record of each tag, the same cut off by a byte, for each rule a record that breaks
-- it, and steps around their bounds.
use Rattle.std.specs.Prelude.{◌≡◌, refl, true, false, List, [], ◌∷◌, ◌++◌, map, ℕ, ◌-◌, length, take, replicate, None, Some}
use Rattle.std.specs.Float.{binary64}
use Rattle.std.specs.Float.Ieee.{lt, of_bits}
use Rattle.stream.specs.Numbers.{u16_at}
use Rattle.records.specs.declared.records.Record.TheVariants.{Rescale, Option, Feature, Variable, Place, Item, Points, Path}
use Rattle.records.specs.declared.records.Step.{Step}
use Rattle.records.specs.declared.records.Step.TheVariants.{Got, End, Bad}
use Rattle.records.specs.Records.{ascii_graphic, all_to, named, labelled, named_then, counted, all_zero, option_width, option_fits, values_width, item_begins, item_fits, item_with}
use Rattle.records.specs.Records.{end_of, rescale_of, option_of, feature_of, variable_of, place_of, item_of, points_of, path_with, cubics_of, polyline_of, path_of, by_tag, record_of}
use Rattle.records.specs.Values.{one, thousand, outside_bounds}

abbrev zeros : ℕ → List ℕ
zeros n = replicate n 0

-- each takes all of its bytes
whole : List (List ℕ × Step)
whole =
    (1 ∷ zeros 8, Got Rescale 9)
    -- a frame, an anchor, a scale, a view's scale, a step
    ∷ (2 ∷ 1 ∷ 1 ∷ [], Got (Option 1) 3)
    ∷ (2 ∷ 2 ∷ zeros 16, Got (Option 2) 18)
    ∷ (2 ∷ 3 ∷ zeros 8, Got (Option 3) 10)
    ∷ (2 ∷ 6 ∷ zeros 8, Got (Option 6) 10)
    ∷ (2 ∷ 7 ∷ zeros 8, Got (Option 7) 10)
    -- the shortest name and the longest
    ∷ (3 ∷ 1 ∷ 33 ∷ zeros 16, Got (Feature 1) 19)
    ∷ (4 ∷ 31 ∷ replicate 31 126 ++ zeros 8, Got (Variable 31) 41)
    ∷ (5 ∷ 1 ∷ 65 ∷ zeros 16 ++ 1 ∷ zeros 8, Got (Place 1) 28)
    -- an item with nothing, with `at` alone, with `rad` alone, with everything
    ∷ (6 ∷ 10 ∷ 31 ∷ 0 ∷ zeros 9, Got (Item 10 31 0 0) 13)
    ∷ (6 ∷ 0 ∷ 0 ∷ 0 ∷ zeros 8 ++ 1 ∷ zeros 16, Got (Item 0 0 0 1) 29)
    ∷ (6 ∷ 0 ∷ 0 ∷ 0 ∷ zeros 8 ++ 16 ∷ zeros 8, Got (Item 0 0 0 16) 21)
    ∷ (6 ∷ 0 ∷ 0 ∷ 1 ∷ 65 ∷ zeros 8 ++ 31 ∷ zeros 48, Got (Item 0 0 1 31) 62)
    ∷ (7 ∷ 0 ∷ 0 ∷ 0 ∷ [], Got (Points 0 0) 4)
    ∷ (7 ∷ 1 ∷ 2 ∷ 0 ∷ zeros 32, Got (Points 1 2) 36)
    ∷ (8 ∷ 0 ∷ 1 ∷ 0 ∷ zeros 16 ++ 1 ∷ 0 ∷ zeros 48, Got (Path 0 1 0 1) 70)
    ∷ (8 ∷ 1 ∷ 0 ∷ 1 ∷ 2 ∷ 0 ∷ zeros 32, Got (Path 1 0 1 2) 38)
    ∷ []

cut : List ℕ × Step → List ℕ × Step
cut s = (take (length s.0 - 1) s.0, Bad)

-- the end, and a record with more after it
ends : List (List ℕ × Step)
ends = (0 ∷ [], End) ∷ (zeros 9, End) ∷ (1 ∷ zeros 20, Got Rescale 9) ∷ []

broken : List (List ℕ)
broken =
    -- nothing, a tag that is none, more than zeros after the end
    []
    ∷ (9 ∷ zeros 99)
    ∷ (0 ∷ zeros 5 ++ 1 ∷ [])
    -- options 0 and 8, frame 2
    ∷ (2 ∷ 0 ∷ zeros 16)
    ∷ (2 ∷ 8 ∷ zeros 16)
    ∷ (2 ∷ 1 ∷ 2 ∷ [])
    -- a name's bytes 32 and 127, its lengths 0 and 32
    ∷ (3 ∷ 1 ∷ 32 ∷ zeros 16)
    ∷ (4 ∷ 2 ∷ 33 ∷ 127 ∷ zeros 8)
    ∷ (3 ∷ 0 ∷ zeros 16)
    ∷ (4 ∷ 32 ∷ replicate 32 65 ++ zeros 8)
    -- nested 2
    ∷ (5 ∷ 1 ∷ 65 ∷ zeros 16 ++ 2 ∷ zeros 8)
    -- kind 11, flags 32, a label's byte 32 and its length 32, presence 32
    ∷ (6 ∷ 11 ∷ zeros 11)
    ∷ (6 ∷ 0 ∷ 32 ∷ zeros 10)
    ∷ (6 ∷ 0 ∷ 0 ∷ 1 ∷ 32 ∷ zeros 9)
    ∷ (6 ∷ 0 ∷ 0 ∷ 32 ∷ replicate 32 65 ++ zeros 9)
    ∷ (6 ∷ 0 ∷ 0 ∷ 0 ∷ zeros 8 ++ 32 ∷ zeros 48)
    -- roles 2, closed 2, form 2
    ∷ (7 ∷ 2 ∷ 0 ∷ 0 ∷ [])
    ∷ (8 ∷ 2 ∷ 0 ∷ 1 ∷ 0 ∷ 0 ∷ [])
    ∷ (8 ∷ 0 ∷ 2 ∷ 1 ∷ 0 ∷ 0 ∷ [])
    ∷ (8 ∷ 0 ∷ 0 ∷ 2 ∷ zeros 99)
    ∷ []

bad : List ℕ → List ℕ × Step
bad l = (l, Bad)

table : List (List ℕ × Step)
table = whole ++ map cut whole ++ ends ++ map bad broken

samples-agree : map (λ (s : List ℕ × Step). record_of s.0) table ≡ map (λ (s : List ℕ × Step). s.1) table
unfolding
    whole cut ends broken bad table u16_at ascii_graphic all_to named labelled named_then counted all_zero option_width option_fits values_width item_begins item_fits item_with
    end_of rescale_of option_of feature_of variable_of place_of item_of points_of path_with cubics_of polyline_of path_of by_tag record_of
samples-agree = refl

-- condition 19: 1 and 1,000, their neighbours beyond, zeros, what is not finite
bounds-agree :
    (outside_bounds (Some one) ≡ false)
    × (outside_bounds (Some (of_bits binary64 0x3fefffffffffffff)) ≡ true)
    × (outside_bounds (Some thousand) ≡ false)
    × (outside_bounds (Some (of_bits binary64 0x408f400000000001)) ≡ true)
    × (outside_bounds (Some (of_bits binary64 0)) ≡ true)
    × (outside_bounds (Some (of_bits binary64 0x8000000000000000)) ≡ true)
    × (outside_bounds None ≡ false)
unfolding outside_bounds of_bits lt
bounds-agree = (refl, refl, refl, refl, refl, refl, refl)
