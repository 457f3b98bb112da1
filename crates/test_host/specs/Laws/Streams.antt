-- Refusals 1 to 6 and 19 computed on streams of one block, and of two with a record of points across the blocks' border.
use Rattle.std.specs.Prelude.{◌≡◌, refl, List, [], ◌∷◌, ◌++◌, ℕ, ◌+◌, ◌-◌, ◌/◌, ◌%◌, ◌^◌, length, take, drop, replicate}
use Rattle.std.specs.Float.Ieee.{neg, lt, le, of_bits}
use Rattle.stream.specs.Numbers.{u16_at, u32_at, u64_at, float_of, float_at}
use Rattle.stream.specs.Conditions.{first_of}
use Rattle.stream.specs.Blocks.{sized, word_sum, checked, all_checked, of_blocks}
use Rattle.stream.specs.Payload.{payloads, payload}
use Rattle.records.specs.Records.{ascii_graphic, all_to, named, labelled, named_then, counted, all_zero, option_width, option_fits, values_width, item_begins, item_fits, item_with}
use Rattle.records.specs.Records.{end_of, rescale_of, option_of, feature_of, variable_of, place_of, item_of, points_of, path_with, cubics_of, polyline_of, path_of, by_tag, record_of}
use Rattle.records.specs.Walk.{entries, ends}
use Rattle.records.specs.Layout.{before, step_of, in_order, laid_out_from, laid_out}
use Rattle.records.specs.Limits.{is_finite, on_canvas, option_floats, limited_at, all_limited, limited}
use Rattle.records.specs.Search.{ends_search, search_step_of, records_of}
use Rattle.records.specs.Values.{flatten_in, step_in, rescale_in, not_above, outside_bounds}
use Rattle.records.specs.Conditions.{of_values, of_records, of_stream}
use Rattle.records.specs.Inner.Refusals.{refusal_of}

-- ---- blocks with right checks: a payload of at most 508 bytes, and one of 508 to 1016
abbrev word : ℕ → List ℕ
word n = n % 256 ∷ n / 256 % 256 ∷ n / 65536 % 256 ∷ n / 16777216 % 256 ∷ []

abbrev block : ℕ → List ℕ → List ℕ
block i p = p ++ word ((word_sum p 0 127 + i) % 2 ^ 32)

abbrev short : List ℕ → List ℕ
short p = p ++ replicate (508 - length p) 0

abbrev sheet : List ℕ → List ℕ
sheet p = block 0 (take 508 p) ++ block 1 (short (drop 508 p))

-- ---- floats: 0, 1, -1 and 2,000,000
abbrev f0 : List ℕ
f0 = replicate 8 0

abbrev f1 : List ℕ
f1 = replicate 6 0 ++ 240 ∷ 63 ∷ []

abbrev m1 : List ℕ
m1 = replicate 6 0 ++ 240 ∷ 191 ∷ []

abbrev far : List ℕ
far = replicate 5 0 ++ 132 ∷ 62 ∷ 65 ∷ []

-- ---- records
abbrev rescale : List ℕ → List ℕ
rescale f = 1 ∷ f

abbrev flatten : List ℕ → List ℕ
flatten f = 2 ∷ 5 ∷ f

abbrev step : List ℕ → List ℕ
step f = 2 ∷ 7 ∷ f

-- a line with nothing but its kind
abbrev line : List ℕ
line = 6 ∷ 4 ∷ replicate 11 0

-- 40 points, all at the origin but for the last coordinate: 644 bytes
abbrev points : List ℕ → List ℕ
points f = 7 ∷ 0 ∷ 40 ∷ 0 ∷ replicate 632 0 ++ f

known :
    (refusal_of (sheet (rescale f1 ++ line ++ points f1)) ≡ 0)
    × (refusal_of (drop 1 (sheet (rescale f1 ++ line ++ points f1))) ≡ 1)
    -- the second block's check on the first
    × (refusal_of (block 1 (short (rescale f1))) ≡ 2)
    -- no item for the points, and 3 comes before 6
    × (refusal_of (block 0 (short (rescale f0 ++ 7 ∷ replicate 3 0))) ≡ 3)
    -- the float that lies last behind the border, and 4 comes before 5 and 6
    × (refusal_of (sheet (rescale f0 ++ flatten m1 ++ line ++ points far)) ≡ 4)
    -- a step of 1 is taken; 19 comes after 5 and before 6
    × (refusal_of (block 0 (short (rescale f1 ++ step f1))) ≡ 0)
    × (refusal_of (block 0 (short (rescale f0 ++ flatten m1 ++ step far))) ≡ 5)
    × (refusal_of (block 0 (short (rescale f0 ++ step far))) ≡ 19)
    × (refusal_of (block 0 (short (rescale f0))) ≡ 6)
unfolding first_of of_blocks of_values of_records of_stream sized all_checked checked word_sum payload payloads laid_out laid_out_from in_order step_of before limited all_limited limited_at option_floats is_finite on_canvas flatten_in step_in rescale_in records_of search_step_of ends_search not_above outside_bounds entries ends record_of by_tag end_of rescale_of option_of feature_of variable_of place_of item_of points_of path_of path_with cubics_of polyline_of item_with item_fits item_begins values_width option_fits option_width named_then counted labelled named ascii_graphic all_to all_zero float_at float_of u16_at u32_at u64_at of_bits neg lt le
known = (refl, refl, refl, refl, refl, refl, refl, refl, refl)
