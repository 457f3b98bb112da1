-- What conditions 5, 19 and 6 ask of: flatten, the step, and rescale.
use Rattle.std.specs.Prelude.{ℕ, Bool, false, ◌||◌, List, [], ◌∷◌, Float, Option, None, Some}
use Rattle.std.specs.Float.{binary64}
use Rattle.std.specs.Float.Ieee.{lt, le, of_bits}
use Rattle.stream.specs.Numbers.{float_at}
use Rattle.records.specs.Walk.{entries}
use Rattle.records.specs.Search.{records_of}

-- an option's float, or what stands for an absent one
abbrev pub float_or : List (List ℕ) → Option Float → Option Float
float_or [] d = d
float_or (l ∷ ls) d = float_at l 2

-- 0.001
abbrev pub thousandth : Float
thousandth = of_bits binary64 0x3f50624dd2f1a9fc

unfoldable pub flatten_in : List ℕ → Option Float
flatten_in l = float_or (records_of 2 5 (entries l 0)) (Some thousandth)

-- 100 metres, MAX_STEP_M of the source's densify.rs
abbrev pub hundred : Float
hundred = of_bits binary64 0x4059000000000000

unfoldable pub step_in : List ℕ → Option Float
step_in l = float_or (records_of 2 7 (entries l 0)) (Some hundred)

-- the first record's float
unfoldable pub rescale_in : List ℕ → Option Float
rescale_in l = float_at l 1

-- zero or negative
unfoldable pub not_above : Option Float → Bool
not_above None = false
not_above (Some v) = le v (of_bits binary64 0)

abbrev pub one : Float
one = of_bits binary64 0x3ff0000000000000

abbrev pub thousand : Float
thousand = of_bits binary64 0x408f400000000000

-- a step below 1 or above 1,000
unfoldable pub outside_bounds : Option Float → Bool
outside_bounds None = false
outside_bounds (Some v) = lt v one || lt thousand v
