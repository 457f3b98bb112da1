-- Condition 4: every float is finite, and every canvas coordinate, w, h, r and rad is at most 1,000,000 in magnitude.
use Rattle.std.specs.Prelude.{ℕ, zero, suc, ◌+◌, ◌*◌, ◌/◌, Bool, true, false, ◌&&◌, cond, List, [], ◌∷◌, eqb, Float, Option, None, Some}
use Rattle.std.specs.Float.{binary64}
use Rattle.std.specs.Float.Ieee.{neg, of_bits, le}
use Rattle.stream.specs.Numbers.{float_at}
use Rattle.records.specs.declared.records.Record.{Record}
use Rattle.records.specs.declared.records.Record.TheVariants.{Rescale, Option as OptionRecord, Feature, Variable, Place, Item, Points, Path}
use Rattle.records.specs.Records.{all_to, values_width}
use Rattle.records.specs.Walk.{Entry, entries}

abbrev pub million : Float
million = of_bits binary64 0x412e848000000000

unfoldable pub is_finite : Option Float → Bool
is_finite None = false
is_finite (Some v) = true

unfoldable pub on_canvas : Option Float → Bool
on_canvas None = false
on_canvas (Some v) = le (neg million) v && le v million

-- n floats from p on
abbrev pub all_finite : List ℕ → ℕ → ℕ → Bool
all_finite l p n = all_to (λ i. is_finite (float_at l (p + 8 * i))) n

abbrev pub all_on_canvas : List ℕ → ℕ → ℕ → Bool
all_on_canvas l p n = all_to (λ i. on_canvas (float_at l (p + 8 * i))) n

-- how many floats an option has
unfoldable pub option_floats : ℕ → ℕ
option_floats o = cond (eqb o 1) 0 (cond (eqb o 2) 2 1)

-- the floats of one record
unfoldable pub limited_at : List ℕ → Record → Bool
limited_at l Rescale = all_finite l 1 1
limited_at l (OptionRecord o) = all_finite l 2 (option_floats o)
limited_at l (Feature n) = all_finite l (2 + n) 2
limited_at l (Variable n) = all_finite l (2 + n) 1
limited_at l (Place n) = all_on_canvas l (2 + n) 2
limited_at l (Item k f n m) = all_on_canvas l (13 + n) (values_width m / 8)
limited_at l (Points r c) = all_on_canvas l 4 (2 * c)
limited_at l (Path r c zero k) = all_on_canvas l 4 2 && all_on_canvas l 22 (6 * k)
limited_at l (Path r c (suc f) k) = all_on_canvas l 6 (2 * k)

-- the floats of all records
unfoldable pub all_limited : List Entry → Bool
all_limited [] = true
all_limited (e ∷ es) = limited_at e.bytes e.parsed && all_limited es

unfoldable pub limited : List ℕ → Bool
limited l = all_limited (entries l 0)
