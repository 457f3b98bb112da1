-- One record of document 01's stream, over the list of the payload bytes from its tag on. Numbers are little-endian,
-- floats f64; a name is a length byte, 1 to 31, and bytes 33 to 126.
use Rattle.std.specs.Prelude.{ℕ, zero, suc, ◌+◌, ◌*◌, ◌/◌, ◌%◌, List, [], ◌∷◌, Bool, true, false, ◌&&◌, ◌||◌, cond, length, get_or, take, drop, eqb, leb, ltb}
use Rattle.stream.specs.Numbers.{u16_at}
use Rattle.records.specs.declared.records.Record.TheVariants.{Rescale, Option, Feature, Variable, Place, Item, Points, Path}
use Rattle.records.specs.declared.records.Step.{Step}
use Rattle.records.specs.declared.records.Step.TheVariants.{Got, End, Bad}

-- n bytes from p on
unfoldable pub bytes_at : List ℕ → ℕ → ℕ → List ℕ
bytes_at l p n = take n (drop p l)

-- `if`, as a function of the test's answer and both arms
abbrev pub pick : Bool → Step → Step → Step
pick true a b = a
pick false a b = b

-- ---- names
unfoldable pub ascii_graphic : ℕ → Bool
ascii_graphic x = leb 33 x && leb x 126

-- f holds of every number below n
unfoldable pub all_to : (ℕ → Bool) → ℕ → Bool
all_to f zero = true
all_to f (suc n) = all_to f n && f n

-- n such bytes from p on
abbrev pub all_ascii_graphic : List ℕ → ℕ → ℕ → Bool
all_ascii_graphic l p n = all_to (λ i. ascii_graphic (get_or l (p + i) 0)) n

-- a name, its length byte at p
unfoldable pub named : List ℕ → ℕ → Bool
named l p =
    ltb p (length l)
    && (leb 1 (get_or l p 0) && (leb (get_or l p 0) 31 && (leb (p + 1 + get_or l p 0) (length l) && all_ascii_graphic l (p + 1) (get_or l p 0))))

-- an item's label: a name, or length 0 for none
unfoldable pub labelled : List ℕ → ℕ → Bool
labelled l p = (ltb p (length l) && eqb (get_or l p 0) 0) || named l p

-- a name after the tag, and so many bytes after it
unfoldable pub named_then : List ℕ → ℕ → Bool
named_then l more = named l 1 && leb (2 + more + get_or l 1 0) (length l)

-- a count at p, and so many bytes for each after it
unfoldable pub counted : List ℕ → ℕ → ℕ → Bool
counted l p each = leb (p + 2) (length l) && leb (p + 2 + each * u16_at l p) (length l)

-- ---- one reader for each tag. `Got` has the record and how many bytes it takes.
-- 0, the end: only zeros follow
unfoldable pub all_zero : List ℕ → Bool
all_zero [] = true
all_zero (x ∷ xs) = eqb x 0 && all_zero xs

unfoldable pub end_of : List ℕ → Step
end_of l = pick (all_zero l) End Bad

-- 1: rescale
unfoldable pub rescale_of : List ℕ → Step
rescale_of l = pick (leb 9 (length l)) (Got Rescale 9) Bad

-- 2: an option, 1 to 7. 1 is frame, a byte of 0 or 1; 2 is anchor, two floats; the others are one float.
unfoldable pub option_width : ℕ → ℕ
option_width o = cond (eqb o 1) 1 (cond (eqb o 2) 16 8)

unfoldable pub option_fits : List ℕ → ℕ → Bool
option_fits l o = leb 1 o && (leb o 7 && (leb (2 + option_width o) (length l) && (ltb 1 o || leb (get_or l 2 0) 1)))

unfoldable pub option_of : List ℕ → Step
option_of l = pick (leb 2 (length l) && option_fits l (get_or l 1 0)) (Got (Option (get_or l 1 0)) (2 + option_width (get_or l 1 0))) Bad

-- 3: a host feature: name, longitude, latitude
unfoldable pub feature_of : List ℕ → Step
feature_of l = pick (named_then l 16) (Got (Feature (get_or l 1 0)) (18 + get_or l 1 0)) Bad

-- 4: a variable: name, value
unfoldable pub variable_of : List ℕ → Step
variable_of l = pick (named_then l 8) (Got (Variable (get_or l 1 0)) (10 + get_or l 1 0)) Bad

-- 5: a place: label, x, y, nested, line, column
unfoldable pub place_of : List ℕ → Step
place_of l = pick (named_then l 25 && leb (get_or l (18 + get_or l 1 0) 0) 1) (Got (Place (get_or l 1 0)) (27 + get_or l 1 0)) Bad

-- 6: an item: kind, flags, label, line, column, presence, and the values that are present
-- how many bytes the values take that a presence byte names: `at` is a pair
unfoldable pub values_width : ℕ → ℕ
values_width m = 16 * (m % 2) + 8 * (m / 2 % 2) + 8 * (m / 4 % 2) + 8 * (m / 8 % 2) + 8 * (m / 16 % 2)

-- kind, flags and label
unfoldable pub item_begins : List ℕ → Bool
item_begins l = leb 4 (length l) && (leb (get_or l 1 0) 10 && (ltb (get_or l 2 0) 32 && labelled l 3))

-- n is the label's length, m the presence byte
unfoldable pub item_fits : List ℕ → ℕ → ℕ → Bool
item_fits l n m = item_begins l && (leb (13 + n) (length l) && (ltb m 32 && leb (13 + n + values_width m) (length l)))

unfoldable pub item_with : List ℕ → ℕ → ℕ → Step
item_with l n m = pick (item_fits l n m) (Got (Item (get_or l 1 0) (get_or l 2 0) n m) (13 + n + values_width m)) Bad

unfoldable pub item_of : List ℕ → Step
item_of l = item_with l (get_or l 3 0) (get_or l (12 + get_or l 3 0) 0)

-- 7: points, or fill points: role, count, pairs
unfoldable pub points_of : List ℕ → Step
points_of l = pick (counted l 2 16 && leb (get_or l 1 0) 1) (Got (Points (get_or l 1 0) (u16_at l 2)) (4 + 16 * u16_at l 2)) Bad

-- 8: a path, or a fill path: role, closed, form, and a count at p with so many bytes for each
unfoldable pub path_with : List ℕ → ℕ → ℕ → ℕ → Step
path_with l form p each = pick (counted l p each) (Got (Path (get_or l 1 0) (get_or l 2 0) form (u16_at l p)) (p + 2 + each * u16_at l p)) Bad

-- form 0: a start, a count and three pairs for each cubic
unfoldable pub cubics_of : List ℕ → Step
cubics_of l = path_with l 0 20 48

-- form 1: a count and pairs
unfoldable pub polyline_of : List ℕ → Step
polyline_of l = path_with l 1 4 16

unfoldable pub path_of : List ℕ → Step
path_of l =
    pick (leb 4 (length l) && (leb (get_or l 1 0) 1 && (leb (get_or l 2 0) 1 && leb (get_or l 3 0) 1)))
    (pick (eqb (get_or l 3 0) 0) (cubics_of l) (polyline_of l))
    Bad

-- what a tag t has the reader look for
unfoldable pub by_tag : List ℕ → ℕ → Step
by_tag l t =
    pick (eqb t 0) (end_of l)
    (pick (eqb t 1) (rescale_of l)
    (pick (eqb t 2) (option_of l)
    (pick (eqb t 3) (feature_of l)
    (pick (eqb t 4) (variable_of l)
    (pick (eqb t 5) (place_of l)
    (pick (eqb t 6) (item_of l)
    (pick (eqb t 7) (points_of l)
    (pick (eqb t 8) (path_of l)
    Bad))))))))

-- the record that begins here
unfoldable pub record_of : List ℕ → Step
record_of l = pick (eqb (length l) 0) Bad (by_tag l (get_or l 0 0))
