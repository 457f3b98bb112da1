-- The definitions on known scenes: rows 7 and 8 of document 01's table, and what else decides which point a label
-- names.
use Rattle.std.specs.Prelude.{◌≡◌, refl, List, [], ◌∷◌, ◌++◌, ℕ, replicate, Option, None, Some}
use Rattle.std.specs.Float.{binary64}
use Rattle.std.specs.Float.Ieee.{of_bits, of_int, add, div, sum, round, units, odd, size, climb, span}
use Rattle.stream.specs.Numbers.{u16_at, u32_at, u64_at, float_of, float_at}
use Rattle.records.specs.Records.{ascii_graphic, all_to, named, labelled, named_then, counted, all_zero, option_width, option_fits, values_width, item_begins, item_fits, item_with, end_of, rescale_of, option_of, feature_of, variable_of, place_of, item_of, points_of, path_with, cubics_of, polyline_of, path_of, by_tag, record_of, bytes_at}
use Rattle.records.specs.Walk.{entries}
use Rattle.records.specs.Search.{ends_search, search_step_of, records_of}
use Rattle.scene.specs.Scene as scene
use Rattle.scene.specs.Scene.{scene_of, value_of, float_value_at, bit, point_at, points_at, cubic_at, cubics_at, place_at, form_at, path_at, item_at}
use Rattle.values.specs.declared.Point.{Point}
use Rattle.scene.specs.Labels.{same_bytes, sum_of, mean_of, mean_point, start_of, first_start, mean_or_start, reference_point, greater, consider, label_is, best_place, best_item, point_of_label}

-- ---- floats: 0 and 1 to 4
abbrev f0 : List ℕ
f0 = replicate 8 0

abbrev f1 : List ℕ
f1 = replicate 6 0 ++ 240 ∷ 63 ∷ []

abbrev f2 : List ℕ
f2 = replicate 6 0 ++ 0 ∷ 64 ∷ []

abbrev f3 : List ℕ
f3 = replicate 6 0 ++ 8 ∷ 64 ∷ []

-- the point (v, v), its pattern given
abbrev at : ℕ → Option Point
at v = Some (record { x = of_bits binary64 v; y = of_bits binary64 v })

abbrev at1 : Option Point
at1 = at 0x3ff0000000000000

abbrev at2 : Option Point
at2 = at 0x4000000000000000

-- ---- records labelled A, by their bytes: nested or flags, line, column, and a float for both coordinates
abbrev word : ℕ → List ℕ
word n = n ∷ replicate 3 0

abbrev place : ℕ → ℕ → ℕ → List ℕ → List ℕ
place nested line col f = 5 ∷ 1 ∷ 65 ∷ f ++ f ++ nested ∷ word line ++ word col

abbrev item : ℕ → ℕ → ℕ → List ℕ → List ℕ
item flags line col f = 6 ∷ 0 ∷ flags ∷ 1 ∷ 65 ∷ word line ++ word col ++ 1 ∷ f ++ f

-- an item with no point of its own
abbrev line : List ℕ
line = 6 ∷ 4 ∷ 0 ∷ 1 ∷ 65 ∷ replicate 9 0

abbrev points : ℕ → List ℕ → List ℕ → List ℕ
points role f g = 7 ∷ role ∷ 2 ∷ 0 ∷ f ++ f ++ g ++ g

abbrev no_points : List ℕ
no_points = 7 ∷ 0 ∷ 0 ∷ 0 ∷ []

abbrev curve : ℕ → List ℕ → List ℕ
curve role f = 8 ∷ role ∷ 0 ∷ 0 ∷ f ++ f ++ 0 ∷ 0 ∷ []

abbrev polyline : List ℕ → List ℕ
polyline f = 8 ∷ 0 ∷ 0 ∷ 1 ∷ 1 ∷ 0 ∷ f ++ f

-- what a name resolves to in the scene of some records
abbrev resolves : List ℕ → List ℕ → Option Point
resolves name records = let s = scene_of (1 ∷ f1 ++ records ++ 0 ∷ []) in point_of_label name s.places s.items

abbrev a : List ℕ
a = 65 ∷ []

labels :
    -- 7: a place and an item of equal key: the place
    (resolves a (place 0 7 3 f1 ++ item 0 7 3 f2) ≡ at1)
    -- 8: nested in line 90, top-level in line 0: the top-level one, whichever is which
    × (resolves a (place 1 90 0 f2 ++ item 0 0 0 f1) ≡ at1)
    × (resolves a (place 0 0 0 f1 ++ item 2 90 0 f2) ≡ at1)
    -- then the line, then the column, then the order among places or among items
    × (resolves a (place 0 2 9 f1 ++ place 0 1 10 f2) ≡ at1)
    × (resolves a (place 0 2 9 f2 ++ item 0 2 10 f1) ≡ at1)
    × (resolves a (place 0 2 9 f2 ++ place 0 2 9 f1) ≡ at1)
    × (resolves a (place 0 2 9 f2 ++ item 2 0 0 f2 ++ item 0 2 9 f1) ≡ at1)
    -- another name, and a label that is absent
    × (resolves (66 ∷ []) (place 0 0 0 f1) ≡ None)
    × (resolves [] (6 ∷ replicate 11 0 ++ 1 ∷ f1 ++ f1) ≡ None)
    -- the mean of the points; the fill's are none
    × (resolves a (line ++ points 1 f0 f0 ++ points 0 f1 f3) ≡ at2)
    -- without points the first path's start, or its first point
    × (resolves a (line ++ curve 1 f2 ++ no_points ++ curve 0 f1 ++ curve 0 f2) ≡ at1)
    × (resolves a (line ++ polyline f1) ≡ at1)
    -- nothing: what has no reference point is passed over
    × (resolves a (item 0 0 0 f1 ++ line) ≡ at1)
    -- the points of the next item are its own
    × (resolves a (line ++ (6 ∷ replicate 12 0) ++ points 0 f1 f1) ≡ None)
unfolding scene_of float_value_at value_of bit point_at points_at cubic_at cubics_at place_at form_at path_at item_at scene.item_with same_bytes sum_of mean_of mean_point start_of first_start mean_or_start reference_point greater consider label_is best_place best_item point_of_label bytes_at ends_search search_step_of records_of entries record_of by_tag end_of rescale_of option_of feature_of variable_of place_of item_of points_of path_of path_with cubics_of polyline_of item_with item_fits item_begins values_width option_fits option_width named_then counted labelled named ascii_graphic all_to all_zero float_at float_of u16_at u32_at u64_at of_bits of_int add div sum round units odd size climb span
labels = (refl, refl, refl, refl, refl, refl, refl, refl, refl, refl, refl, refl, refl, refl)
