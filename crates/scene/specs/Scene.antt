-- The scene that a payload holds, with the fields of the source's scene.rs: each read off its record's bytes, from the
-- tag on.
use Rattle.std.specs.Prelude.{ℕ, zero, suc, ◌+◌, ◌/◌, ◌%◌, Bool, false, List, [], ◌∷◌, map, get_or, eqb, ltb, Float, Option, None, Some}
use Rattle.std.specs.Float.{binary64}
use Rattle.std.specs.Float.Ieee.{of_bits}
use Rattle.values.specs.declared.Point.{Point}
use Rattle.values.specs.Options.{given}
use Rattle.stream.specs.Numbers.{u16_at, u32_at, float_at}
use Rattle.records.specs.Records.{values_width, bytes_at}
use Rattle.records.specs.Walk.{Entry, entries}
use Rattle.records.specs.Search.{records_of}
use Rattle.records.specs.Values.{flatten_in, step_in}

-- what the first of some records holds, if there is one: an option stands at most once, and so does an item's role of
-- points
abbrev pub first : {A : Type 0} → (List ℕ → A) → List (List ℕ) → Option A
first f [] = None
first f (l ∷ ls) = Some (f l)

-- ---- numbers
-- a float's value. Condition 4 refuses what is not finite; the 0 that stands for it here is never asked for.
unfoldable pub value_of : Option Float → Float
value_of (Some v) = v
value_of None = of_bits binary64 0

unfoldable pub float_value_at : List ℕ → ℕ → Float
float_value_at l p = value_of (float_at l p)

-- whether the bit of weight k is set
unfoldable pub bit : ℕ → ℕ → Bool
bit x zero = false
bit x (suc k) = eqb (x / suc k % 2) 1

-- ---- points
unfoldable pub point_at : List ℕ → ℕ → Point
point_at l p = record { x = float_value_at l p; y = float_value_at l (p + 8) }

-- n of them from p on
unfoldable pub points_at : List ℕ → ℕ → ℕ → List Point
points_at l p zero = []
points_at l p (suc n) = point_at l p ∷ points_at l (p + 16) n

-- a cubic from where the last one ended: two control points and its end
pub record Cubic : Type 0 where
  pub c1 : Point
  pub c2 : Point
  pub end : Point

unfoldable pub cubic_at : List ℕ → ℕ → Cubic
cubic_at l p = record { c1 = point_at l p; c2 = point_at l (p + 16); end = point_at l (p + 32) }

unfoldable pub cubics_at : List ℕ → ℕ → ℕ → List Cubic
cubics_at l p zero = []
cubics_at l p (suc n) = cubic_at l p ∷ cubics_at l (p + 48) n

-- ---- tag 3: a host feature
pub record NamedFeature : Type 0 where
  pub name : List ℕ
  pub lon : Float
  pub lat : Float

unfoldable pub feature_at : List ℕ → NamedFeature
feature_at l = let n = get_or l 1 0 in record { name = bytes_at l 2 n; lon = float_value_at l (2 + n); lat = float_value_at l (10 + n) }

-- ---- tag 4: a variable
pub record NamedValue : Type 0 where
  pub name : List ℕ
  pub value : Float

unfoldable pub variable_at : List ℕ → NamedValue
variable_at l = let n = get_or l 1 0 in record { name = bytes_at l 2 n; value = float_value_at l (2 + n) }

-- ---- tag 5: a place. Line and column are 0 where it has no span.
pub record NamedPlace : Type 0 where
  pub label : List ℕ
  pub at : Point
  pub nested : Bool
  pub line : ℕ
  pub col : ℕ

unfoldable pub place_at : List ℕ → NamedPlace
place_at l =
    let n = get_or l 1 0 in
    record { label = bytes_at l 2 n; at = point_at l (2 + n); nested = eqb (get_or l (18 + n) 0) 1; line = u32_at l (19 + n); col = u32_at l (23 + n) }

-- ---- tags 6 to 8: an item with the points and paths that follow it
-- a path: cubics from a start, or points
pub data Form : Type 0 where
  curve : Point → List Cubic → Form
  polyline : List Point → Form

pub record DrawnPath : Type 0 where
  pub closed : Bool
  pub form : Form

unfoldable pub form_at : List ℕ → ℕ → Form
form_at l zero = curve (point_at l 4) (cubics_at l 22 (u16_at l 20))
form_at l (suc f) = polyline (points_at l 6 (u16_at l 4))

unfoldable pub path_at : List ℕ → DrawnPath
path_at l = record { closed = eqb (get_or l 2 0) 1; form = form_at l (get_or l 3 0) }

pub record DrawnItem : Type 0 where
  pub kind : ℕ
  pub hidden : Bool
  pub nested : Bool
  pub closed : Bool
  pub fill : Bool
  pub screen : Bool
  pub label : Option (List ℕ)
  pub line : ℕ
  pub col : ℕ
  pub at : Option Point
  pub w : Option Float
  pub h : Option Float
  pub r : Option Float
  pub rad : Option Float
  pub points : Option (List Point)
  pub fill_points : Option (List Point)
  -- [] where the source has none at all
  pub paths : List DrawnPath
  pub fill_paths : List DrawnPath

-- the records tail the first
abbrev pub tail : List Entry → List Entry
tail [] = []
tail (e ∷ es) = es

-- n is the label's length, m the presence byte, es what stands tail the item: a value stands tail those of lower bits
unfoldable pub item_with : List ℕ → ℕ → ℕ → List Entry → DrawnItem
item_with l n m es =
    record {
      kind = get_or l 1 0;
      hidden = bit (get_or l 2 0) 1;
      nested = bit (get_or l 2 0) 2;
      closed = bit (get_or l 2 0) 4;
      fill = bit (get_or l 2 0) 8;
      screen = bit (get_or l 2 0) 16;
      label = given (ltb 0 n) (bytes_at l 4 n);
      line = u32_at l (4 + n);
      col = u32_at l (8 + n);
      at = given (bit m 1) (point_at l (13 + n));
      w = given (bit m 2) (float_value_at l (13 + n + values_width (m % 2)));
      h = given (bit m 4) (float_value_at l (13 + n + values_width (m % 4)));
      r = given (bit m 8) (float_value_at l (13 + n + values_width (m % 8)));
      rad = given (bit m 16) (float_value_at l (13 + n + values_width (m % 16)));
      points = first (λ b. points_at b 4 (u16_at b 2)) (records_of 7 0 es);
      fill_points = first (λ b. points_at b 4 (u16_at b 2)) (records_of 7 1 es);
      paths = map path_at (records_of 8 0 es);
      fill_paths = map path_at (records_of 8 1 es);
    }

unfoldable pub item_at : List ℕ → DrawnItem
item_at l = item_with l (get_or l 3 0) (get_or l (12 + get_or l 3 0) 0) (tail (entries l 0))

-- ---- the whole
pub record Scene : Type 0 where
  pub rescale : Float
  -- options: 0 enu, 1 Mercator; longitude and latitude as x and y
  pub frame : Option ℕ
  pub anchor : Option Point
  pub scale : Option Float
  pub bearing : Option Float
  pub flatten : Float
  pub view_scale : Option Float
  pub step : Float
  pub features : List NamedFeature
  pub variables : List NamedValue
  pub places : List NamedPlace
  pub items : List DrawnItem

-- the scene of a payload
unfoldable pub scene_of : List ℕ → Scene
scene_of l =
    let es = entries l 0 in
    record {
      rescale = float_value_at l 1;
      frame = first (λ b. get_or b 2 0) (records_of 2 1 es);
      anchor = first (λ b. point_at b 2) (records_of 2 2 es);
      scale = first (λ b. float_value_at b 2) (records_of 2 3 es);
      bearing = first (λ b. float_value_at b 2) (records_of 2 4 es);
      flatten = value_of (flatten_in l);
      view_scale = first (λ b. float_value_at b 2) (records_of 2 6 es);
      step = value_of (step_in l);
      features = map feature_at (records_of 3 0 es);
      variables = map variable_at (records_of 4 0 es);
      places = map place_at (records_of 5 0 es);
      items = map item_at (records_of 6 0 es);
    }
