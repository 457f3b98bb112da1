-- What the answers to questions stand for, and which lists a question from a position on asks of.
use Rattle.std.specs.Prelude.{◌≡◌, ℕ, ◌+◌, ◌-◌, ◌*◌, ◌≤◌, ◌<◌, true, false, cond, List, [], ◌∷◌, map, length, drop, get_or, eqb, ltb, Option, None, Some, Result, Ok, Err}
use Rattle.stream.specs.Numbers.{u16_at}
use Rattle.records.specs.Records.{values_width, bytes_at}
use Rattle.records.specs.Inner.Hits.{records_at, RecordAt}
use Rattle.records.specs.Inner.Numbers.{kind_of}
use Rattle.scene.specs.declared.fields.Frame.{Frame}
use Rattle.scene.specs.declared.fields.Frame.TheVariants.{Enu, Mercator}
use Rattle.scene.specs.declared.labels.Key as code-key
use Rattle.scene.specs.declared.labels.Best as code-best
use Rattle.scene.specs.declared.readers.Feature.{Feature}
use Rattle.scene.specs.declared.readers.FeatureName.{FeatureName}
use Rattle.scene.specs.declared.readers.RecordName.{RecordName}
use Rattle.scene.specs.declared.readers.Item.{Item}
use Rattle.scene.specs.declared.readers.Path.{Path}
use Rattle.scene.specs.declared.readers.Place.{Place}
use Rattle.scene.specs.declared.readers.Points.{Points}
use Rattle.scene.specs.declared.readers.Variable.{Variable}
use Rattle.scene.specs.Scene.{first, float_value_at, point_at, points_at, cubics_at, NamedFeature, feature_at, NamedValue, variable_at, NamedPlace, place_at, Form, curve, polyline, DrawnPath, path_at, DrawnItem, item_at}
use Rattle.values.specs.declared.Point.{Point}
use Rattle.values.specs.Options.{given}
use Rattle.scene.specs.Labels.{Key, Best, consider, consider_at, place_key, item_key, reference_point}

-- ---- the number of the frame
abbrev pub frame_by : Option Frame → Option ℕ
frame_by None = None
frame_by (Some Enu) = Some 0
frame_by (Some Mercator) = Some 1

-- ---- the features, variables, places and items from position p on
abbrev pub features_at : List ℕ → ℕ → List NamedFeature
features_at l p = map feature_at (records_at l p 3 0)

abbrev pub variables_at : List ℕ → ℕ → List NamedValue
variables_at l p = map variable_at (records_at l p 4 0)

abbrev pub places_at : List ℕ → ℕ → List NamedPlace
places_at l p = map place_at (records_at l p 5 0)

abbrev pub items_at : List ℕ → ℕ → List DrawnItem
items_at l p = map item_at (records_at l p 6 0)

-- the points and paths of a role that follow an item, from position p on
abbrev pub points_from : List ℕ → ℕ → ℕ → Option (List Point)
points_from l p role = first (λ b. points_at b 4 (u16_at b 2)) (records_at l p 7 role)

abbrev pub paths_from : List ℕ → ℕ → ℕ → List DrawnPath
paths_from l p role = map path_at (records_at l p 8 role)

-- ---- these lists by an answer: its own entry, then those from where the next is asked for
abbrev pub features_by : List ℕ → Option Feature → List NamedFeature
features_by l None = []
features_by l (Some r) = record { name = bytes_at l r.at r.len; lon = r.lon; lat = r.lat } ∷ features_at l r.next

-- a feature by its name: its floats are those behind the name
abbrev pub feature_by : List ℕ → Result FeatureName ℕ → Option Feature
feature_by l (Ok r) = Some (record { at = r.at; len = r.len; lon = float_value_at l (r.at + r.len); lat = float_value_at l (r.at + r.len + 8); next = r.next })
feature_by l (Err end) = None

abbrev pub variables_by : List ℕ → Result Variable ℕ → List NamedValue
variables_by l (Ok r) = record { name = bytes_at l r.at r.len; value = r.value } ∷ variables_at l r.next
variables_by l (Err end) = []

-- where the next is asked for: without an answer, where records of greater tags stand from
abbrev pub next_of : {A : Type 0} → (A → ℕ) → Result A ℕ → ℕ
next_of next (Ok r) = next r
next_of next (Err end) = end

abbrev pub places_by : List ℕ → Option Place → List NamedPlace
places_by l None = []
places_by l (Some r) = record { label = bytes_at l r.at r.len; at = record { x = r.x; y = r.y }; nested = r.nested; line = r.line; col = r.col } ∷ places_at l r.next

abbrev pub label_by : List ℕ → ℕ → ℕ → Option (List ℕ)
label_by l at len = given (ltb 0 len) (bytes_at l at len)

-- its points and paths are what follows
unfoldable pub item_by : List ℕ → Item → DrawnItem
item_by l r =
    record {
      kind = kind_of r.kind;
      hidden = r.hidden;
      nested = r.nested;
      closed = r.closed;
      fill = r.fill;
      screen = r.screen;
      label = label_by l r.label r.len;
      line = r.line;
      col = r.col;
      at = r.at;
      w = r.w;
      h = r.h;
      r = r.r;
      rad = r.rad;
      points = points_from l r.next 0;
      fill_points = points_from l r.next 1;
      paths = paths_from l r.next 0;
      fill_paths = paths_from l r.next 1;
    }

abbrev pub items_by : List ℕ → Option Item → List DrawnItem
items_by l None = []
items_by l (Some r) = item_by l r ∷ items_at l r.next

abbrev pub points_by : List ℕ → Option Points → Option (List Point)
points_by l None = None
points_by l (Some r) = Some (points_at l r.at r.count)

abbrev pub form_by : List ℕ → Path → Form
form_by l r = cond r.curve (curve (point_at l r.start) (cubics_at l r.at r.count)) (polyline (points_at l r.at r.count))

abbrev pub paths_by : List ℕ → ℕ → Option Path → List DrawnPath
paths_by l role None = []
paths_by l role (Some r) = record { closed = r.closed; form = form_by l r } ∷ paths_from l r.next role

-- ---- where an answer lies in a payload of n bytes: its name, and the next question behind the one from p on
pub record Within (n p at len next : ℕ) : Type 0 where
  pub name : at + len ≤ n
  pub more : p < next
  pub fits : next ≤ n

-- a name of n bytes stands at `at`, its length before it and eight bytes at least behind it
pub record LengthPrefixed (l : List ℕ) (at n : ℕ) : Type 0 where
  pub behind : 1 ≤ at
  pub prefix : get_or l (at - 1) 0 ≡ n
  pub short : n ≤ 31
  pub fits : at + n + 8 ≤ length l

-- how many bytes stand behind the name of a host feature, a variable or a place, by the tag
abbrev pub behind_name : ℕ → ℕ
behind_name t = cond (eqb t 3) 16 (cond (eqb t 4) 8 25)

-- the first record of tag t from p on stands at `from`: it begins with a name, and ends so many bytes behind it
pub record NameAt (l : List ℕ) (n p t behind : ℕ) (r : RecordName) : Type 0 where
  pub from : ℕ
  pub at : r.at ≡ from + 2
  pub all : records_at l p t 0 ≡ drop from l ∷ records_at l r.next t 0
  pub lies : Within n p r.at (r.len + behind) r.next
  pub name : LengthPrefixed l r.at r.len

pub record PathWithin (n p : ℕ) (r : Path) : Type 0 where
  pub start : r.curve ≡ true → r.start + 16 ≤ n
  pub cubics : r.curve ≡ true → r.at + 48 * r.count ≤ n
  -- a path of points starts at the first of them
  pub first : r.curve ≡ false → r.start ≡ r.at
  pub points : r.curve ≡ false → r.at + 16 * r.count ≤ n
  pub more : p < r.next
  pub fits : r.next ≤ n

-- an item stands at q, with its label's length n and its presence byte m, and the next record behind it
pub record ItemRecordAt (l : List ℕ) (q n m next : ℕ) : Type 0 where
  pub stands : RecordAt l 6 0 q next
  pub label : n ≡ get_or (drop q l) 3 0
  pub has : m ≡ get_or (drop q l) (12 + n) 0
  pub bits : m < 32
  pub ends : next ≡ q + 13 + n + values_width m
  pub fits : next ≤ length l

-- all places and items stand from position p on
pub record LabelsFrom (l : List ℕ) (p : ℕ) : Type 0 where
  pub places : places_at l 0 ≡ places_at l p
  pub items : items_at l 0 ≡ items_at l p

-- all variables do, and these
pub record VariablesFrom (l : List ℕ) (p : ℕ) : Type 0 where
  pub all : variables_at l 0 ≡ variables_at l p
  pub labels : LabelsFrom l p

-- ---- keys
abbrev pub key_by : code-key.Key → Key
key_by k = record { top = k.top; line = k.line; col = k.col; order = k.order }

abbrev pub best_by : Option code-best.Best → Option Best
best_by None = None
best_by (Some b) = Some (record { key = key_by b.key; at = b.at })

-- the first of some places as the i-th, and of some items
abbrev pub consider_place : Option Best → ℕ → List NamedPlace → Option Best
consider_place b i [] = b
consider_place b i (p ∷ ps) = consider b (place_key p i) p.at

abbrev pub consider_item : Option Best → ℕ → List DrawnItem → Option Best
consider_item b i [] = b
consider_item b i (it ∷ its) = consider_at b (item_key it i) (reference_point it)
