-- What the C structs of the answers stand for.
use Rattle.std.specs.Prelude.{ℕ, cond, List, [], ◌∷◌, Option, Float}
use Rattle.values.specs.declared.Point.{Point}
use Rattle.values.specs.Options.{given}
use Rattle.records.specs.Records.{bytes_at}
use Rattle.scene.specs.Scene.{points_at, NamedFeature, NamedValue, NamedPlace, DrawnPath, DrawnItem}
use Rattle.scene.specs.Inner.Answers.{features_at, variables_at, places_at, items_at, points_from, paths_from, label_by, form_by}
use Rattle.scene.specs.declared.readers.Path as code-path
use Rattle.test_host.specs.declared.answers.FrameOption.{FrameOption}
use Rattle.test_host.specs.declared.answers.OptionalPoint.{OptionalPoint}
use Rattle.test_host.specs.declared.answers.OptionalFloat.{OptionalFloat}
use Rattle.test_host.specs.declared.answers.Feature.{Feature}
use Rattle.test_host.specs.declared.answers.Item.{Item}
use Rattle.test_host.specs.declared.answers.Path.{Path}
use Rattle.test_host.specs.declared.answers.Place.{Place}
use Rattle.test_host.specs.declared.answers.Points.{Points}
use Rattle.test_host.specs.declared.answers.Variable.{Variable}

abbrev pub float_in : OptionalFloat → Option Float
float_in v = given v.some v.value

abbrev pub point_in : OptionalPoint → Option Point
point_in p = given p.some (record { x = p.x; y = p.y })

abbrev pub frame_in : FrameOption → Option ℕ
frame_in f = given f.some f.frame

-- ---- lists by an answer: its own entry, then those from where the next is asked for
abbrev pub features_in : List ℕ → Feature → List NamedFeature
features_in l r = cond r.some (record { name = bytes_at l r.at r.len; lon = r.lon; lat = r.lat } ∷ features_at l r.next) []

abbrev pub variables_in : List ℕ → Variable → List NamedValue
variables_in l r = cond r.some (record { name = bytes_at l r.at r.len; value = r.value } ∷ variables_at l r.next) []

abbrev pub places_in : List ℕ → Place → List NamedPlace
places_in l r =
    cond r.some
    (record { label = bytes_at l r.at r.len; at = record { x = r.x; y = r.y }; nested = r.nested; line = r.line; col = r.col } ∷ places_at l r.next)
    []

-- its points and paths are what follows
abbrev pub item_in : List ℕ → Item → DrawnItem
item_in l r =
    record {
      kind = r.kind;
      hidden = r.hidden;
      nested = r.nested;
      closed = r.closed;
      fill = r.fill;
      screen = r.screen;
      label = label_by l r.label r.len;
      line = r.line;
      col = r.col;
      at = point_in r.at;
      w = float_in r.w;
      h = float_in r.h;
      r = float_in r.r;
      rad = float_in r.rad;
      points = points_from l r.next 0;
      fill_points = points_from l r.next 1;
      paths = paths_from l r.next 0;
      fill_paths = paths_from l r.next 1;
    }

abbrev pub items_in : List ℕ → Item → List DrawnItem
items_in l r = cond r.some (item_in l r ∷ items_at l r.next) []

abbrev pub points_in : List ℕ → Points → Option (List Point)
points_in l r = given r.some (points_at l r.at r.count)

-- the path without its flag
abbrev pub path_of : Path → code-path.Path
path_of r = record { closed = r.closed; curve = r.curve; start = r.start; at = r.at; count = r.count; next = r.next }

abbrev pub paths_in : List ℕ → ℕ → Path → List DrawnPath
paths_in l role r = cond r.some (record { closed = r.closed; form = form_by l (path_of r) } ∷ paths_from l r.next role) []
