-- A feature line of the code by its numbers, and such a line in a lent slice, where it has room.
use Rattle.std.specs.Prelude.{ℕ, ◌+◌, ◌≡◌, true, false, List, length, leb}
use Rattle.geojson.specs.declared.Geometry.{Geometry}
use Rattle.geojson.specs.declared.Geometry.TheVariants.{Point, Line, Polygon}
use Rattle.geojson.specs.declared.Role.{Role}
use Rattle.geojson.specs.declared.Role.TheVariants.{Drawn, Fill}
use Rattle.geojson.specs.declared.Placement.{Placement}
use Rattle.geojson.specs.declared.Placement.TheVariants.{Map, Screen}
use Rattle.geojson.specs.declared.Feature as code
use Rattle.geojson.specs.Features.{Feature, words_of}
use Rattle.values.specs.Slices.{put}

abbrev pub geometry_of : Geometry → ℕ
geometry_of Point = 0
geometry_of Line = 1
geometry_of Polygon = 2

abbrev pub role_of : Role → ℕ
role_of Drawn = 0
role_of Fill = 1

abbrev pub placement_of : Placement → ℕ
placement_of Map = 0
placement_of Screen = 1

abbrev pub feature_by : code.Feature → Feature
feature_by f =
    record {
      item = f.item;
      geometry = f.geometry;
      role = f.role;
      placement = f.placement;
      part = f.part;
      count = f.count;
    }

-- written where it has room, and nothing changed where it has none
pub record FeatureWritten (w w' : List ℕ) (at : ℕ) (f : Feature) : Type 0 where
  pub fits : leb (at + 6) (length w) ≡ true → w' ≡ put w at (words_of f)
  pub short : leb (at + 6) (length w) ≡ false → w' ≡ w
