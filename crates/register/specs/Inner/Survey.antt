-- What one walk over host features and variables tells: what is declared, how many names of control points there are,
-- and where variables and places stand.
use Rattle.std.specs.Option.{option_or}
use Rattle.std.specs.Prelude.{◌≡◌, true, cond, List, [], ◌∷◌, ℕ, suc, ◌+◌, ◌≤◌, ◌<◌, length, Float, Option}
use Rattle.stream.specs.Payload.{payload}
use Rattle.stream.specs.Inner.Payload.{room}
use Rattle.records.specs.Layout.{laid_out}
use Rattle.scene.specs.Scene.{NamedValue, Scene, scene_of}
use Rattle.values.specs.Options.{given}
use Rattle.scene.specs.Labels.{same_bytes, variable_of}
use Rattle.scene.specs.Inner.Answers.{features_at, variables_at, LabelsFrom, VariablesFrom}
use Rattle.register.specs.declared.declared.Geo.{Geo}
use Rattle.register.specs.declared.declared.Declared.{Declared}
use Rattle.register.specs.declared.survey.Survey.{Survey}
use Rattle.register.specs.Register.{is_mercator, var, px_mode, declared_scale, declared_bearing, anchor_of, half_anchor, geo_frame, geo_px, geo_scale, geo_bearing, geo_lon, geo_lat, is_lon}

-- each of the `geo_` values, with the variable's name
pub record Each (P : List ℕ → Option Float → Type 0) (g : Geo) : Type 0 where
  pub frame : P geo_frame g.frame
  pub px : P geo_px g.px
  pub scale : P geo_scale g.scale
  pub bearing : P geo_bearing g.bearing
  pub lon : P geo_lon g.lon
  pub lat : P geo_lat g.lat

-- they are what these variables say
abbrev pub Agrees : List NamedValue → Geo → Type 0
Agrees vs g = Each (λ name x. x ≡ variable_of name vs) g

-- a value that is looked for by a name, after one more variable: the first one stays
abbrev pub first_value : List ℕ → Float → List ℕ → Option Float → Option Float
first_value called x name old = option_or old (given (same_bytes called name) x)

unfoldable pub recorded_geo : List ℕ → Float → Geo → Geo
recorded_geo called x g =
    record {
      frame = first_value called x geo_frame g.frame;
      px = first_value called x geo_px g.px;
      scale = first_value called x geo_scale g.scale;
      bearing = first_value called x geo_bearing g.bearing;
      lon = first_value called x geo_lon g.lon;
      lat = first_value called x geo_lat g.lat;
    }

-- how many of them are `<L>_lon`
unfoldable pub lons_in : List NamedValue → ℕ
lons_in [] = 0
lons_in (v ∷ vs) = cond (is_lon v.name) (suc (lons_in vs)) (lons_in vs)

-- what options and variables of a scene declare
pub record Declares (sc : Scene) (d : Declared) : Type 0 where
  pub mercator : d.mercator ≡ is_mercator sc.frame (var sc geo_frame)
  pub px : d.px ≡ px_mode sc
  pub scale : d.scale ≡ declared_scale sc
  pub bearing : d.bearing ≡ declared_bearing sc
  pub anchor : d.anchor ≡ anchor_of sc
  pub half : d.half ≡ half_anchor sc
  pub view : d.view ≡ sc.view_scale
  pub rescale : d.rescale ≡ sc.rescale

pub record Surveyed (l : List ℕ) (v : Survey) : Type 0 where
  pub declares : Declares (scene_of l) v.declared
  pub name-count : v.name_count ≡ length (features_at l 0) + lons_in (variables_at l 0)
  pub lon_count : v.lon_count ≡ lons_in (variables_at l 0)
  pub few : v.name_count ≤ length l
  pub variables_start : VariablesFrom l v.variables_at
  pub places_start : LabelsFrom l v.places_at

-- a stream that can be registered: not too long, laid out, and surveyed
pub record Registrable (s : List ℕ) (v : Survey) : Type 0 where
  pub small : room s < 33554432
  pub laid_out_is : laid_out (payload s) ≡ true
  pub surveyed : Surveyed (payload s) v

-- the host features are counted, and what follows them stands from `end` on
pub record Numbered (l : List ℕ) (n end : ℕ) : Type 0 where
  pub count : n ≡ length (features_at l 0)
  pub short : n ≤ end
  pub fits : end ≤ length l
  pub behind : VariablesFrom l end
