-- What holds of every feature, and how features and warnings are read off the slices that a host holds.
use Rattle.std.specs.Prelude.{ℕ, zero, suc, ◌+◌, ◌*◌, ◌≡◌, Bool, false, ◌||◌, List, [], ◌∷◌, ◌++◌, length, get_or, T, eqb, Float}
use Rattle.std.specs.Float.Ieee.{neg, le}
use Rattle.elementary.specs.Constants as K
use Rattle.values.specs.declared.Point.{Point}
use Rattle.values.specs.Warnings.{Warning}
use Rattle.densify.specs.Densify.{c90}
use Rattle.values.specs.Points.{points_of}
use Rattle.geojson.specs.Features.{Feature}
use Rattle.geojson.specs.Rfc7946.{Geometry}
use Rattle.strokes.specs.Strokes.{Event, drew, need, feature, warned}

-- ---- a feature line with its positions
abbrev pub ReadFeature : Type 0
ReadFeature = Feature × List Point

-- longitude from -180 to 180 and latitude from -90 to 90, ends included
pub record OnGlobe (p : Point) : Type 0 where
  pub west : T (le (neg K.c180) p.x)
  pub east : T (le p.x K.c180)
  pub south : T (le (neg c90) p.y)
  pub north : T (le p.y c90)

abbrev pub AllOnGlobe : List Point → Type 0
AllOnGlobe [] = Unit {0}
AllOnGlobe (p ∷ ps) = OnGlobe p × AllOnGlobe ps

-- the positions are what RFC 7946 says of the geometry, the line counts them, and they lie on the globe
pub record WellFormed (l : ReadFeature) : Type 0 where
  pub geometry : Geometry l.0.geometry l.1
  pub counted : l.0.count ≡ length l.1
  pub globe : AllOnGlobe l.1

abbrev pub AllWellFormed : List ReadFeature → Type 0
AllWellFormed [] = Unit {0}
AllWellFormed (l ∷ ls) = WellFormed l × AllWellFormed ls

-- the positions of all of them, one after the other
unfoldable pub positions_in : List ReadFeature → List Point
positions_in [] = []
positions_in (l ∷ ls) = l.1 ++ positions_in ls

-- ---- read off the one list of events
unfoldable pub features_in : List Event → List ReadFeature
features_in [] = []
features_in (drew d ∷ es) = features_in es
features_in (need n ∷ es) = features_in es
features_in (feature f ps ∷ es) = (f, ps) ∷ features_in es
features_in (warned w ∷ es) = features_in es

unfoldable pub warnings_in : List Event → List Warning
warnings_in [] = []
warnings_in (drew d ∷ es) = warnings_in es
warnings_in (need n ∷ es) = warnings_in es
warnings_in (feature f ps ∷ es) = warnings_in es
warnings_in (warned w ∷ es) = w ∷ warnings_in es

-- ---- read off the slices
-- the feature line whose six numbers stand at i
abbrev pub line_at : List ℕ → ℕ → Feature
line_at w i =
    record {
      item = get_or w i 0;
      geometry = get_or w (i + 1) 0;
      role = get_or w (i + 2) 0;
      placement = get_or w (i + 3) 0;
      part = get_or w (i + 4) 0;
      count = get_or w (i + 5) 0;
    }

-- n feature lines, the first at i of their slice; each has as many positions as it counts, directly behind those of the lines before it, the first from p on
unfoldable pub features_at : List ℕ → List Float → ℕ → ℕ → ℕ → List ReadFeature
features_at w q i p zero = []
features_at w q i p (suc n) = let f = line_at w i in (f, points_of q p f.count) ∷ features_at w q (i + 6) (p + 2 * f.count) n

-- n warnings, the first at i
unfoldable pub warnings_at : List ℕ → ℕ → ℕ → List Warning
warnings_at w i zero = []
warnings_at w i (suc n) = record { kind = get_or w i 0; index = get_or w (i + 1) 0 } ∷ warnings_at w (i + 2) n

-- whether a warning of kind k stands among these
unfoldable pub any_of_kind : ℕ → List Warning → Bool
any_of_kind k [] = false
any_of_kind k (w ∷ ws) = eqb w.kind k || any_of_kind k ws
