-- The walk that surveys the variables: what is known at a position, and one turn.
use Rattle.std.specs.Option.{option_or}
use Rattle.std.specs.Prelude.{Option, None, Some}
use mathlib.Core.Path.{◌≡◌, refl, sym, ap, ◌∙◌}
use mathlib.Core.Bool.{Bool, true, false}
use mathlib.Core.List.{List, [], ◌∷◌, map}
use Prim.Native.Nat.{ℕ, suc, ◌+◌, ◌≤◌, ◌<◌}
use native.Mathlib.Omega.{arith}
use lib.ListN.{length}
use lib.Ieee.{Float}
use Rattle.records.specs.Inner.Hits.{SkipsTo}
use Rattle.scene.specs.Scene.{NamedFeature, NamedValue, scene_of, place_at, item_at}
use Rattle.values.specs.Options.{given}
use Rattle.scene.specs.Labels.{same_bytes, pick, variable_of}
use Rattle.scene.specs.Inner.Answers.{features_at, variables_at, LabelsFrom, VariablesFrom}
use Rattle.register.specs.declared.declared.Declared.{Declared}
use Rattle.register.specs.declared.declared.Geo.{Geo}
use Rattle.register.specs.Register.{is_lon}
use Rattle.register.specs.Inner.Survey.{Each, Agrees, first_value, recorded_geo, lons_in, Declares, Surveyed}

-- ---- a value looked for among all of them: it is found, or stands in the rest
abbrev Ahead : List NamedValue → List NamedValue → List ℕ → Option Float → Type 0
Ahead all rest name x = variable_of name all ≡ option_or x (variable_of name rest)

kept_ahead : (all rest : List NamedValue) (called : List ℕ) (x : Float) (name : List ℕ) (old : Option Float)
    → Ahead all (record { name = called; value = x } ∷ rest) name old → Ahead all rest name (first_value called x name old)
unfolding variable_of
kept_ahead all rest called x name old h = h ∙ by old (same_bytes called name) (variable_of name rest)
  where
    by : (o : Option Float) (b : Bool) (r : Option Float) → option_or o (pick b (Some x) r) ≡ option_or (option_or o (given b x)) r
    by (Some v) b r = refl
    by None true r = refl
    by None false r = refl

or_none : {A : Type 0} (m : Option A) → option_or m None ≡ m
or_none None = refl
or_none (Some x) = refl

module _ (all rest : List NamedValue) {g : Geo} where
  each-kept : (called : List ℕ) (x : Float) → Each (Ahead all (record { name = called; value = x } ∷ rest)) g → Each (Ahead all rest) (recorded_geo called x g)
  unfolding recorded_geo
  each-kept called x e =
      record {
        frame = kept_ahead all rest called x _ g.frame e.frame;
        px = kept_ahead all rest called x _ g.px e.px;
        scale = kept_ahead all rest called x _ g.scale e.scale;
        bearing = kept_ahead all rest called x _ g.bearing e.bearing;
        lon = kept_ahead all rest called x _ g.lon e.lon;
        lat = kept_ahead all rest called x _ g.lat e.lat;
      }

module _ (all : List NamedValue) where
  last : (name : List ℕ) (x : Option Float) → Ahead all [] name x → x ≡ variable_of name all
  unfolding variable_of
  last name x h = sym (h ∙ or_none x)

  each_last : {g : Geo} → Each (Ahead all []) g → Agrees all g
  each_last {g} e =
      record {
        frame = last _ g.frame e.frame;
        px = last _ g.px e.px;
        scale = last _ g.scale e.scale;
        bearing = last _ g.bearing e.bearing;
        lon = last _ g.lon e.lon;
        lat = last _ g.lat e.lat;
      }

-- ---- the walk over the features
pub record Numbering (l : List ℕ) (n q : ℕ) : Type 0 where
  pub count : n + length (features_at l q) ≡ length (features_at l 0)
  pub short : n ≤ q
  pub fits : q ≤ length l
  pub behind : SkipsTo l 3 0 q

module _ {l : List ℕ} {n q : ℕ} (d : Numbering l n q) where
  pub one_numbered : {f : NamedFeature} {next : ℕ} → features_at l q ≡ f ∷ features_at l next → SkipsTo l 3 q next → q < next → next ≤ length l → Numbering l (n + 1) next
  one_numbered h a more fits =
      record { count = omega (arith, d, ap length h); short = omega (arith, d); fits = fits; behind = λ t k i j. d.behind t k i j ∙ a t k i j }

-- ---- the walk over the variables: so much is known at q
pub record Surveying (l : List ℕ) (geo : Geo) (n m q : ℕ) : Type 0 where
  pub agrees : Each (Ahead (variables_at l 0) (variables_at l q)) geo
  pub names : n + lons_in (variables_at l q) ≡ length (features_at l 0) + lons_in (variables_at l 0)
  pub lons : m + lons_in (variables_at l q) ≡ lons_in (variables_at l 0)
  pub fewer : m ≤ n
  pub short : n ≤ q
  pub fits : q ≤ length l
  pub labels : LabelsFrom l q

pub all-agree : {l : List ℕ} {geo : Geo} {n m q : ℕ} → Surveying l geo n m q → variables_at l q ≡ [] → Agrees (variables_at l 0) geo
all-agree {l} d e = each_last (variables_at l 0) (rw e at d.agrees)

module _ {l : List ℕ} {geo : Geo} {n m q : ℕ} (d : Surveying l geo n m q) {next : ℕ} (a : SkipsTo l 4 q next) where
  labels_on : LabelsFrom l next
  labels_on = record { places = d.labels.places ∙ ap (map place_at) (a 5 0 (omega arith) (omega arith)); items = d.labels.items ∙ ap (map item_at) (a 6 0 (omega arith) (omega arith)) }

  pub surveyed : variables_at l q ≡ [] → {x : Declared} {vars : ℕ} → Declares (scene_of l) x → VariablesFrom l vars → Surveyed l (record { declared = x; name_count = n; lon_count = m; variables_at = vars; places_at = next })
  unfolding lons_in
  surveyed e x vs =
      let z : lons_in (variables_at l q) ≡ 0 = rw e refl in
      record {
        declares = x;
        name-count = omega (arith, d.names);
        lon_count = omega (arith, d.lons);
        few = omega (arith, d.short, d.fits);
        variables_start = vs;
        places_start = labels_on;
      }

  module _ {v : NamedValue} (here : variables_at l q ≡ v ∷ variables_at l next) {geo' : Geo} (g : geo' ≡ recorded_geo v.name v.value geo) {t : Bool} (b : t ≡ is_lon v.name) (more : q < next) (end : next ≤ length l) where
    agrees_on : Each (Ahead (variables_at l 0) (variables_at l next)) geo'
    agrees_on = rw g (each-kept (variables_at l 0) (variables_at l next) v.name v.value (rw here at d.agrees))

    pub lon_surveyed : t ≡ true → Surveying l geo' (n + 1) (m + 1) next
    unfolding lons_in
    lon_surveyed h =
        let z : lons_in (variables_at l q) ≡ suc (lons_in (variables_at l next)) = rw (here, ← b, h) refl in
        record { agrees = agrees_on; names = omega (arith, d.names); lons = omega (arith, d.lons); fewer = omega (arith, d.fewer); short = omega (arith, d.short); fits = end; labels = labels_on }

    pub other_surveyed : t ≡ false → Surveying l geo' n m next
    unfolding lons_in
    other_surveyed h =
        let z : lons_in (variables_at l q) ≡ lons_in (variables_at l next) = rw (here, ← b, h) refl in
        record { agrees = agrees_on; names = omega (arith, d.names); lons = omega (arith, d.lons); fewer = d.fewer; short = omega (arith, d.short); fits = end; labels = labels_on }
