-- An event for each name: how many there are, by a survey.
use mathlib.Core.Path.{◌≡◌, refl, ap}
use mathlib.Core.Bool.{Bool, true, false, cond}
use mathlib.Core.List.{List, [], ◌∷◌}
use Prim.Native.Nat.{ℕ, suc, ◌+◌, ◌≤◌}
use native.Mathlib.Omega.{arith}
use lib.ListN.{length, length-append}
use Rattle.scene.specs.Scene.{Scene, NamedFeature, NamedValue, scene_of}
use Rattle.scene.specs.Laws.Answers.{scene_lists}
use Rattle.register.specs.declared.survey.Survey.{Survey}
use Rattle.register.specs.Register.{Event, control, warn, is_lon, cons_if, variable_events, feature_events, events, controls_in, warnings_in}
use Rattle.register.specs.Inner.Survey.{lons_in, Surveyed}
use Rattle.register.specs.Inner.Gathered.{numbers_in}
use Rattle.register.specs.Laws.Kept.{numbers_length}

pub lon_events : (sc : Scene) (i : ℕ) (vs : List NamedValue) → length (variable_events sc i vs) ≡ lons_in vs
unfolding lons_in variable_events
lon_events sc i [] = refl
lon_events sc i (v ∷ vs) = by (is_lon v.name) _ _ (lon_events sc (suc i) vs)
  where
    by : (b : Bool) (x : Event) (xs : List Event) {k : ℕ} → length xs ≡ k → length (cons_if b x xs) ≡ cond b (suc k) k
    by true x xs h = ap suc h
    by false x xs h = h

pub feature-events : (sc : Scene) (i : ℕ) (fs : List NamedFeature) → length (feature_events sc i fs) ≡ length fs
unfolding feature_events
feature-events sc i [] = refl
feature-events sc i (f ∷ fs) = ap suc (feature-events sc (suc i) fs)

all-events : (sc : Scene) → length (events sc) ≡ length sc.features + lons_in sc.variables
unfolding events
all-events sc = omega (arith, length-append (feature_events sc 0 sc.features) (variable_events sc 0 sc.variables), feature-events sc 0 sc.features, lon_events sc 0 sc.variables)

none_left : {A : Type 0} (xs : List A) → length xs ≡ 0 → xs ≡ []
none_left [] h = refl
none_left (x ∷ xs) h = absurd (omega arith)

-- where each event is a control point, none is a warning
controls_fit : (es : List Event) → length (controls_in es) ≤ length es
unfolding controls_in
controls_fit [] = omega arith
controls_fit (control c ∷ es) = omega (arith, controls_fit es)
controls_fit (warn w ∷ es) = omega (arith, controls_fit es)

all_controls : (es : List Event) → length (controls_in es) ≡ length es → warnings_in es ≡ []
unfolding controls_in warnings_in
all_controls [] h = refl
all_controls (control c ∷ es) h = all_controls es (omega arith)
all_controls (warn w ∷ es) h = absurd (omega (arith, controls_fit es))

module _ {l : List ℕ} {v : Survey} (s : Surveyed l v) where
  pub only_features : v.lon_count ≡ 0 → variable_events (scene_of l) 0 (scene_of l).variables ≡ []
  only_features h = none_left _ (omega (arith, s.lon_count, lon_events (scene_of l) 0 (scene_of l).variables, ap lons_in (scene_lists l).1))

  pub none-warned : {kept : List ℕ} → kept ≡ numbers_in 0 (events (scene_of l)) → v.name_count ≡ length kept → warnings_in (events (scene_of l)) ≡ []
  none-warned e h = all_controls (events (scene_of l)) (omega (arith, ap length e, numbers_length 0 (events (scene_of l)), s.name-count, all-events (scene_of l), ap length (scene_lists l).0, ap lons_in (scene_lists l).1))
