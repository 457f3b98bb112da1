-- What a mark says of a list or a value beside it, and that a scene's lists are those from position 0 on.
use Rattle.std.specs.Prelude.{◌≡◌, refl, Bool, true, false, cond, List, [], ℕ, Option, Some, None}
use Rattle.scene.specs.Scene.{scene_of}
use Rattle.values.specs.declared.Point.{Point}
use Rattle.values.specs.Options.{given}
use Rattle.scene.specs.Labels.{point_of_label}
use Rattle.scene.specs.Inner.Answers.{LabelsFrom, features_at, variables_at, places_at, items_at}

-- a list that stands where its mark b is set
module _ {A : Type 0} {xs : List A} (b : Bool) (ys : List A) (e : xs ≡ cond b ys []) where
  pub listed : b ≡ true → xs ≡ ys
  listed h = rw h at e

  pub unlisted : b ≡ false → xs ≡ []
  unlisted h = rw h at e

-- what may be absent, by its mark b
module _ {A : Type 0} {m : Option A} (b : Bool) (x : A) (e : m ≡ given b x) where
  pub is-given : b ≡ true → m ≡ Some x
  is-given h = rw h at e

  pub not-given : b ≡ false → m ≡ None
  not-given h = rw h at e

pub scene_lists : (l : List ℕ)
    → ((scene_of l).features ≡ features_at l 0) × ((scene_of l).variables ≡ variables_at l 0) × ((scene_of l).places ≡ places_at l 0) × ((scene_of l).items ≡ items_at l 0)
unfolding scene_of
scene_lists l = (refl, refl, refl, refl)

-- a label that is asked for from where all labels stand
pub all_labels : (l : List ℕ) (p : ℕ) (name : List ℕ) {m : Option Point} → LabelsFrom l p → m ≡ point_of_label name (places_at l p) (items_at l p) → m ≡ point_of_label name (places_at l 0) (items_at l 0)
all_labels l p name h e = rw (h.places, h.items) e
