-- What an answer decides of a fold over the list that it was asked for: it ends there, or goes on from where the next
-- is asked for.
use Rattle.std.specs.Prelude.{◌≡◌, ◌⊎◌, Bool, true, false, List, [], ℕ, ◌+◌, get_or, drop, Option}
use Rattle.std.proofs.Math.Path.{refl, ap}
use Rattle.std.proofs.Common.{◌∙◌, inl, inr, add-one, arith, get_or-drop}
use Rattle.stream.specs.Payload.{payload}
use Rattle.records.specs.declared.search.Hit.{Hit}
use Rattle.records.specs.Records.{bytes_at}
use Rattle.scene.specs.Scene.{NamedPlace, place_at, DrawnItem, item_with, item_at}
use Rattle.scene.specs.Labels.{same_bytes, pick, Best, best_place, label_is, best_item}
use Rattle.scene.specs.Inner.Answers.{consider_place, consider_item, places_at, label_by, items_at}
use Rattle.scene.specs.Laws.Shift.{part-drop}
use Rattle.scene.specs.Laws.Found.{One, one_listed, found_again}

-- ---- the best place, and the best item
-- what a branch left, by its test
abbrev pub Chosen : {A : Type 0} → Bool → A → A → A → Type 0
Chosen t a b v = ((t ≡ true) × (v ≡ a)) ⊎ ((t ≡ false) × (v ≡ b))

chosen : {A : Type 0} {t u : Bool} (a b : A) {v : A} → t ≡ u → Chosen t a b v → v ≡ pick u a b
chosen a b e (inl h) = rw (← e, h.0) h.1
chosen a b e (inr h) = rw (← e, h.0) h.1

-- the label of a record at q, by its length
two_on : (q : ℕ) → q + 1 + 1 ≡ q + 2
two_on q = omega arith

four_on : (q : ℕ) → q + 3 + 1 ≡ q + 4
four_on q = omega arith

module _ (l : List ℕ) (q : ℕ) where
  place_label : bytes_at l (q + 1 + 1) (get_or l (q + 1) 0) ≡ (place_at (drop q l)).label
  unfolding place_at
  place_label = rw (two_on q) (simp (get_or-drop, part-drop))

  item_label : label_by l (q + 3 + 1) (get_or l (q + 3) 0) ≡ (item_at (drop q l)).label
  unfolding item_at item_with
  item_label = rw (four_on q) (simp (get_or-drop, part-drop))

module _ (name : List ℕ) (i : ℕ) (b : Option Best) where
  pub no_place : {ps : List NamedPlace} → ps ≡ [] → best_place name i ps b ≡ b
  unfolding best_place
  no_place e = rw e refl

  pub no_item : {its : List DrawnItem} → its ≡ [] → best_item name i its b ≡ b
  unfolding best_item
  no_item e = rw e refl

module _ (name s : List ℕ) (q i : ℕ) (b : Option Best) {h : Hit} where
  pub next_place : One s q 5 0 h → {t : Bool} {b' : Option Best} → t ≡ same_bytes (bytes_at (payload s) (h.at + 1 + 1) (get_or (payload s) (h.at + 1) 0)) name
      → Chosen t (consider_place b i (places_at (payload s) h.at)) b b'
      → best_place name i (places_at (payload s) q) b ≡ best_place name (i + 1) (places_at (payload s) h.next) b'
  unfolding best_place
  next_place o e c = rw (chosen _ _ (e ∙ ap (λ (x : List ℕ). same_bytes x name) (place_label (payload s) h.at)) c, one_listed o place_at refl, found_again o, add-one) refl

  pub next-item : One s q 6 0 h → {t : Bool} {b' : Option Best} → t ≡ label_is (label_by (payload s) (h.at + 3 + 1) (get_or (payload s) (h.at + 3) 0)) name
      → Chosen t (consider_item b i (items_at (payload s) h.at)) b b'
      → best_item name i (items_at (payload s) q) b ≡ best_item name (i + 1) (items_at (payload s) h.next) b'
  unfolding best_item
  next-item o e c = rw (chosen _ _ (e ∙ ap (λ (x : Option (List ℕ)). label_is x name) (item_label (payload s) h.at)) c, one_listed o item_at refl, found_again o, add-one) refl
