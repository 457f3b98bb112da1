-- What the marks of a table tell of its names, once all labels were met.
use Rattle.std.specs.Prelude.{◌≡◌, true, List, ℕ, zero, suc, ◌+◌, ◌%◌, ◌≤◌, ◌<◌, length, get_or, slice_get, Option, None, is_some}
use Rattle.std.specs.Option.{option_map}
use Rattle.stream.specs.Payload.{payload}
use Rattle.stream.specs.Inner.Payload.{room}
use Rattle.scene.specs.declared.labels.Best as code-best
use Rattle.values.specs.declared.Point.{Point}
use Rattle.names.specs.declared.batch.Carrier.{Carrier}
use Rattle.names.specs.declared.batch.Carrier.TheVariants.{Place, Item}
use Rattle.scene.specs.Labels.{pick, Best, best_place, label_is, best_item, point_of_label}
use Rattle.scene.specs.Inner.Answers.{best_by, consider_place, consider_item, label_by, places_at, items_at}
use Rattle.names.specs.Inner.Table.{name_of, mark_of, marked, Table}

-- what was found for an entry with the mark m: slot m - 1 holds it
abbrev pub slot_of : List code-best.Best → ℕ → Option code-best.Best
slot_of slots zero = None
slot_of slots (suc m) = slice_get slots m

abbrev pub slot_point : List code-best.Best → ℕ → Option Point
slot_point slots m = option_map (λ b. b.at) (slot_of slots m)

-- What the marks of the first n entries of t tell of their names, where the labels stand from p on: mark 0 is a name
-- that nothing has, mark m from 1 to 64 one whose point is in slot m, mark 65 one that has a point as well, for which
-- there was no slot left.
pub record LabelsMatched (more : ℕ) (l t t' : List ℕ) (n : ℕ) (slots : List code-best.Best) (used p : ℕ) : Type 0 where
  pub names : (i : ℕ) → get_or t' i 0 % 33554432 ≡ get_or t i 0 % 33554432
  pub table : Table more l t' n
  pub most : (i : ℕ) → i < n → mark_of (get_or t' i 0) ≤ 65
  pub none_has : (i : ℕ) → i < n → mark_of (get_or t' i 0) ≡ 0 → point_of_label (name_of more l (get_or t i 0)) (places_at l p) (items_at l p) ≡ None
  pub one_has : (i : ℕ) → i < n → 1 ≤ mark_of (get_or t' i 0) → is_some (point_of_label (name_of more l (get_or t i 0)) (places_at l p) (items_at l p)) ≡ true
  pub spot : (i : ℕ) → i < n → 1 ≤ mark_of (get_or t' i 0) → mark_of (get_or t' i 0) ≤ 64
      → point_of_label (name_of more l (get_or t i 0)) (places_at l p) (items_at l p) ≡ slot_point slots (mark_of (get_or t' i 0))
  -- a mark 65 is one of 65 marks at least
  pub full : (i : ℕ) → i < n → mark_of (get_or t' i 0) ≡ 65 → 65 ≤ marked t' n
  pub unused : used ≡ 0 → (i : ℕ) → i < n → mark_of (get_or t' i 0) ≡ 0

-- ---- on the way: the marks and the slots, of which so many are used
pub record Slots : Type 0 where
  pub t : List ℕ
  pub slots : List code-best.Best
  pub used : ℕ

-- what a walk over the labels of a stream needs: the table of the first n entries of t, and room for 64 slots
pub record Batch (more : ℕ) (s t : List ℕ) (n : ℕ) (slots : List code-best.Best) : Type 0 where
  pub small : room s < 33554432
  pub ending : more ≤ 4
  pub table : Table more (payload s) t n
  pub slots_room : length slots ≡ 64

abbrev pub slots_of : List ℕ → List code-best.Best → ℕ → Slots
slots_of t slots used = record { t = t; slots = slots; used = used }

-- the slots hold bs, what the plain search has found for the names of the first n entries
pub record SlotsHold (n : ℕ) (z : Slots) (bs : ℕ → Option Best) : Type 0 where
  pub few : z.used ≤ 64
  pub most : (i : ℕ) → i < n → mark_of (get_or z.t i 0) ≤ 65
  pub marks : (i : ℕ) → i < n → mark_of (get_or z.t i 0) ≤ 64 → mark_of (get_or z.t i 0) ≤ z.used
  pub over : (i : ℕ) → i < n → 65 ≤ mark_of (get_or z.t i 0) → (z.used ≡ 64) × (65 ≤ marked z.t n)
  pub enough : z.used ≤ marked z.t n
  pub held : (i : ℕ) → i < n → mark_of (get_or z.t i 0) ≤ 64 → bs i ≡ best_by (slot_of z.slots (mark_of (get_or z.t i 0)))
  pub found : (i : ℕ) → i < n → 1 ≤ mark_of (get_or z.t i 0) → is_some (bs i) ≡ true
  pub apart : (i j : ℕ) → i < n → j < n → 1 ≤ mark_of (get_or z.t i 0) → mark_of (get_or z.t i 0) ≤ 64
      → mark_of (get_or z.t i 0) ≡ mark_of (get_or z.t j 0) → i ≡ j

-- no name and no length changed
pub record SameNames (z z' : Slots) : Type 0 where
  pub size : length z'.t ≡ length z.t
  pub slots_size : length z'.slots ≡ length z.slots
  pub names : (i : ℕ) → get_or z'.t i 0 % 33554432 ≡ get_or z.t i 0 % 33554432

-- the best for entry k became b, unless there was no slot for it
pub record BestStored (k : ℕ) (b : Option Best) (z z' : Slots) : Type 0 where
  pub stays : SameNames z z'
  pub tells : (n : ℕ) (bs bs' : ℕ → Option Best) → k < n → SlotsHold n z bs
      → (mark_of (get_or z.t k 0) ≤ 64 → bs' k ≡ b)
      → (1 ≤ mark_of (get_or z.t k 0) → is_some (bs' k) ≡ true)
      → ((i : ℕ) → i < n → (i ≡ k → ⊥) → bs' i ≡ bs i)
      → SlotsHold n z' bs'

-- labels were met: what was found for each name went on by a step
pub record Matched (more : ℕ) (l : List ℕ) (n : ℕ) (z z' : Slots) (step : List ℕ → Option Best → Option Best) : Type 0 where
  pub stays : SameNames z z'
  pub tells : (bs : ℕ → Option Best) → SlotsHold n z bs → SlotsHold n z' (λ i. step (name_of more l (get_or z.t i 0)) (bs i))

-- ---- places and items
abbrev pub tag_by : Carrier → ℕ
tag_by Place = 5
tag_by Item = 6

-- how far behind a record's start the length of its label stands
abbrev pub label_at : Carrier → ℕ
label_at Place = 1
label_at Item = 3

-- the first from q on, as the i-th, became a candidate
abbrev pub considered : Carrier → List ℕ → ℕ → ℕ → Option Best → Option Best
considered Place l q i b = consider_place b i (places_at l q)
considered Item l q i b = consider_item b i (items_at l q)

-- the step of the record at q, the i-th
unfoldable pub step_at : Carrier → List ℕ → ℕ → ℕ → List ℕ → Option Best → Option Best
step_at k l q i name b = pick (label_is (label_by l (q + label_at k + 1) (get_or l (q + label_at k) 0)) name) (considered k l q i b) b

-- the step of all from p on, of which the first is the i-th
unfoldable pub steps_from : Carrier → List ℕ → ℕ → ℕ → List ℕ → Option Best → Option Best
steps_from Place l p i name b = best_place name i (places_at l p) b
steps_from Item l p i name b = best_item name i (items_at l p) b
