-- All labels, one after another, for all names of a table.
use Rattle.std.specs.Prelude.{Option, None, Some, is_some}
use mathlib.Core.Path.{◌≡◌, refl, sym, ap, ◌∙◌}
use mathlib.Core.Logic.{inl, inr}
use mathlib.Core.Bool.{Bool, true, false}
use mathlib.Core.List.{List, [], map}
use Prim.Native.Nat.{ℕ, ◌+◌, ◌≤◌}
use native.Mathlib.Decide.{dec_lt}
use native.Mathlib.Omega.{arith}
use Rattle.std.specs.Option.{option_map}
use lib.ListN.{get_or, drop}
use lib.Seq.{get_or-drop}
use borrow.Author.Tests.{lt-ltb}
use Rattle.stream.specs.Payload.{payload}
use Rattle.records.specs.declared.search.Hit.{Hit}
use Rattle.records.specs.Records.{bytes_at}
use Rattle.records.specs.Inner.Hits.{records_at}
use Rattle.records.specs.Laws.Search.{NameFound, ItemFound, standing_tells}
use Rattle.scene.specs.Scene.{place_at, item_at}
use Rattle.scene.specs.Labels.{pick, same_bytes, label_is, Best, best_place, best_item, point_of, point_of_label}
use Rattle.scene.specs.declared.labels.Best as code-best
use Rattle.scene.specs.Inner.Answers.{best_by, label_by, places_at, items_at}
use Rattle.scene.specs.Laws.Found.{One}
use Rattle.scene.specs.Laws.Folds.{Chosen, no_place, next_place, no_item, next-item}
use Rattle.names.specs.declared.batch.Carrier.{Carrier}
use Rattle.names.specs.declared.batch.Carrier.TheVariants.{Place, Item}
use Rattle.names.specs.Inner.Table.{name_at, name_of, mark_of, NameQuery, Table, Unmarked}
use Rattle.names.specs.Inner.Batch.{slot_of, Slots, Batch, slots_of, SlotsHold, SameNames, tag_by, label_at, Matched, step_at, steps_from, LabelsMatched}
use Rattle.names.proofs.Meeting.{kept_same, met_none}

-- ---- one step after another
table_same : {more : ℕ} {l : List ℕ} {n : ℕ} {z z' : Slots} → Table more l z.t n → SameNames z z' → Table more l z'.t n
table_same tab s =
    record {
      fits = omega (arith, s.size, tab.fits);
      stands = λ i h. rw (s.names i) (tab.stands i h);
      rises = λ i j h k. rw (s.names i, s.names j) (tab.rises i j h k);
    }

pub batch_same : {more : ℕ} {s : List ℕ} {n : ℕ} {z z' : Slots} → Batch more s z.t n z.slots → SameNames z z' → Batch more s z'.t n z'.slots
batch_same b w =
    record {
      small = b.small;
      ending = b.ending;
      table = table_same b.table w;
      slots_room = w.slots_size ∙ b.slots_room;
    }

stays_then : {z z' z'' : Slots} → SameNames z z' → SameNames z' z'' → SameNames z z''
stays_then a b = record { size = b.size ∙ a.size; slots_size = b.slots_size ∙ a.slots_size; names = λ i. b.names i ∙ a.names i }

module _ {more : ℕ} {l : List ℕ} {n : ℕ} {z z' : Slots} {f : List ℕ → Option Best → Option Best} (m : Matched more l n z z' f) where
  pub met_as : {g : List ℕ → Option Best → Option Best} → ((name : List ℕ) (b : Option Best) → g name b ≡ f name b) → Matched more l n z z' g
  met_as e = record { stays = m.stays; tells = λ bs q. kept_same (m.tells bs q) (λ i h. e _ (bs i)) }

  pub met_then : {z'' : Slots} {g : List ℕ → Option Best → Option Best} → Matched more l n z' z'' g → Matched more l n z z'' (λ name b. g name (f name b))
  met_then {z''} {g} k =
      record {
        stays = stays_then m.stays k.stays;
        tells = λ bs q. kept_same (k.tells _ (m.tells bs q)) (λ i h. ap (λ (y : ℕ). g (name_at more l y) (f (name_of more l (get_or z.t i 0)) (bs i))) (sym (m.stays.names i)));
      }

-- ---- so far: whatever the rest makes of what is done, is the whole
pub record Walk (more : ℕ) (l : List ℕ) (n : ℕ) (z z' : Slots) (all rest : List ℕ → Option Best → Option Best) : Type 0 where
  pub done : List ℕ → Option Best → Option Best
  pub met : Matched more l n z z' done
  pub leads : (name : List ℕ) (b : Option Best) → all name b ≡ rest name (done name b)

module _ {more : ℕ} {l : List ℕ} {n : ℕ} where
  pub walk_start : (z : Slots) {all : List ℕ → Option Best → Option Best} → Walk more l n z z all all
  walk_start z = record { done = λ name b. b; met = met_none z (λ i h b. refl); leads = λ name b. refl }

  module _ {z z' : Slots} {all rest : List ℕ → Option Best → Option Best} (w : Walk more l n z z' all rest) where
    pub walk_end : ((name : List ℕ) (b : Option Best) → rest name b ≡ b) → Matched more l n z z' all
    walk_end e = met_as w.met (λ name b. w.leads name b ∙ e name (w.done name b))

    pub walk_on : {z'' : Slots} {step rest' : List ℕ → Option Best → Option Best} → Matched more l n z' z'' step
        → ((name : List ℕ) (b : Option Best) → rest name b ≡ rest' name (step name b)) → Walk more l n z z'' all rest'
    walk_on {step = step} m e =
        record {
          done = λ name b. step name (w.done name b);
          met = met_then w.met m;
          leads = λ name b. w.leads name b ∙ e name (w.done name b);
        }

-- ---- places and items, the first from q on being the i-th
chosen_pick : {A : Type 0} (t : Bool) (a b : A) → Chosen t a b (pick t a b)
chosen_pick true a b = inl (refl, refl)
chosen_pick false a b = inr (refl, refl)

-- a record's label can be looked for
pub label_query : (k : Carrier) {s : List ℕ} {q more : ℕ} {h : Hit} → One s q (tag_by k) 0 h → more ≤ 4 → NameQuery s (h.at + label_at k) (get_or (payload s) (h.at + label_at k) 0) more
label_query Place {s} {h = h} o m =
    let f : NameFound (drop h.at (payload s)) h.at h.next 27 = standing_tells o.stands in
    let e : get_or (drop h.at (payload s)) 1 0 ≡ get_or (payload s) (h.at + 1) 0 = get_or-drop h.at (payload s) 1 0 in
    record { fits = omega (arith, f.ends, e, o.fits); short = omega (arith, f.short, e) }
label_query Item {s} {h = h} o m =
    let f : ItemFound (drop h.at (payload s)) h.at h.next = standing_tells o.stands in
    let e : get_or (drop h.at (payload s)) 3 0 ≡ get_or (payload s) (h.at + 3) 0 = get_or-drop h.at (payload s) 3 0 in
    record { fits = omega (arith, f.ends, e, o.fits); short = omega (arith, f.short, e) }

pub none_left : (k : Carrier) (l : List ℕ) (q i : ℕ) → records_at l q (tag_by k) 0 ≡ [] → (name : List ℕ) (b : Option Best) → steps_from k l q i name b ≡ b
unfolding steps_from
none_left Place l q i e name b = no_place name i b (ap (map place_at) e)
none_left Item l q i e name b = no_item name i b (ap (map item_at) e)

module _ (s : List ℕ) (q i : ℕ) {h : Hit} where
  -- a place has a name
  place_label_is : One s q 5 0 h → (name : List ℕ) → label_is (label_by (payload s) (h.at + 1 + 1) (get_or (payload s) (h.at + 1) 0)) name ≡ same_bytes (bytes_at (payload s) (h.at + 1 + 1) (get_or (payload s) (h.at + 1) 0)) name
  unfolding label_is
  place_label_is o name =
      let f : NameFound (drop h.at (payload s)) h.at h.next 27 = standing_tells o.stands in
      let e : get_or (drop h.at (payload s)) 1 0 ≡ get_or (payload s) (h.at + 1) 0 = get_or-drop h.at (payload s) 1 0 in
      rw (lt-ltb 0 (get_or (payload s) (h.at + 1) 0) (omega (arith, f.some, e))) refl

  pub one_further : (k : Carrier) → One s q (tag_by k) 0 h → (name : List ℕ) (b : Option Best)
      → steps_from k (payload s) q i name b ≡ steps_from k (payload s) h.next (i + 1) name (step_at k (payload s) h.at i name b)
  unfolding steps_from step_at
  one_further Place o name b = next_place name s q i b o (place_label_is o name) (chosen_pick _ _ b)
  one_further Item o name b = next-item name s q i b o refl (chosen_pick _ _ b)

-- ---- what the marks tell then
bare : (t : List ℕ) (n : ℕ) → Unmarked t n → (slots : List code-best.Best) → SlotsHold n (slots_of t slots 0) (λ i. None)
bare t n u slots =
    record {
      few = omega arith;
      most = λ i h. omega (arith, u i h);
      marks = λ i h k. omega (arith, u i h);
      over = λ i h k. absurd (omega (arith, u i h));
      enough = omega arith;
      held = λ i h k. let m : mark_of (get_or t i 0) ≡ 0 = omega (arith, u i h) in rw m refl;
      found = λ i h k. absurd (omega (arith, u i h));
      apart = λ i j h g k m e. absurd (omega (arith, u i h));
    }

point_some : (b : Option Best) → is_some b ≡ true → is_some (point_of b) ≡ true
point_some (Some b) h = refl
point_some None h = h

point_by : (b : Option code-best.Best) → point_of (best_by b) ≡ option_map (λ v. v.at) b
point_by None = refl
point_by (Some v) = refl

module _ (more : ℕ) (l t : List ℕ) (n p e : ℕ) (tab : Table more l t n) (clear : Unmarked t n) {slots : List code-best.Best} {z z' : Slots}
    (pl : Matched more l n (slots_of t slots 0) z (steps_from Place l p 0)) (same_items : items_at l p ≡ items_at l e) (it : Matched more l n z z' (steps_from Item l e 0)) where
  abbrev name : ℕ → List ℕ
  name i = name_of more l (get_or t i 0)

  abbrev best : ℕ → Option Best
  best i = best_item (name i) 0 (items_at l p) (best_place (name i) 0 (places_at l p) None)

  kept : SlotsHold n z' best
  unfolding steps_from
  kept = kept_same ((met_then pl it).tells (λ i. None) (bare t n clear slots)) (λ i h. rw same_items refl)

  pub noted : LabelsMatched more l t z'.t n z'.slots z'.used p
  unfolding point_of_label
  noted =
      let st = (met_then pl it).stays in
      record {
        names = st.names;
        table = table_same tab st;
        most = kept.most;
        none_has = λ i h u. ap point_of (kept.held i h (omega arith)) ∙ rw u refl;
        one_has = λ i h u. point_some (best i) (kept.found i h u);
        spot = λ i h u v. ap point_of (kept.held i h v) ∙ point_by (slot_of z'.slots (mark_of (get_or z'.t i 0)));
        full = λ i h u. (kept.over i h (omega arith)).1;
        unused = λ u i h. elim (dec_lt 64 (mark_of (get_or z'.t i 0))) [
          | yes k ↦ absurd (omega (arith, (kept.over i h (omega arith)).0))
          | no k ↦ omega (arith, kept.marks i h (omega arith))
        ];
      }
