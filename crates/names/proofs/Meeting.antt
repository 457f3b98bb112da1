-- One label, for all names of a table.
use Rattle.std.specs.Prelude.{Option, None, Some, is_some}
use mathlib.Core.Path.{◌≡◌, refl, sym, ap, ◌∙◌}
use mathlib.Core.Bool.{Bool, true, false}
use mathlib.Core.List.{List, [], ◌∷◌}
use Prim.Native.Nat.{ℕ, ◌+◌, ◌<◌}
use native.Mathlib.Decide.{dec_lt}
use native.Mathlib.Omega.{arith}
use lib.Dec.{ltb}
use lib.ListN.{get_or}
use borrow.Author.Tests.{lt-ltb}
use Rattle.stream.specs.Payload.{payload}
use Rattle.stream.specs.Inner.Payload.{rest}
use Rattle.records.specs.Records.{bytes_at}
use Rattle.scene.specs.declared.labels.Best as code-best
use Rattle.scene.specs.Scene.{NamedPlace, DrawnItem}
use Rattle.values.specs.declared.Point.{Point}
use Rattle.names.specs.declared.batch.Carrier.{Carrier}
use Rattle.names.specs.declared.batch.Carrier.TheVariants.{Place, Item}
use Rattle.scene.specs.Labels.{same_bytes, pick, Key, Best, greater, consider, consider_at, label_is, item_key, place_key, reference_point}
use Rattle.scene.specs.Inner.Answers.{best_by, consider_place, consider_item, places_at, items_at}
use Rattle.names.specs.Inner.Table.{name_of, mark_of, Table, Gap}
use Rattle.names.specs.Inner.Batch.{Slots, slot_of, SlotsHold, SameNames, BestStored, label_at, considered, Matched, step_at}
use Rattle.names.specs.Laws.Order.{same_itself, key_not_same}

-- ---- a label's length
pub length-is : (s : List ℕ) (p : ℕ) {b n : ℕ} → b ≡ get_or (rest s 0) p 0 → n ≡ b → n ≡ get_or (payload s) p 0
unfolding rest
length-is s p e f = f ∙ e

-- ---- what a candidate leaves
consider_some : (key : Key) (p : Point) (b : Option Best) → is_some (consider b key p) ≡ true
unfolding consider
consider_some key p None = refl
consider_some key p (Some b) = by (greater key b.key)
  where
    by : (g : Bool) → is_some (pick g (Some (record { key = key; at = p })) (Some b)) ≡ true
    by true = refl
    by false = refl

-- what was found stays found
abbrev pub Steps : (Option Best → Option Best) → Type 0
Steps g = (b : Option Best) → is_some b ≡ true → is_some (g b) ≡ true

pub considers : (k : Carrier) (l : List ℕ) (q i : ℕ) → Steps (considered k l q i)
considers Place l q i = by (places_at l q)
  where
    by : (ps : List NamedPlace) → Steps (λ b. consider_place b i ps)
    by [] b e = e
    by (p ∷ ps) b e = consider_some (place_key p i) p.at b
considers Item l q i = by (items_at l q)
  where
    by_reference : (it : DrawnItem) (r : Option Point) → Steps (λ b. consider_at b (item_key it i) r)
    by_reference it None b e = e
    by_reference it (Some p) b e = consider_some (item_key it i) p b

    by : (its : List DrawnItem) → Steps (λ b. consider_item b i its)
    by [] b e = e
    by (it ∷ its) b e = by_reference it (reference_point it) b e

-- ---- equal functions
pub kept_same : {n : ℕ} {z : Slots} {bs bs' : ℕ → Option Best} → SlotsHold n z bs → ((i : ℕ) → i < n → bs' i ≡ bs i) → SlotsHold n z bs'
kept_same q f =
    record {
      few = q.few;
      most = q.most;
      marks = q.marks;
      over = q.over;
      enough = q.enough;
      held = λ i l u. f i l ∙ q.held i l u;
      found = λ i l u. ap is_some (f i l) ∙ q.found i l u;
      apart = q.apart;
    }

pub stays_same : (z : Slots) → SameNames z z
stays_same z = record { size = refl; slots_size = refl; names = λ i. refl }

abbrev named : ℕ → List ℕ → Slots → ℕ → List ℕ
named more l z i = name_of more l (get_or z.t i 0)

-- ---- a step that leaves every name but x, and makes g of what was found for x
pub record Touches (step : List ℕ → Option Best → Option Best) (x : List ℕ) (g : Option Best → Option Best) : Type 0 where
  pub this : (b : Option Best) → step x b ≡ g b
  pub others : (name : List ℕ) (b : Option Best) → same_bytes x name ≡ false → step name b ≡ b

module _ {more : ℕ} {l : List ℕ} {n : ℕ} (z : Slots) {step : List ℕ → Option Best → Option Best} where
  -- for no name
  pub met_none : ((i : ℕ) → i < n → (b : Option Best) → step (named more l z i) b ≡ b) → Matched more l n z z step
  met_none f = record { stays = stays_same z; tells = λ bs q. kept_same q (λ i h. f i h (bs i)) }

  module _ {x : List ℕ} {g : Option Best → Option Best} (tou : Touches step x g) where
    pub met_gap : {k : ℕ} → Gap more l z.t n x k → Matched more l n z z step
    met_gap {k} gap =
        met_none (λ i h b. tou.others (named more l z i) b (elim (dec_lt i k) [
          | yes m ↦ (key_not_same (named more l z i) x (gap.low i m)).1
          | no m ↦ (key_not_same x (named more l z i) (gap.high i (omega arith) h)).0
        ]))

    module _ (tab : Table more l z.t n) (k : ℕ) (within : k < n) (is : named more l z k ≡ x) where
      no_other : (i : ℕ) → i < n → (i ≡ k → ⊥) → same_bytes x (named more l z i) ≡ false
      no_other i h d =
          elim (dec_lt i k) [
            | yes m ↦ (key_not_same (named more l z i) x (rw is at (tab.rises i k m within))).1
            | no m ↦ (key_not_same x (named more l z i) (rw is at (tab.rises k i (omega arith) h))).0
          ]

      pub met_one : {z' : Slots} (b : Option code-best.Best)
          → Steps g → best_by b ≡ g (best_by (slot_of z.slots (mark_of (get_or z.t k 0)))) → BestStored k (best_by b) z z' → Matched more l n z z' step
      met_one b st e held =
          record {
            stays = held.stays;
            tells = λ bs q. held.tells n bs _ within q
                (λ h. here (bs k) ∙ ap g (q.held k within h) ∙ sym e)
                (λ h. ap is_some (here (bs k)) ∙ st (bs k) (q.found k within h))
                (λ i h d. tou.others (named more l z i) (bs i) (no_other i h d));
          }
        where
          here : (m : Option Best) → step (named more l z k) m ≡ g m
          here m = ap (λ (y : List ℕ). step y m) is ∙ tou.this m

-- ---- the step of a place or an item
module _ (k : Carrier) (l : List ℕ) (q i : ℕ) {p n : ℕ} (at : p ≡ q + label_at k) (e : n ≡ get_or l p 0) where
  pub touches : (n ≡ 0 → ⊥) → Touches (step_at k l q i) (bytes_at l (p + 1) n) (considered k l q i)
  unfolding step_at label_is
  touches f =
      let some : ltb 0 n ≡ true = lt-ltb 0 n (omega arith) in
      record {
        this = λ b. rw (← at, ← e, some, same_itself (bytes_at l (p + 1) n)) refl;
        others = λ name b h. rw (← at, ← e, some, h) refl;
      }

  -- it has no label
  pub unlabelled : n ≡ 0 → (name : List ℕ) (b : Option Best) → step_at k l q i name b ≡ b
  unfolding step_at label_is
  unlabelled f name b = rw (← at, ← e, f) refl
