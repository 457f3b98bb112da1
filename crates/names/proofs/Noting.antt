-- The best for an entry, held in its slot.
use Rattle.std.specs.Prelude.{Option, Some, is_some}
use mathlib.Core.Path.{◌≡◌, refl, sym, ap, ◌∙◌}
use mathlib.Core.Logic.{◌⊎◌, inl, inr, ⊎_elim}
use mathlib.Core.Bool.{true}
use mathlib.Core.List.{List}
use Prim.Native.Nat.{ℕ, zero, suc, ◌+◌, ◌-◌, ◌*◌, ◌%◌, ◌≤◌, ◌<◌}
use native.Mathlib.Decide.{dec_lt}
use native.Mathlib.Omega.{arith}
use lib.ListN.{length, get_or, set, length-set}
use lib.Seq.{get_or-set_same, get_or-set_other}
use borrow.Author.Tests.{eq-eqb, ne_eqb}
use Rattle.scene.specs.declared.labels.Best as code-best
use Rattle.scene.specs.Labels.{Best}
use Rattle.scene.specs.Inner.Answers.{best_by}
use Rattle.names.specs.Inner.Table.{mark_of, marked}
use Rattle.names.proofs.Slots.{slot_same, slot_other}
use Rattle.names.specs.Inner.Batch.{Slots, slots_of, slot_of, SlotsHold, SameNames, BestStored}

pub same_or : (i k : ℕ) → (i ≡ k) ⊎ (i ≡ k → ⊥)
same_or i k =
    elim (dec_lt i k) [
      | yes h ↦ inr (λ e. omega arith)
      | no h ↦
          elim (dec_lt k i) [
            | yes j ↦ inr (λ e. omega arith)
            | no j ↦ inl (omega arith)
          ]
    ]

-- ---- how many have a mark, where entry k becomes v
module _ (t : List ℕ) (k v : ℕ) where
  marked-before : (n : ℕ) → n ≤ k → marked (set t k v) n ≡ marked t n
  unfolding marked
  marked-before zero h = refl
  marked-before (suc n) h = rw (marked-before n (omega arith), get_or-set_other t k n v 0 (λ e. omega arith)) refl

  marked_new : k < length t → mark_of (get_or t k 0) ≡ 0 → 1 ≤ mark_of v → (n : ℕ) → k < n → marked (set t k v) n ≡ marked t n + 1
  unfolding marked
  marked_new inside old new zero h = absurd (omega arith)
  marked_new inside old new (suc n) h =
      ⊎_elim
      (λ (e : n ≡ k). rw (e, marked-before k (omega arith), get_or-set_same t k v 0 inside, ne_eqb (mark_of v) 0 (λ z. omega arith), eq-eqb (mark_of (get_or t k 0)) 0 old) (omega arith))
      (λ (g : n ≡ k → ⊥). rw (marked_new inside old new n (omega arith), get_or-set_other t k n v 0 g) (omega arith))
      (same_or n k)

module _ (t : List ℕ) (slots : List code-best.Best) (used k : ℕ) where
  abbrev z : Slots
  z = slots_of t slots used

  abbrev mark : ℕ → ℕ
  mark i = mark_of (get_or t i 0)

  stays : SameNames z z
  stays = record { size = refl; slots_size = refl; names = λ i. refl }

  -- no mark and no slot changes
  module _ (n : ℕ) (bs bs' : ℕ → Option Best) (q : SlotsHold n z bs) (f : (i : ℕ) → i < n → (i ≡ k → ⊥) → bs' i ≡ bs i) where
    same_marks : (mark k ≤ 64 → bs' k ≡ best_by (slot_of slots (mark k))) → (1 ≤ mark k → is_some (bs' k) ≡ true) → SlotsHold n z bs'
    same_marks held' found' =
        record {
          few = q.few;
          most = q.most;
          marks = q.marks;
          over = q.over;
          enough = q.enough;
          held = λ i l u. ⊎_elim (λ (g : i ≡ k). rw g (held' (rw g at u))) (λ g. f i l g ∙ q.held i l u) (same_or i k);
          found = λ i l u. ⊎_elim (λ (g : i ≡ k). rw g (found' (rw g at u))) (λ g. ap is_some (f i l g) ∙ q.found i l u) (same_or i k);
          apart = q.apart;
        }

  -- no slot was left for it before
  pub held_over : (b : Option Best) → 2181038080 ≤ get_or t k 0 → BestStored k b z z
  held_over b h =
      record { stays = stays; tells = λ n bs bs' l q e g f. same_marks n bs bs' q f (λ u. absurd (omega arith)) g }

  module _ (v : code-best.Best) (room : length slots ≡ 64) where
    -- it has a slot
    module _ (low : 33554432 ≤ get_or t k 0) (high : get_or t k 0 < 2181038080) where
      abbrev again : List code-best.Best
      again = set slots (mark k - 1) v

      pub held_again : BestStored k (best_by (Some v)) z (slots_of t again used)
      held_again =
          record {
            stays = record { size = refl; slots_size = length-set slots (mark k - 1) v; names = λ i. refl };
            tells = λ n bs bs' l q e g f. record {
              few = q.few;
              most = q.most;
              marks = q.marks;
              over = q.over;
              enough = q.enough;
              held = λ i l' u. ⊎_elim
                  (λ (y : i ≡ k). rw y (e (omega arith) ∙ sym (ap best_by (slot_same slots (mark k - 1) v (mark k) (omega arith) (omega (arith, room))))))
                  (λ y. f i l' y ∙ q.held i l' u ∙ sym (ap best_by (slot_other slots (mark k - 1) v (mark i) (λ c. y (q.apart i k l' l (omega arith) u (omega arith))))))
                  (same_or i k);
              found = λ i l u. ⊎_elim (λ (y : i ≡ k). rw y (g (omega arith))) (λ y. ap is_some (f i l y) ∙ q.found i l u) (same_or i k);
              apart = q.apart;
            };
          }

    -- it has none: the entry becomes v, with a new mark
    module _ (inside : k < length t) (new : get_or t k 0 < 33554432) (w : ℕ) (stem : w % 33554432 ≡ get_or t k 0 % 33554432) (some-mark : 1 ≤ mark_of w) where
      at : get_or (set t k w) k 0 ≡ w
      at = get_or-set_same t k w 0 inside

      other : (i : ℕ) → (i ≡ k → ⊥) → get_or (set t k w) i 0 ≡ get_or t i 0
      other i g = get_or-set_other t k i w 0 g

      names_stay : (i : ℕ) → get_or (set t k w) i 0 % 33554432 ≡ get_or t i 0 % 33554432
      names_stay i = ⊎_elim (λ (g : i ≡ k). rw (g, at) stem) (λ g. ap (λ (x : ℕ). x % 33554432) (other i g)) (same_or i k)

      -- an entry's new value, by whether it is entry k
      each : (P : ℕ → ℕ → Type 0) (i : ℕ) → (i ≡ k → P k w) → ((i ≡ k → ⊥) → P i (get_or t i 0)) → P i (get_or (set t k w) i 0)
      each P i f g = ⊎_elim (λ (e : i ≡ k). rw (e, at) (f e)) (λ e. rw (other i e) (g e)) (same_or i k)

      module _ (n : ℕ) (l : k < n) where
        one_more : marked (set t k w) n ≡ marked t n + 1
        one_more = marked_new t k w inside (omega arith) some-mark n l

    module _ (inside : k < length t) (new : get_or t k 0 < 33554432) (full : 64 ≤ used) where
      abbrev top : ℕ
      top = get_or t k 0 + 2181038080

      pub held_full : BestStored k (best_by (Some v)) z (slots_of (set t k top) slots used)
      held_full =
          let stem : top % 33554432 ≡ get_or t k 0 % 33554432 = omega arith in
          let mark-is : mark_of top ≡ 65 = omega arith in
          let m : 1 ≤ mark_of top = omega arith in
          let per = each inside new top stem m in
          record {
            stays = record { size = length-set t k top; slots_size = refl; names = names_stay inside new top stem m };
            tells = λ n bs bs' l q e g f. let more = one_more inside new top stem m n l in let few = q.few in let enough = q.enough in record {
              few = q.few;
              most = λ i h. per (λ i x. mark_of x ≤ 65) i (λ y. omega arith) (λ y. q.most i h);
              marks = λ i h. per (λ i x. mark_of x ≤ 64 → mark_of x ≤ used) i (λ y u. absurd (omega arith)) (λ y. q.marks i h);
              over = λ i h u. (omega arith, omega arith);
              enough = omega arith;
              held = λ i h. per (λ i x. mark_of x ≤ 64 → bs' i ≡ best_by (slot_of slots (mark_of x))) i (λ y u. absurd (omega arith)) (λ y u. f i h y ∙ q.held i h u);
              found = λ i h. per (λ i x. 1 ≤ mark_of x → is_some (bs' i) ≡ true) i
                  (λ y u. rw (e (omega arith)) refl)
                  (λ y u. ap is_some (f i h y) ∙ q.found i h u);
              apart = λ i j h h'. per (λ i x. 1 ≤ mark_of x → mark_of x ≤ 64 → mark_of x ≡ mark_of (get_or (set t k top) j 0) → i ≡ j) i
                  (λ y u w. absurd (omega arith))
                  (λ y. per (λ j x. 1 ≤ mark i → mark i ≤ 64 → mark i ≡ mark_of x → i ≡ j) j
                  (λ y' u w c. absurd (omega arith))
                  (λ y' u w c. q.apart i j h h' u w c));
            };
          }

    module _ (inside : k < length t) (new : get_or t k 0 < 33554432) (free : used < 64) where
      abbrev next : ℕ
      next = get_or t k 0 + 33554432 * (used + 1)

      pub held_fresh : BestStored k (best_by (Some v)) z (slots_of (set t k next) (set slots used v) (used + 1))
      held_fresh =
          let stem : next % 33554432 ≡ get_or t k 0 % 33554432 = omega arith in
          let mark-is : mark_of next ≡ used + 1 = omega arith in
          let m : 1 ≤ mark_of next = omega arith in
          let per = each inside new next stem m in
          record {
            stays = record { size = length-set t k next; slots_size = length-set slots used v; names = names_stay inside new next stem m };
            tells = λ n bs bs' l q e g f. let more = one_more inside new next stem m n l in let enough = q.enough in record {
              few = omega arith;
              most = λ i h. per (λ i x. mark_of x ≤ 65) i (λ y. omega arith) (λ y. q.most i h);
              marks = λ i h. per (λ i x. mark_of x ≤ 64 → mark_of x ≤ used + 1) i (λ y u. omega arith) (λ y u. omega (arith, q.marks i h u));
              over = λ i h. per (λ i x. 65 ≤ mark_of x → (used + 1 ≡ 64) × (65 ≤ marked (set t k next) n)) i
                  (λ y u. absurd (omega arith))
                  (λ y u. absurd (omega (arith, (q.over i h u).0)));
              enough = omega arith;
              held = λ i h. per (λ i x. mark_of x ≤ 64 → bs' i ≡ best_by (slot_of (set slots used v) (mark_of x))) i
                  (λ y u. e (omega arith) ∙ sym (ap best_by (slot_same slots used v (mark_of next) mark-is (omega (arith, room)))))
                  (λ y u. let c = q.marks i h u in f i h y ∙ q.held i h u ∙ sym (ap best_by (slot_other slots used v (mark i) (λ r. omega arith))));
              found = λ i h. per (λ i x. 1 ≤ mark_of x → is_some (bs' i) ≡ true) i
                  (λ y u. rw (e (omega arith)) refl)
                  (λ y u. ap is_some (f i h y) ∙ q.found i h u);
              apart = λ i j h h'. per (λ i x. 1 ≤ mark_of x → mark_of x ≤ 64 → mark_of x ≡ mark_of (get_or (set t k next) j 0) → i ≡ j) i
                  (λ y. per (λ j x. 1 ≤ mark_of next → mark_of next ≤ 64 → mark_of next ≡ mark_of x → k ≡ j) j
                  (λ y' u w c. refl)
                  (λ y' u w c. absurd (omega (arith, q.marks j h' (omega arith)))))
                  (λ y. per (λ j x. 1 ≤ mark i → mark i ≤ 64 → mark i ≡ mark_of x → i ≡ j) j
                  (λ y' u w c. absurd (omega (arith, q.marks i h w)))
                  (λ y' u w c. q.apart i j h h' u w c));
            };
          }
