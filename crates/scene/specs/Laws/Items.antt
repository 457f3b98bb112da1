-- An item that stands at q, by what the code reads of it: n is its label's length, m its presence byte.
use Rattle.std.specs.Prelude.{◌≡◌, refl, Bool, true, List, ℕ, ◌+◌, ◌%◌, ◌≤◌, drop, get_or, Float, Option, Some}
use Rattle.std.proofs.Common.{sym, ◌∙◌, add_assoc, arith, get_or-drop}
use Rattle.stream.specs.Payload.{payload}
use Rattle.stream.specs.Inner.Payload.{room}
use Rattle.stream.specs.Laws.Payload.{payload-length}
use Rattle.stream.specs.Numbers.{u32_at}
use Rattle.stream.specs.Laws.Numbers.{u32_drop}
use Rattle.records.specs.declared.search.Hit.{Hit}
use Rattle.records.specs.Records.{values_width}
use Rattle.records.specs.Inner.Numbers.{kind_of}
use Rattle.records.specs.Walk.{entries}
use Rattle.records.specs.Laws.Walk.{entries_on}
use Rattle.records.specs.Laws.Search.{standing_fits, standing_tells}
use Rattle.scene.specs.declared.readers.Item.{Item}
use Rattle.scene.specs.Scene.{float_value_at, bit, point_at, tail, item_with, item_at}
use Rattle.values.specs.Options.{given}
use Rattle.scene.specs.Inner.Answers.{Within, ItemRecordAt, item_by, items_at, items_by}
use Rattle.scene.specs.Laws.Shift.{part-drop, number_drop, point-drop}
use Rattle.scene.specs.Laws.Found.{One, one_listed}

-- ---- where it lies
module _ {s : List ℕ} {p : ℕ} {h : Hit} (o : One s p 6 0 h) where
  pub item_begins_lem : h.at + 13 ≤ room s
  item_begins_lem = omega (arith, standing_tells o.stands)

  module _ {n : ℕ} (e : n ≡ get_or (payload s) (h.at + 3) 0) where
    pub label_ends : h.at + 13 + n ≤ room s
    label_ends = rw (e, ← get_or-drop h.at (payload s) 3 0) (omega (arith, standing_tells o.stands))

    pub item_stands : {m : ℕ} → m ≡ get_or (payload s) (h.at + 12 + n) 0 → ItemRecordAt (payload s) h.at n m h.next
    item_stands {m} f =
        let t = standing_tells o.stands in
        let i : n ≡ get_or (drop h.at (payload s)) 3 0 = rw get_or-drop e in
        let j : m ≡ get_or (drop h.at (payload s)) (12 + n) 0 = rw (get_or-drop, ← add_assoc) f in
        record { stands = o.stands; label = i; has = j; bits = rw (j, i) t.has; ends = rw (j, i) t.ends; fits = standing_fits o.stands }

    -- what `item_at` ensures makes it the answer
    pub item_found : (it : Item)
        → item_by (payload s) it ≡ item_at (drop h.at (payload s))
        → (it.label ≡ h.at + 4) × (it.len ≡ n) × (it.next ≡ h.next)
        → (items_at (payload s) p ≡ items_by (payload s) (Some it)) × Within (room s) p it.label it.len it.next
    item_found it f g =
        let b = label_ends in
        (one_listed o item_at (sym f) ∙ rw g.2 refl, record { name = omega arith; more = omega arith; fits = omega arith })

module _ (s : List ℕ) {q n m next : ℕ} (h : ItemRecordAt (payload s) q n m next) where
  -- it is of one of eleven kinds
  pub kind_fits : {x : ℕ} → x ≡ get_or (payload s) (q + 1) 0 → x ≤ 10
  kind_fits e = rw (e, ← get_or-drop q (payload s) 1 0) (standing_tells h.stands).kind

  -- the value of bit k, where x is m again and j the width of what stands before the value
  module _ (k : ℕ) {g : Bool} {x j : ℕ} (b : g ≡ bit m k) (c : x ≡ m) (d : j ≡ values_width (x % k)) where
    pub value_fits : (bit m k ≡ true → values_width (m % k) + 8 ≤ values_width m) → g ≡ true → q + 13 + n + j + 8 ≤ room s
    value_fits f e = rw (d, c) (omega (arith, h.ends, h.fits, payload-length s, f (sym b ∙ e)))

    pub value-is : {v : Option Float} → v ≡ given g (float_value_at (payload s) (q + 13 + n + j)) → v ≡ given (bit m k) (float_value_at (payload s) (q + 13 + n + values_width (m % k)))
    value-is e = rw (← b, ← c, ← d) e

-- ---- what it holds
module _ (l : List ℕ) {q n m next : ℕ} (h : ItemRecordAt l q n m next) (it : Item) where
  behind_is : tail (entries (drop q l) 0) ≡ entries (drop next l) 0
  behind_is = rw (entries_on l q h.stands.got, h.stands.ends) refl

  pub item-is : {flags : ℕ}
      → flags ≡ get_or l (q + 2) 0
      → kind_of it.kind ≡ get_or l (q + 1) 0
      → it.hidden ≡ bit flags 1
      → it.nested ≡ bit flags 2
      → it.closed ≡ bit flags 4
      → it.fill ≡ bit flags 8
      → it.screen ≡ bit flags 16
      → it.label ≡ q + 4
      → it.len ≡ n
      → it.line ≡ u32_at l (q + 4 + n)
      → it.col ≡ u32_at l (q + 8 + n)
      → it.at ≡ given (bit m 1) (point_at l (q + 13 + n))
      → it.w ≡ given (bit m 2) (float_value_at l (q + 13 + n + values_width (m % 2)))
      → it.h ≡ given (bit m 4) (float_value_at l (q + 13 + n + values_width (m % 4)))
      → it.r ≡ given (bit m 8) (float_value_at l (q + 13 + n + values_width (m % 8)))
      → it.rad ≡ given (bit m 16) (float_value_at l (q + 13 + n + values_width (m % 16)))
      → it.next ≡ next
      → item_by l it ≡ item_at (drop q l)
  unfolding item_by item_at item_with
  item-is f e1 e2 e3 e4 e5 e6 e7 e8 e9 e10 e11 e12 e13 e14 e15 e16 =
      rw (e1, e2, e3, e4, e5, e6, e7, e8, e9, e10, e11, e12, e13, e14, e15, e16, f, ← h.label, ← h.has, behind_is)
      (simp (get_or-drop, u32_drop, part-drop, number_drop, point-drop, add_assoc))
