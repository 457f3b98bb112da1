-- The records of a payload one record further, for any fold over them: what stands at a position, and what is left
-- behind it.
use Rattle.std.specs.Prelude.{◌≡◌, refl, List, [], ◌∷◌, true, false, ℕ, zero, suc, ◌+◌, ◌-◌, ◌*◌, ◌%◌, ◌≤◌, ◌<◌, length, drop}
use Rattle.std.proofs.Common.{sym, ap, subst, ◌∙◌, arith, length-drop, drop-drop}
use Rattle.std.proofs.Math.Seq.{drop-nil}
use Rattle.stream.specs.Payload.{payload}
use Rattle.stream.specs.Inner.Payload.{room, rest, part_from}
use Rattle.stream.specs.Laws.Payload.{payload-length, part_at}
use Rattle.records.specs.declared.records.Record.{Record}
use Rattle.records.specs.declared.records.Record.TheVariants.{Item, Points, Path}
use Rattle.records.specs.declared.records.Step.{Step}
use Rattle.records.specs.declared.records.Step.TheVariants.{Got, End, Bad}
use Rattle.records.specs.Records.{record_of}
use Rattle.records.specs.Walk.{entries, ends}
use Rattle.records.specs.Laws.Records.{size_of, Fields, stands, cubics-size, polyline-size}

-- ---- what a record that was read tells of its bytes
module _ (l : List ℕ) {r : Record} {k : ℕ} (e : record_of l ≡ Got r k) where
  pub got_size : {x : Record} → r ≡ x → size_of x ≤ length l
  got_size h = let s = stands l e in rw (← h, ← s.size) s.fits

  pub got_role : {x c : ℕ} → r ≡ Points x c → x ≤ 1
  got_role h = (subst (Fields l) h (stands l e).fields).role

  pub got_has : {a f n m : ℕ} → r ≡ Item a f n m → m < 32
  got_has h = (subst (Fields l) h (stands l e).fields).has

  pub got_cubics : {a c f n : ℕ} → r ≡ Path a c f n → f ≡ 0 → 22 + 48 * n ≤ length l
  got_cubics {a} {c} {f} {n} h z = rw (cubics-size a c f n z) at (got_size h)

  pub got_polyline : {a c f n : ℕ} → r ≡ Path a c f n → (f ≡ 0 → ⊥) → 6 + 16 * n ≤ length l
  got_polyline {a} {c} {f} {n} h z = rw (polyline-size a c f n (one f (subst (Fields l) h (stands l e).fields).form z)) at (got_size h)
    where
      one : (f : ℕ) → f ≤ 1 → (f ≡ 0 → ⊥) → f ≡ 1
      one f h z = omega arith

-- ---- to skip bytes is to drop them
entries_skip : (l : List ℕ) (n : ℕ) → entries l n ≡ entries (drop n l) 0
unfolding entries
entries_skip [] n = rw drop-nil refl
entries_skip (x ∷ xs) zero = refl
entries_skip (x ∷ xs) (suc n) = entries_skip xs n

ends_skip : (l : List ℕ) (n : ℕ) → ends l n ≡ ends (drop n l) 0
unfolding ends
ends_skip [] n = rw drop-nil refl
ends_skip (x ∷ xs) zero = refl
ends_skip (x ∷ xs) (suc n) = ends_skip xs n

less_one : (j : ℕ) → suc j - 1 ≡ j
less_one j = omega arith

-- ---- a record stands here: it is the first of the list, and the rest of the list is that of the bytes behind it
entries-one : (l : List ℕ) (r : Record) (k : ℕ) → record_of l ≡ Got r k → 1 ≤ k → k ≤ length l → entries l 0 ≡ record { bytes = l; parsed = r } ∷ entries (drop k l) 0
unfolding entries
entries-one [] r k e a b = absurd (omega arith)
entries-one (x ∷ xs) r zero e a b = absurd (omega arith)
entries-one (x ∷ xs) r (suc j) e a b = rw (e, less_one, entries_skip xs j) refl

ends-one : (l : List ℕ) (r : Record) (k : ℕ) → record_of l ≡ Got r k → 1 ≤ k → k ≤ length l → ends l 0 ≡ ends (drop k l) 0
unfolding ends
ends-one [] r k e a b = absurd (omega arith)
ends-one (x ∷ xs) r zero e a b = absurd (omega arith)
ends-one (x ∷ xs) r (suc j) e a b = rw (e, less_one, ends_skip xs j) refl

module _ (l : List ℕ) {r : Record} {k : ℕ} (e : record_of l ≡ Got r k) where
  pub entries_got : entries l 0 ≡ record { bytes = l; parsed = r } ∷ entries (drop k l) 0
  entries_got = let f = stands l e in entries-one l r k e f.some f.fits

  pub ends_got : ends l 0 ≡ ends (drop k l) 0
  ends_got = let f = stands l e in ends-one l r k e f.some f.fits

-- ---- no record stands here
pub entries_end : (l : List ℕ) → record_of l ≡ End → entries l 0 ≡ []
unfolding entries
entries_end [] e = refl
entries_end (x ∷ xs) e = rw e refl

pub entries_bad : (l : List ℕ) → record_of l ≡ Bad → entries l 0 ≡ []
unfolding entries
entries_bad [] e = refl
entries_bad (x ∷ xs) e = rw e refl

pub entries_none : (l : List ℕ) (x : Step) → record_of l ≡ x → ((r : Record) (k : ℕ) → x ≡ Got r k → ⊥) → entries l 0 ≡ []
entries_none l Bad e none = entries_bad l e
entries_none l End e none = entries_end l e
entries_none l (Got r k) e none = absurd (none r k refl)

-- nothing is no end
none_bad : record_of [] ≡ Bad
unfolding record_of
none_bad = refl

pub ends_end : (l : List ℕ) → record_of l ≡ End → ends l 0 ≡ true
unfolding ends
ends_end [] e = let z : ◌≡◌ {A = ℕ} 0 1 = cc none_bad in absurd (omega arith)
ends_end (x ∷ xs) e = rw e refl

pub ends_bad : (l : List ℕ) → record_of l ≡ Bad → ends l 0 ≡ false
unfolding ends
ends_bad [] e = refl
ends_bad (x ∷ xs) e = rw e refl

-- ---- at position p of a list: a pass goes from p to p + k
module _ (l : List ℕ) (p : ℕ) {r : Record} {k : ℕ} (e : record_of (drop p l) ≡ Got r k) where
  pub entries_on : entries (drop p l) 0 ≡ record { bytes = drop p l; parsed = r } ∷ entries (drop (p + k) l) 0
  entries_on = rw (← drop-drop k p l) (entries_got (drop p l) e)

  pub ends_on : ends (drop p l) 0 ≡ ends (drop (p + k) l) 0
  ends_on = rw (← drop-drop k p l) (ends_got (drop p l) e)

-- ---- at position p of a stream's payload
module _ (s : List ℕ) (p : ℕ) where
  -- what the reader finds in the part from p's block on
  pub found : p ≤ room s → {part : List ℕ} {x : Step} → part ≡ part_from s p → x ≡ record_of (rest part (p % 508)) → record_of (drop p (payload s)) ≡ x
  found h e x = ap record_of (sym (part_at s p h e)) ∙ sym x

  -- the record ends within the payload
  pub got_room : {r : Record} {k : ℕ} → record_of (drop p (payload s)) ≡ Got r k → (1 ≤ k) × (p + k ≤ room s)
  got_room e =
      let f = stands (drop p (payload s)) e in
      (f.some, omega (arith, f.some, f.fits, length-drop p (payload s), payload-length s))
