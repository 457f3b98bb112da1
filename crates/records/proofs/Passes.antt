-- The passes for conditions 3 and 4, by what stands at the head of the bytes that are left.
use mathlib.Core.Path.{◌≡◌, refl}
use mathlib.Core.List.{List}
use mathlib.Core.Bool.{true, false, and-false}
use Prim.Native.Nat.{ℕ, ◌+◌}
use lib.ListN.{get_or, drop}
use lib.Dec.{leb}
use Rattle.records.specs.declared.records.Record.{Record}
use Rattle.records.specs.declared.records.Step.{Step}
use Rattle.records.specs.declared.records.Step.TheVariants.{Got, End, Bad}
use Rattle.records.specs.Records.{record_of}
use Rattle.records.specs.Walk.{entries}
use Rattle.records.specs.Layout.{Pass, ordered, broken, step_of, in_order, laid_out_from}
use Rattle.records.specs.Limits.{limited_at, all_limited}
use Rattle.records.specs.Laws.Walk.{entries_none, entries_end, ends_end, ends_bad, entries_got, entries_on, ends_on}
use Rattle.records.specs.Laws.Search.{entries_closed}

-- ---- condition 3
module _ (b : List ℕ) (st : Pass) where
  pub order_bad : record_of b ≡ Bad → false ≡ laid_out_from st b
  unfolding laid_out_from
  order_bad e = rw (ends_bad b e) refl

  pub order_end : record_of b ≡ End → leb 1 st.last ≡ laid_out_from st b
  unfolding laid_out_from in_order
  order_end e = rw (ends_end b e, entries_end b e) refl

  pub order_stop : {r : Record} {k : ℕ} → record_of b ≡ Got r k → broken ≡ step_of st b r → false ≡ laid_out_from st b
  unfolding laid_out_from in_order
  order_stop e h = rw (entries_got b e, ← h, and-false) refl

-- from p to p + k
pub order_go : (l : List ℕ) (p : ℕ) (st : Pass) {t : Pass} {r : Record} {k : ℕ} → record_of (drop p l) ≡ Got r k → ordered t ≡ step_of st (drop p l) r → laid_out_from st (drop p l) ≡ laid_out_from t (drop (p + k) l)
unfolding laid_out_from in_order
order_go l p st e h = rw (entries_on l p e, ends_on l p e, ← h) refl

-- ---- condition 4
module _ (b : List ℕ) where
  pub limits_none : {x : Step} → record_of b ≡ x → ((r : Record) (k : ℕ) → x ≡ Got r k → ⊥) → true ≡ all_limited (entries b 0)
  unfolding all_limited
  limits_none {x} e none = rw (entries_none b x e none) refl

  pub limits_stop : {r : Record} {k : ℕ} → record_of b ≡ Got r k → limited_at b r ≡ false → false ≡ all_limited (entries b 0)
  unfolding all_limited
  limits_stop e h = rw (entries_got b e, h) refl

-- nothing is left, or the end record begins
pub limits_closed : (l : List ℕ) (p : ℕ) → get_or l p 0 ≡ 0 → true ≡ all_limited (entries (drop p l) 0)
unfolding all_limited
limits_closed l p h = rw (entries_closed l p h) refl

pub limits_go : (l : List ℕ) (p : ℕ) {r : Record} {k : ℕ} → record_of (drop p l) ≡ Got r k → limited_at (drop p l) r ≡ true → all_limited (entries (drop p l) 0) ≡ all_limited (entries (drop (p + k) l) 0)
unfolding all_limited
limits_go l p e h = rw (entries_on l p e, h) refl
