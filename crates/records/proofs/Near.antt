-- Condition 4's tests of a float, and the floats of one record.
use Rattle.std.specs.Prelude.{Option, None, Some, Float}
use mathlib.Core.Path.{◌≡◌, refl}
use mathlib.Core.Bool.{Bool, true, false, cond}
use mathlib.Core.List.{List}
use Prim.Native.Nat.{ℕ, zero, suc, ◌+◌, ◌*◌, ◌/◌}
use lib.Dec.{eqb}
use lib.Ieee.{Float, le, neg}
use Rattle.records.specs.declared.records.Record.{Record}
use Rattle.records.specs.declared.records.Record.TheVariants.{Rescale, Option as OptionRecord, Feature, Variable, Place, Item, Points, Path}
use Rattle.records.specs.Records.{option_width, values_width}
use Rattle.records.specs.Limits.{is_finite, on_canvas, million, option_floats, limited_at}
use Rattle.records.specs.Inner.Floats.{within_limit, all_within_limit}

none : (canvas : Bool) → false ≡ within_limit canvas None
unfolding is_finite on_canvas
none true = refl
none false = refl

module _ (canvas : Bool) {x : Option Float} where
  pub not_finite : x ≡ None → false ≡ within_limit canvas x
  not_finite e = rw e (none canvas)

  module _ {v : Float} (e : x ≡ Some v) where
    pub any_finite : canvas ≡ false → true ≡ within_limit canvas x
    unfolding is_finite
    any_finite c = rw (c, e) refl

    pub low-holds : canvas ≡ true → le (neg million) v ≡ true → le v million ≡ within_limit canvas x
    unfolding on_canvas
    low-holds c h = rw (c, e, h) refl

    pub low_fails : canvas ≡ true → le (neg million) v ≡ false → le (neg million) v ≡ within_limit canvas x
    unfolding on_canvas
    low_fails c h = rw (c, e, h) refl

-- ---- the floats of an option: eight bytes each
eights : (a b : Bool) → cond a 1 (cond b 16 8) / 8 ≡ cond a 0 (cond b 2 1)
eights true b = refl
eights false true = refl
eights false false = refl

choice_floats : (o : ℕ) → option_width o / 8 ≡ option_floats o
unfolding option_width option_floats
choice_floats o = eights (eqb o 1) (eqb o 2)

-- ---- each record, from the values that the code has
module _ (l : List ℕ) {r : Record} {b : Bool} where
  pub rescale_floats : r ≡ Rescale → b ≡ all_within_limit l false 1 1 → b ≡ limited_at l r
  unfolding limited_at
  rescale_floats e h = rw e h

  pub option_floats_lem : {o w : ℕ} → r ≡ OptionRecord o → w ≡ option_width o → b ≡ all_within_limit l false 2 (w / 8) → b ≡ limited_at l r
  unfolding limited_at
  option_floats_lem {o} e w h = rw (e, ← choice_floats o, ← w) h

  pub feature_floats : {n x : ℕ} → r ≡ Feature n → x ≡ n → b ≡ all_within_limit l false (2 + x) 2 → b ≡ limited_at l r
  unfolding limited_at
  feature_floats e x h = rw (e, ← x) h

  pub variable_floats : {n x : ℕ} → r ≡ Variable n → x ≡ n → b ≡ all_within_limit l false (2 + x) 1 → b ≡ limited_at l r
  unfolding limited_at
  variable_floats e x h = rw (e, ← x) h

  pub place_floats : {n x : ℕ} → r ≡ Place n → x ≡ n → b ≡ all_within_limit l true (2 + x) 2 → b ≡ limited_at l r
  unfolding limited_at
  place_floats e x h = rw (e, ← x) h

  pub item_floats : {k f n m x y w : ℕ} → r ≡ Item k f n m → x ≡ n → y ≡ m → w ≡ values_width y → b ≡ all_within_limit l true (13 + x) (w / 8) → b ≡ limited_at l r
  unfolding limited_at
  item_floats e x y w h = rw (e, ← x, ← y, ← w) h

  pub points_floats : {k c x : ℕ} → r ≡ Points k c → x ≡ c → b ≡ all_within_limit l true 4 (2 * x) → b ≡ limited_at l r
  unfolding limited_at
  points_floats e x h = rw (e, ← x) h

  pub start-far : {k c f n : ℕ} → r ≡ Path k c f n → f ≡ 0 → b ≡ all_within_limit l true 4 2 → b ≡ false → b ≡ limited_at l r
  unfolding limited_at
  start-far e z h o = rw (e, z, ← h, o) refl

  pub cubics_floats : {k c f n x : ℕ} → r ≡ Path k c f n → f ≡ 0 → x ≡ n → all_within_limit l true 4 2 ≡ true → b ≡ all_within_limit l true 22 (6 * x) → b ≡ limited_at l r
  unfolding limited_at
  cubics_floats e z x s h = rw (e, z, s, ← x) h

  pub polyline_floats : {k c f n x : ℕ} → r ≡ Path k c f n → (f ≡ 0 → ⊥) → x ≡ n → b ≡ all_within_limit l true 6 (2 * x) → b ≡ limited_at l r
  unfolding limited_at
  polyline_floats {f = zero} e z x h = absurd (z refl)
  polyline_floats {f = suc f} e z x h = rw (e, ← x) h
