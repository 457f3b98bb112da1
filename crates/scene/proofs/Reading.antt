-- An answer, by what the code reads of the record that was found.
use mathlib.Core.Path.{◌≡◌, refl, sym}
use mathlib.Core.Bool.{Bool, true, false, cond}
use Rattle.std.specs.Prelude.{Some, Ok}
use mathlib.Core.List.{List, ◌∷◌}
use Prim.Native.Nat.{ℕ, suc, ◌+◌, ◌-◌, ◌*◌, ◌≤◌}
use native.Mathlib.Nat.{add_assoc}
use native.Mathlib.Omega.{arith}
use lib.ListN.{get_or}
use lib.Seq.{get_or-drop}
use lib.Dec.{eqb}
use borrow.Author.Tests.{eqb-true, eqb-false}
use Rattle.stream.specs.Laws.Payload.{payload-length}
use lib.Ieee.{Float}
use Rattle.stream.specs.Numbers.{u16_at, u32_at}
use Rattle.stream.specs.Laws.Numbers.{u16_drop, u32_drop}
use Rattle.stream.specs.Payload.{payload}
use Rattle.stream.specs.Inner.Payload.{room}
use Rattle.records.specs.declared.search.Hit.{Hit}
use Rattle.records.specs.declared.search.Wanted.{Wanted}
use Rattle.records.specs.declared.search.Wanted.TheVariants.{Option, Feature, Variable, Place, Item, Points, Path as PathRecord}
use Rattle.records.specs.Inner.Wanted.{wanted_tag, wanted_key}
use Rattle.records.specs.Records.{bytes_at}
use Rattle.records.specs.Laws.Search.{Found, NameFound, standing_tells}
use Rattle.scene.specs.declared.readers.RecordName.{RecordName}
use Rattle.scene.specs.declared.readers.Path.{Path}
use Rattle.values.specs.declared.Point.{Point}
use Rattle.scene.specs.Scene.{float_value_at, point_at, points_at, feature_at, variable_at, place_at, form_at, path_at}
use Rattle.scene.specs.Inner.Answers.{NameAt, behind_name, PathWithin, features_at, features_by, feature_by, variables_at, places_at, points_from, points_by, paths_from, paths_by}
use Rattle.scene.specs.Laws.Shift.{part-drop, number_drop, point-drop, points-drop, cubics-drop}
use Rattle.scene.specs.Laws.Found.{nothing, One, named, one_listed, one-first, points_end_lem, cubics_end, polyline-ends}

-- ---- a record that begins with a name
-- a tag is all that is asked for
pub named_key : (w : Wanted) → 3 ≤ wanted_tag w → wanted_tag w ≤ 5 → wanted_key w ≡ 0
named_key (Option o) a b = absurd (omega arith)
named_key Feature a b = refl
named_key Variable a b = refl
named_key Place a b = refl
named_key Item a b = absurd (omega arith)
named_key (Points r) a b = absurd (omega arith)
named_key (PathRecord r) a b = absurd (omega arith)

named_tells : {b : List ℕ} {t at next : ℕ} → 3 ≤ t → t ≤ 5 → Found t b 0 at next → NameFound b at next (behind_name t + 2)
named_tells {b} {t} {at} {next} l m f = by (eqb t 3) refl (eqb t 4) refl
  where
    of_tag : (k : ℕ) → t ≡ k → (Found k b 0 at next → NameFound b at next (behind_name k + 2)) → NameFound b at next (behind_name t + 2)
    of_tag k e g = rw e (g (rw e at f))

    by : (x : Bool) → eqb t 3 ≡ x → (y : Bool) → eqb t 4 ≡ y → NameFound b at next (behind_name t + 2)
    by true e y g = of_tag 3 (eqb-true t 3 e) (λ h. h)
    by false e true g = of_tag 4 (eqb-true t 4 g) (λ h. h)
    by false e false g = of_tag 5 (omega (arith, eqb-false t 3 e, eqb-false t 4 g)) (λ h. h)

least : (t : ℕ) → 8 ≤ behind_name t
least t = by (eqb t 3) (eqb t 4)
  where
    by : (x y : Bool) → 8 ≤ cond x 16 (cond y 8 25)
    by true y = omega arith
    by false true = omega arith
    by false false = omega arith

module _ {s : List ℕ} {p t : ℕ} {h : Hit} (l : 3 ≤ t) (m : t ≤ 5) (o : One s p t 0 h) where
  pub name_begins : h.at + 10 ≤ room s
  name_begins = omega (arith, named_tells l m (standing_tells o.stands), least t, o.fits)

  -- the name that `next_named` reads
  pub name_found : {n : ℕ} → n ≡ get_or (payload s) (h.at + 1) 0 → NameAt (payload s) (room s) p t (behind_name t) (record { at = h.at + 2; len = n; next = h.next })
  name_found e =
      let d = named o (named_tells l m (standing_tells o.stands)) e in
      let i : h.at + 2 - 1 ≡ h.at + 1 = omega arith in
      record {
        from = h.at;
        at = refl;
        all = o.all;
        lies = record { name = omega (arith, d.ends, o.fits); more = omega arith; fits = o.fits };
        name = record { behind = omega arith; prefix = rw (i, e) refl; short = d.short; fits = omega (arith, d.ends, o.fits, payload-length s, least t) };
      }

module _ {l : List ℕ} {n p behind : ℕ} {r : RecordName} where
  -- the record's first bytes, by the name
  prefix_is : {t : ℕ} (f : NameAt l n p t behind r) → get_or l (f.from + 1) 0 ≡ r.len
  prefix_is f = let i : r.at - 1 ≡ f.from + 1 = omega (arith, f.at) in rw (← i) f.name.prefix

  pub feature_found : NameAt l n p 3 behind r → features_at l p ≡ features_by l (feature_by l (Ok (record { at = r.at; len = r.len; next = r.next })))
  unfolding feature_at
  feature_found f =
      let j : f.from + 2 + r.len + 8 ≡ f.from + 10 + r.len = omega arith in
      rw (f.all, f.at, j, ← prefix_is f) (simp (get_or-drop, part-drop, number_drop, add_assoc))

  pub variable_found : NameAt l n p 4 behind r → {x : Float} → x ≡ float_value_at l (r.at + r.len)
      → variables_at l p ≡ record { name = bytes_at l r.at r.len; value = x } ∷ variables_at l r.next
  unfolding variable_at
  variable_found f a = rw (a, f.all, f.at, ← prefix_is f) (simp (get_or-drop, part-drop, number_drop, add_assoc))

  pub place_found : NameAt l n p 5 behind r → {at : Point} {b line col : ℕ} → at ≡ point_at l (r.at + r.len)
      → b ≡ get_or l (r.at + r.len + 16) 0
      → line ≡ u32_at l (r.at + r.len + 17)
      → col ≡ u32_at l (r.at + r.len + 21)
      → places_at l p ≡ record { label = bytes_at l r.at r.len; at = at; nested = eqb b 1; line = line; col = col } ∷ places_at l r.next
  unfolding place_at
  place_found f a b c d =
      let i : f.from + 2 + r.len + 16 ≡ f.from + 18 + r.len = omega arith in
      let j : f.from + 2 + r.len + 17 ≡ f.from + 19 + r.len = omega arith in
      let k : f.from + 2 + r.len + 21 ≡ f.from + 23 + r.len = omega arith in
      rw (a, b, c, d, f.all, f.at, i, j, k, ← prefix_is f) (simp (get_or-drop, part-drop, point-drop, u32_drop, add_assoc))

-- ---- points and paths
-- what `next_path` ensures of a path that was found
abbrev pub PathFound : List ℕ → ℕ → ℕ → Path → Type 0
PathFound s p k r = (paths_from (payload s) p k ≡ paths_by (payload s) k (Some r)) × PathWithin (room s) p r

module _ {s : List ℕ} {p k : ℕ} {h : Hit} where
  pub points_found : (o : One s p 7 k h) {n : ℕ} → n ≡ u16_at (payload s) (h.at + 2)
      → (points_from (payload s) p k ≡ points_by (payload s) (Some (record { at = h.at + 4; count = n }))) × (h.at + 4 + 16 * n ≤ room s)
  points_found o e =
      (sym (one-first o (λ b. points_at b 4 (u16_at b 2)) (rw e (simp (u16_drop, points-drop)))), points_end_lem o (standing_tells o.stands) e)

  -- a path, by its byte for closed and by its form
  module _ (o : One s p 8 k h) {b x n : ℕ} (d : b ≡ get_or (payload s) (h.at + 2) 0) (e : x ≡ get_or (payload s) (h.at + 3) 0) where
    pub curve_found : x ≡ 0 → n ≡ u16_at (payload s) (h.at + 20)
        → PathFound s p k (record { closed = eqb b 1; curve = true; start = h.at + 4; at = h.at + 22; count = n; next = h.next })
    unfolding path_at form_at
    curve_found z f =
        let g = cubics_end o (standing_tells o.stands) e z f in
        (one_listed o path_at (rw (get_or-drop h.at (payload s) 3 0, ← e, z, d, f) (simp (get_or-drop, u16_drop, point-drop, cubics-drop))), record { start = λ _. omega arith; cubics = λ _. g; first = λ y. nothing (sym y); points = λ y. nothing (sym y); more = omega arith; fits = o.fits })

    pub polyline_found : (x ≡ 0 → ⊥) → n ≡ u16_at (payload s) (h.at + 4)
        → PathFound s p k (record { closed = eqb b 1; curve = false; start = h.at + 6; at = h.at + 6; count = n; next = h.next })
    unfolding path_at form_at
    polyline_found z f =
        let j : x ≡ suc (x - 1) = omega arith in
        let g = polyline-ends o (standing_tells o.stands) e z f in
        (one_listed o path_at (rw (get_or-drop h.at (payload s) 3 0, ← e, j, d, f) (simp (get_or-drop, u16_drop, points-drop))), record { start = nothing; cubics = nothing; first = λ _. refl; points = λ _. g; more = omega arith; fits = o.fits })
