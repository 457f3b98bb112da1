-- What holds of a record that was read: its tag, its size, and its fields. The law is `stands`.
use Rattle.std.specs.Prelude.{◌≡◌, List, ◌⊎◌, Bool, false, ◌&&◌, cond, ℕ, ◌+◌, ◌*◌, ◌≤◌, ◌<◌, length}
use Rattle.std.proofs.Math.Path.{refl}
use Rattle.std.proofs.Common.{sym, subst, arith}
use Rattle.std.proofs.Math.Logic.{inl, inr, ⊎_elim}
use Rattle.std.proofs.Math.Bool.{true}
use Rattle.std.proofs.Math.ListN.{get_or}
use Rattle.std.proofs.Math.Dec.{eqb, leb, ltb}
use borrow.Author.Tests.{leb-true, ltb-true, eqb-true, eqb-false}
use Rattle.stream.specs.Numbers.{u16_at}
use Rattle.records.specs.declared.records.Record.{Record}
use Rattle.records.specs.declared.records.Record.TheVariants.{Rescale, Option, Feature, Variable, Place, Item, Points, Path}
use Rattle.records.specs.declared.records.Step.{Step}
use Rattle.records.specs.declared.records.Step.TheVariants.{Got, End, Bad}
use Rattle.records.specs.Records.{pick, all_ascii_graphic, named, labelled, named_then, counted, all_zero, option_width, option_fits, values_width, item_begins, item_fits, item_with}
use Rattle.records.specs.Records.{end_of, rescale_of, option_of, feature_of, variable_of, place_of, item_of, points_of, path_with, cubics_of, polyline_of, path_of, by_tag, record_of}
use Rattle.records.specs.Walk.{tag_of}
use Rattle.records.specs.Laws.Tests.{and_left, and_right, or_cases}

-- ---- names, and what is counted
-- a name of n bytes, its length byte at p
pub record Name (l : List ℕ) (p n : ℕ) : Type 0 where
  pub holds : named l p ≡ true
  pub is : n ≡ get_or l p 0
  pub some : 1 ≤ n
  pub short : n ≤ 31
  pub fits : p + 1 + n ≤ length l
  pub plain : all_ascii_graphic l (p + 1) n ≡ true

module _ (l : List ℕ) (p : ℕ) where
  pub name : named l p ≡ true → Name l p (get_or l p 0)
  unfolding named
  name h =
      let h₁ = and_right (ltb p (length l)) _ h in
      let h₂ = and_right (leb 1 (get_or l p 0)) _ h₁ in
      let h₃ = and_right (leb (get_or l p 0) 31) _ h₂ in
      record {
        holds = h;
        is = refl;
        some = leb-true 1 (get_or l p 0) (and_left _ _ h₁);
        short = leb-true (get_or l p 0) 31 (and_left _ _ h₂);
        fits = leb-true (p + 1 + get_or l p 0) (length l) (and_left _ _ h₃);
        plain = and_right (leb (p + 1 + get_or l p 0) (length l)) _ h₃;
      }

  label_at : labelled l p ≡ true → (get_or l p 0 ≡ 0) ⊎ Name l p (get_or l p 0)
  unfolding labelled
  label_at h =
      let none = ltb p (length l) && eqb (get_or l p 0) 0 in
      ⊎_elim
      (λ (e : none ≡ true). inl (eqb-true (get_or l p 0) 0 (and_right (ltb p (length l)) _ e)))
      (λ (e : named l p ≡ true). inr (name e))
      (or_cases none (named l p) h)

  pub counted_fits : (each : ℕ) → counted l p each ≡ true → p + 2 + each * u16_at l p ≤ length l
  unfolding counted
  counted_fits each h = leb-true (p + 2 + each * u16_at l p) (length l) (and_right (leb (p + 2) (length l)) _ h)

module _ (l : List ℕ) (more : ℕ) (h : named_then l more ≡ true) where
  then_named : named l 1 ≡ true
  unfolding named_then
  then_named = and_left _ _ h

  pub then_fits : 2 + more + get_or l 1 0 ≤ length l
  unfolding named_then
  then_fits = leb-true (2 + more + get_or l 1 0) (length l) (and_right (named l 1) _ h)

pub begins_fits : (l : List ℕ) → item_begins l ≡ true → 4 ≤ length l
unfolding item_begins
begins_fits l h = leb-true 4 (length l) (and_left _ _ h)

-- ---- a record's tag, size and fields
-- how many bytes it takes
abbrev pub size_of : Record → ℕ
size_of Rescale = 9
size_of (Option o) = 2 + option_width o
size_of (Feature n) = 18 + n
size_of (Variable n) = 10 + n
size_of (Place n) = 27 + n
size_of (Item k f n m) = 13 + n + values_width m
size_of (Points r n) = 4 + 16 * n
size_of (Path r c f n) = cond (eqb f 0) (22 + 48 * n) (6 + 16 * n)

module _ (r c f n : ℕ) where
  pub cubics-size : f ≡ 0 → size_of (Path r c f n) ≡ 22 + 48 * n
  cubics-size e = rw e refl

  pub polyline-size : f ≡ 1 → size_of (Path r c f n) ≡ 6 + 16 * n
  polyline-size e = rw e refl

pub record ChoiceAt (l : List ℕ) (o : ℕ) : Type 0 where
  pub is : o ≡ get_or l 1 0
  pub low : 1 ≤ o
  pub high : o ≤ 7
  -- a frame is one of two
  pub frame : o ≡ 1 → get_or l 2 0 ≤ 1

pub record ItemAt (l : List ℕ) (k f n m : ℕ) : Type 0 where
  pub kind_is : k ≡ get_or l 1 0
  pub kind : k ≤ 10
  pub flags : f < 32
  pub label_is_lem : n ≡ get_or l 3 0
  pub label : (n ≡ 0) ⊎ Name l 3 n
  pub short : n ≤ 31
  pub has_is : m ≡ get_or l (12 + n) 0
  pub has : m < 32

pub record PointsAt (l : List ℕ) (r n : ℕ) : Type 0 where
  pub role_is : r ≡ get_or l 1 0
  pub role : r ≤ 1
  pub count : n ≡ u16_at l 2

pub record PathAt (l : List ℕ) (r c f n : ℕ) : Type 0 where
  pub role_is : r ≡ get_or l 1 0
  pub role : r ≤ 1
  pub closed_is : c ≡ get_or l 2 0
  pub closed : c ≤ 1
  pub form_is : f ≡ get_or l 3 0
  pub form : f ≤ 1
  pub cubics : f ≡ 0 → n ≡ u16_at l 20
  pub points : f ≡ 1 → n ≡ u16_at l 4

-- what its fields are
abbrev pub Fields : List ℕ → Record → Type 0
Fields l Rescale = Unit {0}
Fields l (Option o) = ChoiceAt l o
Fields l (Feature n) = Name l 1 n
Fields l (Variable n) = Name l 1 n
Fields l (Place n) = Name l 1 n × (get_or l (18 + n) 0 ≤ 1)
Fields l (Item k f n m) = ItemAt l k f n m
Fields l (Points r n) = PointsAt l r n
Fields l (Path r c f n) = PathAt l r c f n

-- a record r of k bytes stands here
pub record Stands (l : List ℕ) (r : Record) (k : ℕ) : Type 0 where
  pub tag : get_or l 0 0 ≡ tag_of r
  pub size : k ≡ size_of r
  pub some : 1 ≤ k
  pub fits : k ≤ length l
  pub fields : Fields l r

-- ---- each reader's answer
-- what an answer tells
abbrev Told : List ℕ → Step → Type 0
Told l (Got r k) = Stands l r k
Told l End = Unit {0}
Told l Bad = Unit {0}

both : (l : List ℕ) (b : Bool) (x y : Step) → (b ≡ true → Told l x) → (b ≡ false → Told l y) → Told l (pick b x y)
both l true x y f g = f refl
both l false x y f g = g refl

module _ (l : List ℕ) where
  end_told : Told l (end_of l)
  unfolding end_of
  end_told = both l (all_zero l) End Bad (λ h. tt) (λ h. tt)

  rescale-told : get_or l 0 0 ≡ 1 → Told l (rescale_of l)
  unfolding rescale_of
  rescale-told t = both l (leb 9 (length l)) _ Bad (λ h. record { tag = t; size = refl; some = omega arith; fits = leb-true 9 (length l) h; fields = tt }) (λ h. tt)

  choice_told : get_or l 0 0 ≡ 2 → Told l (option_of l)
  unfolding option_of option_fits
  choice_told t =
      let o = get_or l 1 0 in
      both l (leb 2 (length l) && option_fits l o) _ Bad
      (λ h.
      let h₁ = and_right (leb 2 (length l)) _ h in
      let h₂ = and_right (leb 1 o) _ h₁ in
      let h₃ = and_right (leb o 7) _ h₂ in
      record {
        tag = t;
        size = refl;
        some = omega arith;
        fits = leb-true (2 + option_width o) (length l) (and_left _ _ h₃);
        fields = record {
          is = refl;
          low = leb-true 1 o (and_left _ _ h₁);
          high = leb-true o 7 (and_left _ _ h₂);
          frame = λ e.
              ⊎_elim
              (λ (more : ltb 1 o ≡ true). absurd (omega (arith, ltb-true 1 o more)))
              (λ (less : leb (get_or l 2 0) 1 ≡ true). leb-true (get_or l 2 0) 1 less)
              (or_cases (ltb 1 o) (leb (get_or l 2 0) 1) (and_right (leb (2 + option_width o) (length l)) _ h₃));
        };
      })
      (λ h. tt)

  feature-told : get_or l 0 0 ≡ 3 → Told l (feature_of l)
  unfolding feature_of
  feature-told t =
      both l (named_then l 16) _ Bad
      (λ h. record { tag = t; size = refl; some = omega arith; fits = then_fits l 16 h; fields = name l 1 (then_named l 16 h) })
      (λ h. tt)

  variable-told : get_or l 0 0 ≡ 4 → Told l (variable_of l)
  unfolding variable_of
  variable-told t =
      both l (named_then l 8) _ Bad
      (λ h. record { tag = t; size = refl; some = omega arith; fits = then_fits l 8 h; fields = name l 1 (then_named l 8 h) })
      (λ h. tt)

  place-told : get_or l 0 0 ≡ 5 → Told l (place_of l)
  unfolding place_of
  place-told t =
      let nested = leb (get_or l (18 + get_or l 1 0) 0) 1 in
      both l (named_then l 25 && nested) _ Bad
      (λ h.
      let h₁ = and_left (named_then l 25) _ h in
      record {
        tag = t;
        size = refl;
        some = omega arith;
        fits = then_fits l 25 h₁;
        fields = (name l 1 (then_named l 25 h₁), leb-true (get_or l (18 + get_or l 1 0) 0) 1 (and_right (named_then l 25) _ h));
      })
      (λ h. tt)

  item-told : get_or l 0 0 ≡ 6 → Told l (item_of l)
  unfolding item_of item_with item_fits item_begins
  item-told t =
      let n = get_or l 3 0 in
      let m = get_or l (12 + n) 0 in
      both l (item_fits l n m) _ Bad
      (λ h.
      let h₁ = and_right (leb 4 (length l)) _ (and_left (item_begins l) _ h) in
      let h₂ = and_right (leb (get_or l 1 0) 10) _ h₁ in
      let h₃ = and_right (leb (13 + n) (length l)) _ (and_right (item_begins l) _ h) in
      let called = label_at l 3 (and_right (ltb (get_or l 2 0) 32) _ h₂) in
      record {
        tag = t;
        size = refl;
        some = omega arith;
        fits = leb-true (13 + n + values_width m) (length l) (and_right (ltb m 32) _ h₃);
        fields = record {
          kind = leb-true (get_or l 1 0) 10 (and_left _ _ h₁);
          flags = ltb-true (get_or l 2 0) 32 (and_left _ _ h₂);
          kind_is = refl;
          label_is_lem = refl;
          label = called;
          short = ⊎_elim (λ (e : n ≡ 0). omega arith) (λ (e : Name l 3 n). e.short) called;
          has_is = refl;
          has = ltb-true m 32 (and_left _ _ h₃);
        };
      })
      (λ h. tt)

  points-told : get_or l 0 0 ≡ 7 → Told l (points_of l)
  unfolding points_of
  points-told t =
      both l (counted l 2 16 && leb (get_or l 1 0) 1) _ Bad
      (λ h.
      record {
        tag = t;
        size = refl;
        some = omega arith;
        fits = counted_fits l 2 16 (and_left _ _ h);
        fields = record { role_is = refl; role = leb-true (get_or l 1 0) 1 (and_right (counted l 2 16) _ h); count = refl };
      })
      (λ h. tt)

  form-told :
      (f p each : ℕ)
      → get_or l 0 0 ≡ 8
      → get_or l 1 0 ≤ 1
      → get_or l 2 0 ≤ 1
      → f ≡ get_or l 3 0
      → p + 2 + each * u16_at l p ≡ size_of (Path (get_or l 1 0) (get_or l 2 0) f (u16_at l p))
      → (f ≡ 0 → u16_at l p ≡ u16_at l 20)
      → (f ≡ 1 → u16_at l p ≡ u16_at l 4)
      → f ≤ 1
      → Told l (path_with l f p each)
  unfolding path_with
  form-told f p each t role closed form size cubics points low =
      both l (counted l p each) _ Bad
      (λ h.
      record {
        tag = t;
        size = size;
        some = omega arith;
        fits = counted_fits l p each h;
        fields = record { role_is = refl; role = role; closed_is = refl; closed = closed; form_is = form; form = low; cubics = cubics; points = points };
      })
      (λ h. tt)

  path-told : get_or l 0 0 ≡ 8 → Told l (path_of l)
  unfolding path_of cubics_of polyline_of
  path-told t =
      let tests = leb 4 (length l) && (leb (get_or l 1 0) 1 && (leb (get_or l 2 0) 1 && leb (get_or l 3 0) 1)) in
      both l tests _ Bad
      (λ h.
      let h₁ = and_right (leb 4 (length l)) _ h in
      let h₂ = and_right (leb (get_or l 1 0) 1) _ h₁ in
      let role = leb-true (get_or l 1 0) 1 (and_left _ _ h₁) in
      let closed = leb-true (get_or l 2 0) 1 (and_left _ _ h₂) in
      let form = leb-true (get_or l 3 0) 1 (and_right (leb (get_or l 2 0) 1) _ h₂) in
      both l (eqb (get_or l 3 0) 0) (cubics_of l) (polyline_of l)
      (λ e. form-told 0 20 48 t role closed (sym (eqb-true (get_or l 3 0) 0 e)) refl (λ z. refl) (λ z. absurd (omega arith)) (omega arith))
      (λ e. form-told 1 4 16 t role closed (omega (arith, eqb-false (get_or l 3 0) 0 e)) refl (λ z. absurd (omega arith)) (λ z. refl) (omega arith)))
      (λ h. tt)

  record_told : Told l (record_of l)
  unfolding record_of by_tag
  record_told =
      let t = get_or l 0 0 in
      let is : (k : ℕ) → eqb t k ≡ true → t ≡ k = eqb-true t in
      both l (eqb (length l) 0) Bad _ (λ e. tt)
      (λ e. both l (eqb t 0) (end_of l) _ (λ e. end_told)
      (λ e. both l (eqb t 1) (rescale_of l) _ (λ e. rescale-told (is 1 e))
      (λ e. both l (eqb t 2) (option_of l) _ (λ e. choice_told (is 2 e))
      (λ e. both l (eqb t 3) (feature_of l) _ (λ e. feature-told (is 3 e))
      (λ e. both l (eqb t 4) (variable_of l) _ (λ e. variable-told (is 4 e))
      (λ e. both l (eqb t 5) (place_of l) _ (λ e. place-told (is 5 e))
      (λ e. both l (eqb t 6) (item_of l) _ (λ e. item-told (is 6 e))
      (λ e. both l (eqb t 7) (points_of l) _ (λ e. points-told (is 7 e))
      (λ e. both l (eqb t 8) (path_of l) Bad (λ e. path-told (is 8 e)) (λ e. tt))))))))))

  pub stands : {r : Record} {k : ℕ} → record_of l ≡ Got r k → Stands l r k
  stands e = subst (Told l) e record_told
