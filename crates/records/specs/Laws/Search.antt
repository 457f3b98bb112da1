-- A search: what it finds from one record on, and what a record that was found tells of its bytes.
use Rattle.std.specs.Prelude.{◌≡◌, refl, List, [], ◌∷◌, Bool, true, false, ◌&&◌, ◌||◌, cond, ℕ, zero, suc, ◌+◌, ◌-◌, ◌*◌, ◌≤◌, ◌<◌, length, get_or, drop, eqb, ltb}
use Rattle.std.proofs.Common.{sym, ◌∙◌, ⊎_elim, add-zero, arith, length-drop, get_or-drop, eq-eqb, eqb-true, ne_eqb, lt-ltb, le-ltb, ltb-true, ltb-false}
use Rattle.std.proofs.Math.Path.{ap}
use Rattle.stream.specs.Numbers.{u16_at}
use Rattle.records.specs.declared.records.Record.{Record}
use Rattle.records.specs.declared.records.Record.TheVariants.{Rescale, Option, Feature, Variable, Place, Item, Points, Path}
use Rattle.records.specs.declared.records.Step.{Step}
use Rattle.records.specs.declared.records.Step.TheVariants.{Got, End, Bad}
use Rattle.records.specs.declared.search.SearchStep.{SearchStep}
use Rattle.records.specs.declared.search.SearchStep.TheVariants.{Matches, Skip, Over}
use Rattle.records.specs.Records.{pick, all_zero, end_of, option_width, values_width, by_tag, record_of}
use Rattle.records.specs.Walk.{more, entries, tag_of}
use Rattle.records.specs.Search.{key_of, ends_search, pick_search_step, search_step_of, with_found, records_of}
use Rattle.records.specs.Inner.Hits.{records_at, RecordAt}
use Rattle.records.specs.Laws.Tests.{and_left, and_right, or_cases}
use Rattle.records.specs.Laws.Records.{Name, Fields, Stands, stands, cubics-size, polyline-size}
use Rattle.records.specs.Laws.Walk.{entries_none, entries_on}

-- ---- from one record on
module _ (l : List ℕ) (p t key : ℕ) where
  pub search_none : {x : Step} → record_of (drop p l) ≡ x → ((r : Record) (k : ℕ) → x ≡ Got r k → ⊥) → records_at l p t key ≡ []
  unfolding records_of
  search_none {x} e none = ap (records_of t key) (entries_none (drop p l) x e none)

  pub search_got : {r : Record} {k : ℕ} → record_of (drop p l) ≡ Got r k → records_at l p t key ≡ with_found (search_step_of t key r) (drop p l) (records_at l (p + k) t key)
  unfolding records_of
  search_got e = ap (records_of t key) (entries_on l p e)

-- ---- nothing is left, or the end record begins: no record, whatever follows
closing : (l : List ℕ) → get_or l 0 0 ≡ 0 → entries l 0 ≡ []
unfolding entries record_of by_tag end_of
closing [] h = refl
closing (x ∷ xs) h = ended (eqb (length (x ∷ xs)) 0) (eqb x 0) (all_zero (x ∷ xs)) _ (eq-eqb x 0 h)
  where
    ended : (a b c : Bool) (r : Step) → b ≡ true → more (x ∷ xs) (pick a Bad (pick b (pick c End Bad) r)) (λ n. entries xs n) ≡ []
    ended true b c r h = refl
    ended false b true r h = rw h refl
    ended false b false r h = rw h refl

pub entries_closed : (l : List ℕ) (p : ℕ) → get_or l p 0 ≡ 0 → entries (drop p l) 0 ≡ []
entries_closed l p h = closing (drop p l) (rw (get_or-drop, add-zero) h)

-- ---- the byte at a position settles what a search finds there, if it is no tag or one that ends the search
-- a record's tag is its first byte
tag_stands : (l : List ℕ) (p : ℕ) {r : Record} {k : ℕ} → record_of (drop p l) ≡ Got r k → get_or l p 0 ≡ tag_of r
tag_stands l p e = rw (get_or-drop, add-zero) at (stands (drop p l) e).tag

past_other : (t x : ℕ) → ends_search t x ≡ true → x ≡ t → ⊥
unfolding ends_search
past_other t x h e = apart (ltb t 6) h
  where
    apart : (b : Bool) → cond b (ltb t x) (ltb 6 t && ltb x 7) ≡ true → ⊥
    apart true h = omega (arith, ltb-true t x h)
    apart false h = omega (arith, ltb-true 6 t (and_left _ _ h), ltb-true x 7 (and_right (ltb 6 t) _ h))

turn_past : (t key : ℕ) (r : Record) → ends_search t (tag_of r) ≡ true → search_step_of t key r ≡ Over
unfolding search_step_of
turn_past t key r h = rw (ne_eqb (tag_of r) t (past_other t (tag_of r) h), h) refl

module _ (l : List ℕ) (p t key : ℕ) where
  search_closed : get_or l p 0 ≡ 0 → records_at l p t key ≡ []
  unfolding records_of
  search_closed h = ap (records_of t key) (entries_closed l p h)

  search_past : (x : Step) → record_of (drop p l) ≡ x → ends_search t (get_or l p 0) ≡ true → records_at l p t key ≡ []
  search_past Bad e h = search_none l p t key e (λ r k n. cc)
  search_past End e h = search_none l p t key e (λ r k n. cc)
  search_past (Got r k) e h = search_got l p t key e ∙ rw (turn_past t key r (rw (tag_stands l p e) at h)) refl

  pub search_over : {x : ℕ} → x ≡ get_or l p 0 → (eqb x 0 || ends_search t x) ≡ true → records_at l p t key ≡ []
  search_over {x} e h =
      ⊎_elim
      (λ (z : eqb x 0 ≡ true). search_closed (sym e ∙ eqb-true x 0 z))
      (λ (z : ends_search t x ≡ true). search_past (record_of (drop p l)) refl (rw (← e) z))
      (or_cases (eqb x 0) (ends_search t x) h)

-- ---- a search ends at a record of its tag and key
is_here : (a b : Bool) → pick_search_step a Matches (pick_search_step b Over Skip) ≡ Matches → a ≡ true
is_here true b h = refl
is_here false true h = let z : ◌≡◌ {A = ℕ} 0 1 = cc in absurd (omega arith)
is_here false false h = let z : ◌≡◌ {A = ℕ} 0 1 = cc in absurd (omega arith)

pub here : (t key : ℕ) (r : Record) → search_step_of t key r ≡ Matches → (tag_of r ≡ t) × (key_of r ≡ key)
unfolding search_step_of
here t key r h =
    let both = is_here _ (ends_search t (tag_of r)) h in
    (eqb-true (tag_of r) t (and_left _ _ both), eqb-true (key_of r) key (and_right (eqb (tag_of r) t) _ both))

-- ---- a smaller tag is passed over, up to items
pub passes : (t key : ℕ) (r : Record) → tag_of r < t → t ≤ 6 → search_step_of t key r ≡ Skip
unfolding search_step_of ends_search
passes t key r h k =
    let no : tag_of r ≡ t → ⊥ = omega arith in
    rw (ne_eqb (tag_of r) t no) (over (ltb t 6) refl)
  where
    over : (b : Bool) → ltb t 6 ≡ b → pick_search_step (cond b (ltb t (tag_of r)) (ltb 6 t && ltb (tag_of r) 7)) Over Skip ≡ Skip
    over true e = rw (le-ltb t (tag_of r) (omega arith)) refl
    over false e = rw (le-ltb 6 t k) refl

-- what is passed over in a search has no greater tag
goes_on : (a b : Bool) → pick_search_step a Matches (pick_search_step b Over Skip) ≡ Skip → b ≡ false
goes_on true b h = let z : ◌≡◌ {A = ℕ} 0 1 = cc in absurd (omega arith)
goes_on false true h = let z : ◌≡◌ {A = ℕ} 0 1 = cc in absurd (omega arith)
goes_on false false h = refl

pub not-greater : (t key : ℕ) (r : Record) → search_step_of t key r ≡ Skip → t < 6 → tag_of r ≤ t
unfolding search_step_of ends_search
not-greater t key r h k = ltb-false t (tag_of r) (rw (lt-ltb t 6 k) at (goes_on (eqb (tag_of r) t && eqb (key_of r) key) (ends_search t (tag_of r)) h))

module _ (l : List ℕ) (p t key : ℕ) {r : Record} {k : ℕ} where
  pub passed_over : record_of (drop p l) ≡ Got r k → tag_of r < t → t ≤ 6 → records_at l p t key ≡ records_at l (p + k) t key
  passed_over e h m = search_got l p t key e ∙ ap (λ (x : SearchStep). with_found x (drop p l) (records_at l (p + k) t key)) (passes t key r h m)

-- ---- what a record of each tag tells, by its bytes b, its key k, its position and the next one
pub record ChoiceFound (b : List ℕ) (k at next : ℕ) : Type 0 where
  pub is : get_or b 1 0 ≡ k
  pub ends : next ≡ at + 2 + option_width k

-- a name, and so many bytes besides
pub record NameFound (b : List ℕ) (at next more : ℕ) : Type 0 where
  pub some : 1 ≤ get_or b 1 0
  pub short : get_or b 1 0 ≤ 31
  pub ends : next ≡ at + more + get_or b 1 0

pub record ItemFound (b : List ℕ) (at next : ℕ) : Type 0 where
  pub kind : get_or b 1 0 ≤ 10
  pub short : get_or b 3 0 ≤ 31
  pub has : get_or b (12 + get_or b 3 0) 0 < 32
  pub ends : next ≡ at + 13 + get_or b 3 0 + values_width (get_or b (12 + get_or b 3 0) 0)

pub record PointsFound (b : List ℕ) (k at next : ℕ) : Type 0 where
  pub role : get_or b 1 0 ≡ k
  pub ends : next ≡ at + 4 + 16 * u16_at b 2

pub record PathFound (b : List ℕ) (k at next : ℕ) : Type 0 where
  pub role : get_or b 1 0 ≡ k
  pub closed : get_or b 2 0 ≤ 1
  pub form : get_or b 3 0 ≤ 1
  pub cubics : get_or b 3 0 ≡ 0 → next ≡ at + 22 + 48 * u16_at b 20
  pub points : (get_or b 3 0 ≡ 0 → ⊥) → next ≡ at + 6 + 16 * u16_at b 4

abbrev pub Found : ℕ → List ℕ → ℕ → ℕ → ℕ → Type 0
Found t b k at next =
    cond (eqb t 2) (ChoiceFound b k at next)
    (cond (eqb t 3) (NameFound b at next 18)
    (cond (eqb t 4) (NameFound b at next 10)
    (cond (eqb t 5) (NameFound b at next 27)
    (cond (eqb t 6) (ItemFound b at next)
    (cond (eqb t 7) (PointsFound b k at next)
    (cond (eqb t 8) (PathFound b k at next)
    (Unit {0})))))))

module _ (b : List ℕ) (k at next : ℕ) {size : ℕ} (e : next ≡ at + size) where
  name_found : (more : ℕ) {n : ℕ} → size ≡ more + n → Name b 1 n → NameFound b at next more
  name_found more s f = record { some = omega arith; short = omega arith; ends = omega arith }

  found_of : (r : Record) → Stands b r size → key_of r ≡ k → Found (tag_of r) b k at next
  found_of Rescale s h = tt
  found_of (Option o) s h = record { is = omega arith; ends = rw (← h) (omega arith) }
  found_of (Feature n) s h = name_found 18 s.size s.fields
  found_of (Variable n) s h = name_found 10 s.size s.fields
  found_of (Place n) s h = name_found 27 s.size s.fields.0
  found_of (Item a f n m) s h =
      let i = s.fields in
      record {
        kind = omega (arith, i.kind_is, i.kind);
        short = omega arith;
        has = rw (← i.label_is_lem, ← i.has_is) i.has;
        ends = rw (← i.label_is_lem, ← i.has_is) (omega arith);
      }
  found_of (Points r n) s h = record { role = omega arith; ends = omega arith }
  found_of (Path r c f n) s h =
      let i = s.fields in
      record {
        role = omega arith;
        closed = omega arith;
        form = omega arith;
        cubics = λ z. let y : f ≡ 0 = omega arith in omega (arith, cubics-size r c f n y, i.cubics y);
        points = λ z. let y : f ≡ 1 = omega arith in omega (arith, polyline-size r c f n y, i.points y);
      }

module _ {l : List ℕ} {t k at next : ℕ} (h : RecordAt l t k at next) where
  stood : Stands (drop at l) h.is h.size
  stood = stands (drop at l) h.got

  pub standing_less : at < next
  standing_less = omega (arith, stood)

  pub standing_fits : next ≤ length l
  standing_fits = omega (arith, stood, length-drop at l)

  pub standing_tells : Found t (drop at l) k at next
  standing_tells = rw (← h.tag) (found_of (drop at l) k at next h.ends h.is stood h.key)

-- an option's bytes lie within the list
pub choice_within : {l : List ℕ} {k at next : ℕ} → RecordAt l 2 k at next → at + 2 + option_width k ≤ length l
choice_within h = omega (arith, standing_fits h, (standing_tells h).ends)

-- those of one that is a float
pub float_within : {l : List ℕ} {k at next : ℕ} → 3 ≤ k → RecordAt l 2 k at next → at + 10 ≤ length l
unfolding option_width
float_within {l} {k} {at} g h =
    let w : option_width k ≡ 8 = rw (ne_eqb k 1 (λ e. omega arith), ne_eqb k 2 (λ e. omega arith)) in
    omega (arith, choice_within h, w)

-- ---- no points and no path have a role above 1
module _ (t key : ℕ) (a : 7 ≤ t) (b : 2 ≤ key) where
  low_role : (l : List ℕ) (r : Record) → Fields l r → tag_of r ≡ t → key_of r ≤ 1
  low_role l Rescale f e = absurd (omega arith)
  low_role l (Option o) f e = absurd (omega arith)
  low_role l (Feature n) f e = absurd (omega arith)
  low_role l (Variable n) f e = absurd (omega arith)
  low_role l (Place n) f e = absurd (omega arith)
  low_role l (Item k f n m) g e = absurd (omega arith)
  low_role l (Points r n) f e = f.role
  low_role l (Path r c f n) g e = g.role

  not_here : (l : List ℕ) (r : Record) (k : ℕ) (more : List (List ℕ)) → record_of l ≡ Got r k → more ≡ [] → (x : SearchStep) → search_step_of t key r ≡ x → with_found x l more ≡ []
  not_here l r k more e none Matches h = let at = here t key r h in absurd (omega (arith, low_role l r (stands l e).fields at.0, at.1))
  not_here l r k more e none Skip h = none
  not_here l r k more e none Over h = refl

  none_listed : (l : List ℕ) (n : ℕ) → records_of t key (entries l n) ≡ []
  unfolding entries records_of
  none_listed [] n = refl
  none_listed (x ∷ xs) (suc n) = none_listed xs n
  none_listed (x ∷ xs) zero = by (record_of (x ∷ xs)) refl (λ n. none_listed xs n)
    where
      by : (s : Step) → record_of (x ∷ xs) ≡ s → ((n : ℕ) → records_of t key (entries xs n) ≡ []) → records_of t key (more (x ∷ xs) s (λ n. entries xs n)) ≡ []
      by (Got r k) e h = not_here (x ∷ xs) r k _ e (h (k - 1)) _ refl
      by End e h = refl
      by Bad e h = refl

  pub no_role : (l : List ℕ) (p : ℕ) → records_at l p t key ≡ []
  no_role l p = none_listed (drop p l) 0
