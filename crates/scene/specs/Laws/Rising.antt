-- The variables of a payload that is laid out stand in the order of their names, and what follows for a name that is
-- looked for among them.
use Rattle.std.specs.Prelude.{◌≡◌, ◌⊎◌, Bool, true, false, ◌&&◌, List, [], ◌∷◌, map, ℕ, zero, suc, ◌-◌, ◌<◌, eqb, None}
use Rattle.std.proofs.Math.Path.{refl}
use Rattle.std.proofs.Common.{sym, ◌∙◌, true≢false, arith, ltb-true, eqb-true, lt-ltb, le-ltb, eq-eqb}
use Rattle.std.proofs.Math.Logic.{inl, inr, ⊎_elim}
use Rattle.std.proofs.Math.Bool.{and-false, or-true}
use Rattle.std.proofs.lemmas.Bool.{false≢true}
use Rattle.std.proofs.Math.Dec.{ltb}
use Rattle.records.specs.declared.records.Record.{Record}
use Rattle.records.specs.declared.records.Record.TheVariants.{Rescale, Option as OptionRecord, Feature, Variable, Place, Item, Points, Path}
use Rattle.records.specs.declared.records.Step.{Step}
use Rattle.records.specs.declared.records.Step.TheVariants.{Got, End, Bad}
use Rattle.records.specs.Records.{record_of, bytes_at}
use Rattle.records.specs.Walk.{Entry, more, entries, ends}
use Rattle.records.specs.Layout.{before, name_of, Pass, start, ordered_if, follows, tagged, when_ordered, step_of, in_order, laid_out_from, laid_out}
use Rattle.records.specs.Search.{ends_search, search_step_of, with_found, records_of}
use Rattle.records.specs.Laws.Tests.{and_left, and_right, or_cases}
use Rattle.records.specs.Laws.Records.{Fields, stands}
use Rattle.scene.specs.Scene.{NamedValue, variable_at}
use Rattle.scene.specs.Labels.{same_bytes, variable_of}
use Rattle.scene.specs.Inner.Answers.{variables_at}

-- each name comes after the one before it, the first after u
abbrev pub Rising : List ℕ → List NamedValue → Type 0
Rising u [] = Unit {0}
Rising u (v ∷ vs) = (before u v.name ≡ true) × Rising v.name vs

is_false : (b : Bool) → (b ≡ true → ⊥) → b ≡ false
is_false true h = absurd (h refl)
is_false false h = refl

-- ---- the order of names
module _ (x y : ℕ) (xs ys : List ℕ) where
  pub before_less : x < y → before (x ∷ xs) (y ∷ ys) ≡ true
  unfolding before
  before_less h = rw (lt-ltb x y h) refl

  pub before-next : x ≡ y → before xs ys ≡ true → before (x ∷ xs) (y ∷ ys) ≡ true
  unfolding before
  before-next e h = rw (eq-eqb x y e, h) (or-true (ltb x y))

  pub before_cases : before (x ∷ xs) (y ∷ ys) ≡ true → (x < y) ⊎ ((x ≡ y) × (before xs ys ≡ true))
  unfolding before
  before_cases h =
      ⊎_elim (λ (p : ltb x y ≡ true). inl (ltb-true x y p))
      (λ p. inr (eqb-true x y (and_left _ _ p), and_right (eqb x y) _ p))
      (or_cases (ltb x y) _ h)

pub before_trans : (a b c : List ℕ) → before a b ≡ true → before b c ≡ true → before a c ≡ true
unfolding before
before_trans [] [] c h k = k
before_trans [] (y ∷ ys) [] h k = k
before_trans [] (y ∷ ys) (z ∷ zs) h k = refl
before_trans (x ∷ xs) [] c h k = absurd (false≢true h)
before_trans (x ∷ xs) (y ∷ ys) [] h k = k
before_trans (x ∷ xs) (y ∷ ys) (z ∷ zs) h k = join (before_trans xs ys zs) (before_cases x y xs ys h) (before_cases y z ys zs k)
  where
    join : (before xs ys ≡ true → before ys zs ≡ true → before xs zs ≡ true) → (x < y) ⊎ ((x ≡ y) × (before xs ys ≡ true)) → (y < z) ⊎ ((y ≡ z) × (before ys zs ≡ true)) → before (x ∷ xs) (z ∷ zs) ≡ true
    join f (inl p) (inl q) = before_less x z xs zs (omega arith)
    join f (inl p) (inr q) = before_less x z xs zs (omega arith)
    join f (inr p) (inl q) = before_less x z xs zs (omega arith)
    join f (inr p) (inr q) = before-next x z xs zs (omega arith) (f p.1 q.1)

pub before_itself : (a : List ℕ) → before a a ≡ false
unfolding before
before_itself [] = refl
before_itself (x ∷ xs) = rw (le-ltb x x (omega arith), before_itself xs) (and-false (eqb x x))

-- what is found has the name
pub same_eq : (a b : List ℕ) → same_bytes a b ≡ true → a ≡ b
unfolding same_bytes
same_eq [] [] h = refl
same_eq [] (y ∷ ys) h = absurd (false≢true h)
same_eq (x ∷ xs) [] h = absurd (false≢true h)
same_eq (x ∷ xs) (y ∷ ys) h =
    let e : x ≡ y = eqb-true x y (and_left _ _ h) in
    let f : xs ≡ ys = same_eq xs ys (and_right (eqb x y) _ h) in
    rw (e, f) refl

module _ (a b : List ℕ) (h : before a b ≡ true) where
  pub before-not-back : before b a ≡ false
  before-not-back = is_false (before b a) (λ k. true≢false (sym (before_trans a b a h k) ∙ before_itself a))

  differ : a ≡ b → ⊥
  differ e = true≢false (sym (rw e at h) ∙ before_itself b)

  pub before-not_same : (same_bytes a b ≡ false) × (same_bytes b a ≡ false)
  before-not_same = (is_false (same_bytes a b) (λ e. differ (same_eq a b e)), is_false (same_bytes b a) (λ e. differ (sym (same_eq b a e))))

-- no name comes before the empty one
pub before_some : (u w : List ℕ) → before u w ≡ true → before [] w ≡ true
unfolding before
before_some [] w h = h
before_some (x ∷ xs) [] h = h
before_some (x ∷ xs) (y ∷ ys) h = refl

-- ---- names looked for among variables that rise
pub rising_from : (u : List ℕ) (v : NamedValue) (vs : List NamedValue) → Rising u (v ∷ vs) → Rising [] vs
rising_from u v [] r = tt
rising_from u v (w ∷ ws) r = (before_some v.name w.name r.1.0, r.1.1)

-- a name that does not come after u is not among those that rise after u
pub not-among : (u name : List ℕ) (vs : List NamedValue) → Rising u vs → before u name ≡ false → variable_of name vs ≡ None
unfolding variable_of
not-among u name [] r h = refl
not-among u name (v ∷ vs) r h =
    let other : same_bytes v.name name ≡ false = is_false (same_bytes v.name name) (λ e. true≢false (sym (rw (same_eq v.name name e) at r.0) ∙ h)) in
    rw other (not-among v.name name vs r.1 (is_false (before v.name name) (λ k. true≢false (sym (before_trans u v.name name r.0 k) ∙ h))))

-- a name that comes after the first's is looked for behind it
pub lookup_on : (name : List ℕ) (v : NamedValue) (ws : List NamedValue) → before v.name name ≡ true → variable_of name (v ∷ ws) ≡ variable_of name ws
unfolding variable_of
lookup_on name v ws h = rw (before-not_same v.name name h).0 refl

-- ---- the variables of a payload
-- each entry is what its bytes say
abbrev AllFields : List Entry → Type 0
AllFields [] = Unit {0}
AllFields (e ∷ es) = Fields e.bytes e.parsed × AllFields es

fields_more : (l : List ℕ) (s : Step) (f : ℕ → List Entry) → record_of l ≡ s → ((n : ℕ) → AllFields (f n)) → AllFields (more l s f)
fields_more l (Got r k) f e g = ((stands l e).fields, g (k - 1))
fields_more l End f e g = tt
fields_more l Bad f e g = tt

all_fields : (l : List ℕ) (n : ℕ) → AllFields (entries l n)
unfolding entries
all_fields [] n = tt
all_fields (x ∷ xs) zero = fields_more (x ∷ xs) (record_of (x ∷ xs)) (λ n. entries xs n) refl (λ n. all_fields xs n)
all_fields (x ∷ xs) (suc n) = all_fields xs n

-- one record further: only a variable is in the list, and only it changes the name
module _ (b : List ℕ) (p : Pass) (es : List Entry) (on : (q : Pass) → in_order es q ≡ true → Rising q.name (map variable_at (records_of 4 0 es))) where
  step_on : (t : Bool) (q : Pass) → when_ordered (ordered_if t q) (λ q. in_order es q) ≡ true → (t ≡ true) × Rising q.name (map variable_at (records_of 4 0 es))
  step_on true q h = (refl, on q h)
  step_on false q h = absurd (false≢true h)

  one_on : (r : Record) → Fields b r → when_ordered (step_of p b r) (λ q. in_order es q) ≡ true → Rising p.name (map variable_at (with_found (search_step_of 4 0 r) b (records_of 4 0 es)))
  unfolding step_of search_step_of ends_search variable_at bytes_at
  one_on Rescale s h = (step_on (eqb p.last 0) (tagged p 1) h).1
  one_on (OptionRecord o) s h = (step_on (follows p 2 && ltb p.option o) (record { last = 2; option = o; name = p.name; roles = p.roles }) h).1
  one_on (Feature n) s h = (step_on (follows p 3) (tagged p 3) h).1
  one_on (Variable n) s h =
      let both = step_on (follows p 4 && before p.name (name_of b n)) (record { last = 4; option = p.option; name = name_of b n; roles = p.roles }) h in
      rw (← s.is) (and_right (follows p 4) _ both.0, both.1)
  one_on (Place n) s h = tt
  one_on (Item k f n m) s h = tt
  one_on (Points r c) s h = tt
  one_on (Path r c f k) s h = tt

rising : (es : List Entry) (p : Pass) → AllFields es → in_order es p ≡ true → Rising p.name (map variable_at (records_of 4 0 es))
unfolding in_order records_of
rising [] p s h = tt
rising (e ∷ es) p s h = one_on e.bytes p es (λ q. rising es q s.1) e.parsed s.0 h

pub variables_rising : (l : List ℕ) → laid_out l ≡ true → Rising [] (variables_at l 0)
unfolding laid_out laid_out_from
variables_rising l h = rising (entries l 0) start (all_fields l 0) (and_right (ends l 0) _ h)
