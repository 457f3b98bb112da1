-- Entries lose their marks: that of a name, and those of the first host features.
use Rattle.std.specs.Prelude.{Option, None, Some, is_some, Ok}
use mathlib.Core.Path.{◌≡◌, refl, sym, ◌∙◌}
use mathlib.Core.Bool.{Bool, true, false, cond, ◌||◌, or-false, or_assoc, false≢true}
use mathlib.Core.List.{List, [], ◌∷◌, ◌++◌}
use Prim.Native.Nat.{ℕ, zero, suc, ◌+◌, ◌-◌, ◌%◌, ◌≤◌, ◌<◌}
use native.Mathlib.Nat.{add-zero}
use native.Mathlib.Decide.{dec_lt, ℕ_discrete}
use native.Mathlib.Omega.{arith}
use lib.ListN.{length, take, drop, get_or, set, length-append, length-set}
use lib.Seq.{get_or-set_same, get_or-set_other}
use lib.Dec.{eqb}
use borrow.Author.Tests.{eq-eqb, eqb-false}
use Rattle.records.specs.Records.{bytes_at}
use Rattle.scene.specs.declared.labels.Best.{Best}
use Rattle.scene.specs.declared.readers.FeatureName.{FeatureName}
use Rattle.scene.specs.Scene.{NamedFeature, Scene, float_value_at, scene_of}
use Rattle.values.specs.declared.Point.{Point}
use Rattle.scene.specs.Labels.{same_bytes}
use Rattle.scene.specs.Inner.Answers.{features_at, features_by, feature_by, LengthPrefixed}
use Rattle.scene.specs.Laws.Answers.{scene_lists}
use Rattle.names.specs.Inner.Table.{name_of, mark_of, marked, Table, Gap}
use Rattle.register.specs.Register.{Event, resolved, event_of, mentioned, controls_in}
use Rattle.register.specs.Inner.Mentions.{Mention, feature_mentions, events_of}
use Rattle.register.specs.Inner.Gathered.{Taken, MarksTell, no_name, among_features, KnownCleared, grown_all}
use Rattle.register.proofs.TableEntries.{next-take, next-drop}
use Rattle.register.proofs.NameOrder.{before_differs}
use Rattle.register.proofs.ReadMentions.{controls_append, events-append, none_left}
use Rattle.register.proofs.Marks.{fewer_trans, waits_by, taken_fewer, taken_waits}

-- ---- how many entries have a mark
pub marked_same : (t t' : List ℕ) (n : ℕ) → ((i : ℕ) → i < n → get_or t' i 0 ≡ get_or t i 0) → marked t' n ≡ marked t n
unfolding marked
marked_same t t' zero h = refl
marked_same t t' (suc n) h = rw (marked_same t t' n (λ i p. h i (omega (arith, p))), h n (omega arith)) refl

pub marked_less : (t t' : List ℕ) (n k : ℕ) → k < n → ((i : ℕ) → (i ≡ k → ⊥) → get_or t' i 0 ≡ get_or t i 0) → mark_of (get_or t' k 0) ≡ 0
    → marked t n ≡ marked t' n + cond (eqb (mark_of (get_or t k 0)) 0) 0 1
unfolding marked
marked_less t t' zero k p o z = absurd (omega (arith, p))
marked_less t t' (suc n) k p o z = go (ℕ_discrete n k) (marked_less t t' n k)
  where
    go : Dec (n ≡ k) → (k < n → ((i : ℕ) → (i ≡ k → ⊥) → get_or t' i 0 ≡ get_or t i 0) → mark_of (get_or t' k 0) ≡ 0 → marked t n ≡ marked t' n + cond (eqb (mark_of (get_or t k 0)) 0) 0 1)
        → marked t n + cond (eqb (mark_of (get_or t n 0)) 0) 0 1 ≡ marked t' n + cond (eqb (mark_of (get_or t' n 0)) 0) 0 1 + cond (eqb (mark_of (get_or t k 0)) 0) 0 1
    go (yes e) f =
        let gone : eqb (mark_of (get_or t' k 0)) 0 ≡ true = eq-eqb (mark_of (get_or t' k 0)) 0 z in
        let alike = marked_same t t' n (λ i q. o i (λ w. omega (arith, q, w, e))) in
        rw (alike, e, gone) (omega arith)
    go (no d) f =
        let before = f (omega (arith, p, d)) o z in
        rw (o n d) (omega arith)

-- ---- a table whose marks differ
pub table-alike : {more : ℕ} {l t t' : List ℕ} {n : ℕ} → Table more l t n → length t' ≡ length t → ((i : ℕ) → get_or t' i 0 % 33554432 ≡ get_or t i 0 % 33554432) → Table more l t' n
table-alike {more} {l} h e same_bytes =
    record {
      fits = omega arith;
      stands = λ i p. rw (same_bytes i) (h.stands i p);
      rises = λ i j p q. rw (same_bytes i, same_bytes j) (h.rises i j p q);
    }

-- its names are all different
module _ {more : ℕ} {l t : List ℕ} {n : ℕ} (h : Table more l t n) where
  pub one_entry : (i j : ℕ) → i < n → j < n → name_of more l (get_or t i 0) ≡ name_of more l (get_or t j 0) → i ≡ j
  one_entry i j p q e = go (dec_lt i j) (dec_lt j i)
    where
      go : Dec (i < j) → Dec (j < i) → i ≡ j
      go (yes a) b = absurd (before_differs _ _ (h.rises i j a q) e)
      go (no a) (yes b) = absurd (before_differs _ _ (h.rises j i b p) (sym e))
      go (no a) (no b) = omega arith

  pub no_entry : {x : List ℕ} {k : ℕ} → Gap more l t n x k → (i : ℕ) → i < n → name_of more l (get_or t i 0) ≡ x → ⊥
  no_entry {x} {k} g i p e = go (dec_lt i k)
    where
      go : Dec (i < k) → ⊥
      go (yes a) = before_differs _ _ (g.low i a) e
      go (no a) = before_differs _ _ (g.high i (omega arith) p) (sym e)

  pub taken_none : {x : List ℕ} {k : ℕ} → Gap more l t n x k → Taken more l t t n x 0
  taken_none g =
      record {
        table = h;
        names = λ i. refl;
        mark = λ i p e. absurd (no_entry g i p e);
        gone = λ i p e. absurd (no_entry g i p e);
        others = λ i p d. refl;
        from = λ p. absurd (omega (arith, p));
        counted = omega arith;
      }

  module _ (k : ℕ) (within : k < n) (x : List ℕ) (is : name_of more l (get_or t k 0) ≡ x) where
    new : List ℕ
    new = set t k (get_or t k 0 % 33554432)

    at-k : get_or new k 0 ≡ get_or t k 0 % 33554432
    unfolding new
    at-k = get_or-set_same t k (get_or t k 0 % 33554432) 0 (omega (arith, h.fits))

    not-k : (i : ℕ) → (i ≡ k → ⊥) → get_or new i 0 ≡ get_or t i 0
    unfolding new
    not-k i d = get_or-set_other t k i (get_or t k 0 % 33554432) 0 d

    alike : (i : ℕ) → get_or new i 0 % 33554432 ≡ get_or t i 0 % 33554432
    alike i = go (ℕ_discrete i k)
      where
        go : Dec (i ≡ k) → get_or new i 0 % 33554432 ≡ get_or t i 0 % 33554432
        go (yes e) = rw (e, at-k) (omega arith)
        go (no d) = rw (not-k i d) refl

    the_one : (i : ℕ) → i < n → name_of more l (get_or t i 0) ≡ x → i ≡ k
    the_one i p e = one_entry i k p within (e ∙ sym is)

    kept : length new ≡ length t
    unfolding new
    kept = length-set t k (get_or t k 0 % 33554432)

    taken_new : Taken more l t new n x (mark_of (get_or t k 0))
    taken_new =
        record {
          table = table-alike h kept alike;
          names = alike;
          mark = λ i p e. rw (the_one i p e) refl;
          gone = λ i p e. rw (the_one i p e, at-k) (omega arith);
          others = λ i p d. not-k i (λ e. d (rw e is));
          from = λ p. record { at = k; within = within; is = is };
          counted = marked_less t new n k within not-k (rw at-k (omega arith));
        }

    pub taken_found : {t' : List ℕ} {r : ℕ} → r ≡ mark_of (get_or t k 0) → t' ≡ set t k (get_or t k 0 % 33554432) → Taken more l t t' n x r
    unfolding new
    taken_found e f = rw (e, f) taken_new

-- ---- the first host features, one after another
pub mentioned_snoc : (y : List ℕ) (fs : List NamedFeature) (f : NamedFeature) → mentioned y (fs ++ f ∷ []) ≡ (mentioned y fs || same_bytes f.name y)
unfolding mentioned
mentioned_snoc y [] f = or-false (same_bytes f.name y)
mentioned_snoc y (g ∷ fs) f = rw (mentioned_snoc y fs f) (sym (or_assoc (same_bytes g.name y) (mentioned y fs) (same_bytes f.name y)))

abbrev mention_of : ℕ → NamedFeature → Mention
mention_of i f = record { name = f.name; lon = f.lon; lat = Some f.lat; index = i }

mentions_snoc : (i : ℕ) (fs : List NamedFeature) (f : NamedFeature) → feature_mentions i (fs ++ f ∷ []) ≡ feature_mentions i fs ++ mention_of (i + length fs) f ∷ []
unfolding feature_mentions
mentions_snoc i [] f = rw (add-zero i) refl
mentions_snoc i (g ∷ fs) f =
    let e : suc i + length fs ≡ i + suc (length fs) = omega arith in
    rw (mentions_snoc (suc i) fs f, e) refl

pub grown_features : (was : List ℕ → Bool) (i : ℕ) (fs : List NamedFeature) (y : List ℕ) → grown_all was (feature_mentions i fs) y ≡ (was y || mentioned y fs)
unfolding grown_all feature_mentions mentioned
grown_features was i [] y = sym (or-false (was y))
grown_features was i (f ∷ fs) y = grown_features (λ y. was y || same_bytes f.name y) (suc i) fs y ∙ or_assoc (was y) (same_bytes f.name y) (mentioned y fs)

-- how many control points they are
abbrev points : Scene → List NamedFeature → ℕ
points sc fs = length (controls_in (events_of sc 2 no_name (feature_mentions 0 fs)))

module _ (sc : Scene) (fs : List NamedFeature) (f : NamedFeature) where
  last : List Event
  last = events_of sc 2 (grown_all no_name (feature_mentions 0 fs)) (mention_of (0 + length fs) f ∷ [])

  points_snoc : points sc (fs ++ f ∷ []) ≡ points sc fs + length (controls_in last)
  unfolding last
  points_snoc =
      rw (
        mentions_snoc 0 fs f,
        events-append sc 2 no_name (feature_mentions 0 fs) (mention_of (0 + length fs) f ∷ []),
        controls_append (events_of sc 2 no_name (feature_mentions 0 fs)) last,
        length-append (controls_in (events_of sc 2 no_name (feature_mentions 0 fs))) (controls_in last),
      )
      refl

  last_one : is_some (resolved sc f.name) ≡ true → mentioned f.name fs ≡ false → length (controls_in last) ≡ 1
  unfolding last events_of event_of controls_in
  last_one e h = by (resolved sc f.name) refl
    where
      new : grown_all no_name (feature_mentions 0 fs) f.name ≡ false
      new = grown_features no_name 0 fs f.name ∙ h

      by : (p : Option Point) → resolved sc f.name ≡ p → length (controls_in last) ≡ 1
      by None p = absurd (false≢true (rw p at e))
      by (Some s) p = rw (p, new) refl

pub record Forgets (l : List ℕ) (more : ℕ) (t₀ t : List ℕ) (n i q k : ℕ) : Type 0 where
  pub few : k ≤ i
  pub rest : features_at l q ≡ drop k (scene_of l).features
  pub done : KnownCleared l more t₀ t n k

pub forgets_none : {l : List ℕ} {more : ℕ} {t : List ℕ} {n i : ℕ} → Table more l t n → Forgets l more t t n i 0 0
unfolding mentioned
forgets_none {l} h =
    record {
      few = omega arith;
      rest = sym (scene_lists l).0;
      done =
          record {
            table = h;
            names = λ k. refl;
            fewer = λ i p. omega arith;
            waits = λ spots w. waits_by (λ y. refl) w;
            counted = λ spots w. omega arith;
          };
    }

-- what is so for the first k host features is so for the first i, where these are the same
as_many : {l : List ℕ} {more : ℕ} {t₀ t : List ℕ} {n k i : ℕ} → take k (scene_of l).features ≡ take i (scene_of l).features → KnownCleared l more t₀ t n k → KnownCleared l more t₀ t n i
as_many e h =
    record {
      table = h.table;
      names = h.names;
      fewer = h.fewer;
      waits = λ spots w. waits_by (λ y. rw e refl) (h.waits spots w);
      counted = λ spots w. rw (← e) (h.counted spots w);
    }

module _ {l : List ℕ} {more : ℕ} {t₀ t : List ℕ} {n i q k : ℕ} (h : Forgets l more t₀ t n i q k) where
  pub forgets_ends : features_at l q ≡ [] → KnownCleared l more t₀ t n i
  forgets_ends e = as_many (none_left (scene_of l).features k i (sym h.rest ∙ e) h.few) h.done

  module _ (r : FeatureName) (a : features_at l q ≡ features_by l (feature_by l (Ok r))) where
    module _ {t' : List ℕ} {m : ℕ} (d : Taken more l t t' n (bytes_at l r.at r.len) m) where
      abbrev feature : NamedFeature
      feature = record { name = bytes_at l r.at r.len; lon = float_value_at l (r.at + r.len); lat = float_value_at l (r.at + r.len + 8) }

      left : drop k (scene_of l).features ≡ feature ∷ features_at l r.next
      left = sym h.rest ∙ a

      longer : take (k + 1) (scene_of l).features ≡ take k (scene_of l).features ++ feature ∷ []
      longer = next-take k (scene_of l).features (features_at l r.next) feature left

      one_more : (spots : List Best) → MarksTell (scene_of l) more l t n spots (among_features (scene_of l) k) → (b : Bool) → eqb m 0 ≡ b
          → cond (eqb m 0) 0 1 ≤ length (controls_in (last (scene_of l) (take k (scene_of l).features) feature))
      one_more spots w true p = rw p (omega arith)
      one_more spots w false p =
          let z : 1 ≤ m = omega (arith, eqb-false m 0 p) in
          let o = d.from z in
          let marks : 1 ≤ mark_of (get_or t o.at 0) = omega (arith, d.mark o.at o.within o.is) in
          let found : is_some (resolved (scene_of l) feature.name) ≡ true = rw o.is at (w.resolves o.at o.within marks) in
          let new : mentioned feature.name (take k (scene_of l).features) ≡ false = rw o.is at (w.unnamed o.at o.within marks) in
          rw p (omega (arith, last_one (scene_of l) (take k (scene_of l).features) feature found new))

      pub forgets_more : k < i → Forgets l more t₀ t' n i r.next (k + 1)
      forgets_more p =
          record {
            few = omega (arith, p);
            rest = sym (next-drop k (scene_of l).features (features_at l r.next) feature left);
            done =
                record {
                  table = d.table;
                  names = λ j. d.names j ∙ h.done.names j;
                  fewer = fewer_trans t₀ t t' n h.done.fewer (taken_fewer d);
                  waits = λ spots w. waits_by (λ y. rw longer (mentioned_snoc y (take k (scene_of l).features) feature)) (taken_waits d (h.done.waits spots w));
                  counted = λ spots w. rw (longer, points_snoc (scene_of l) (take k (scene_of l).features) feature) (omega (arith, h.done.counted spots w, d.counted, one_more spots (h.done.waits spots w) (eqb m 0) refl));
                };
          }

pub behind_taken : {l t t' : List ℕ} {at len more n r : ℕ} → LengthPrefixed l at len → Taken more l t t' n (bytes_at l (at - 1 + 1) len) r → Taken more l t t' n (bytes_at l at len) r
behind_taken {at = at} h d =
    let e : at - 1 + 1 ≡ at = omega (arith, h.behind) in
    rw e at d
