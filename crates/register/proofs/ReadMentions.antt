-- Mentions one after another: what they come to, and a batch that is read.
use Rattle.std.specs.Prelude.{Option, None, Some, is_some, Ok, Err}
use mathlib.Core.Path.{◌≡◌, refl, sym, ap, ◌∙◌}
use mathlib.Core.Logic.{◌⊎◌, inl, inr}
use mathlib.Core.Bool.{Bool, true, false, ◌||◌, or-true, false≢true}
use mathlib.Core.List.{List, [], ◌∷◌, ◌++◌, append_assoc, append-nil}
use Prim.Native.Nat.{ℕ, zero, suc, ◌+◌, ◌-◌, ◌≤◌, ◌<◌}
use native.Mathlib.Numerals.{add-one, unary_clauses}
use native.Mathlib.Omega.{arith}
use lib.Dec.{leb}
use lib.ListN.{length, take, drop, get_or, length-append}
use lib.Seq.{take-nil}
use lib.Ieee.{Float}
use borrow.Author.Tests.{eq-eqb, ne_eqb, leb-true, leb-false}
use Rattle.stream.specs.Payload.{payload}
use Rattle.records.specs.Records.{bytes_at}
use Rattle.scene.specs.declared.labels.Best.{Best}
use Rattle.scene.specs.Scene.{Scene, scene_of}
use Rattle.values.specs.declared.Point.{Point}
use Rattle.fit.specs.declared.Control.{Control}
use Rattle.names.specs.Inner.Table.{mark_of, Table, Contains}
use Rattle.names.specs.Inner.Batch.{slot_point}
use Rattle.register.specs.declared.controls.Tally.{Tally}
use Rattle.register.specs.declared.mentions.Cursor.{Cursor}
use Rattle.register.specs.declared.mentions.Mention as code-mention
use Rattle.register.specs.Register.{Event, control, warn, resolved, event_of, controls_in}
use Rattle.values.specs.Warnings.{Warning}
use Rattle.register.specs.Inner.Mentions.{Mention, event_with, grown_by, events_of, mentions_at, more_of, mention_by, Follows, Asked}
use Rattle.register.specs.Inner.Gathered.{numbers_in, Holds, among, named, Taken, MarksTell, BeforeRead, again_of, grown_all, AfterRead, point_in, Readable, Reads}
use Rattle.register.proofs.Marks.{same_self, fewer_trans, in_stays, waits_by, taken_fewer, taken_waits}
use Rattle.register.proofs.TallyLaws.{holds_as}

-- ---- control points and their numbers in two lists of events, one behind the other
pub controls_append : (es fs : List Event) → controls_in (es ++ fs) ≡ controls_in es ++ controls_in fs
unfolding controls_in
controls_append [] fs = refl
controls_append (control c ∷ es) fs = rw (controls_append es fs) refl
controls_append (warn w ∷ es) fs = controls_append es fs

pub numbers_append : (j : ℕ) (es fs : List Event) → numbers_in j (es ++ fs) ≡ numbers_in j es ++ numbers_in (j + length es) fs
unfolding numbers_in
numbers_append j [] fs = simp unary_clauses refl
numbers_append j (control c ∷ es) fs =
    let e : suc j + length es ≡ j + suc (length es) = omega arith in
    rw (numbers_append (suc j) es fs, e) refl
numbers_append j (warn w ∷ es) fs =
    let e : suc j + length es ≡ j + suc (length es) = omega arith in
    rw (numbers_append (suc j) es fs, e) refl

-- ---- the events of two lists of mentions, one behind the other
pub events-length : (sc : Scene) (again : ℕ) (was : List ℕ → Bool) (ms : List Mention) → length (events_of sc again was ms) ≡ length ms
unfolding events_of
events-length sc again was [] = refl
events-length sc again was (m ∷ ms) = ap suc (events-length sc again (grown_by was m.name m.lat) ms)

pub grown_append : (was : List ℕ → Bool) (ms ns : List Mention) (y : List ℕ) → grown_all was (ms ++ ns) y ≡ grown_all (grown_all was ms) ns y
unfolding grown_all
grown_append was [] ns y = refl
grown_append was (m ∷ ms) ns y = grown_append (grown_by was m.name m.lat) ms ns y

pub events-append : (sc : Scene) (again : ℕ) (was : List ℕ → Bool) (ms ns : List Mention)
    → events_of sc again was (ms ++ ns) ≡ events_of sc again was ms ++ events_of sc again (grown_all was ms) ns
unfolding events_of grown_all
events-append sc again was [] ns = refl
events-append sc again was (m ∷ ms) ns = ap (λ (es : List Event). event_with sc again (was m.name) m m.lat ∷ es) (events-append sc again (grown_by was m.name m.lat) ms ns)

-- ---- a batch is read: some mentions, then more
pub read_nothing : {l : List ℕ} {lons : Bool} {t : List ℕ} {n : ℕ} {spots : List Best} (j : ℕ) {ms : List Mention} {g : Tally} {held : List Control} {kept : List ℕ}
    → (h : BeforeRead l lons ms t n spots g held kept) → AfterRead l lons [] t t n spots j h.was h.b h.cs h.js g held kept
unfolding grown_all controls_in numbers_in events_of
read_nothing j h =
    record {
      names = λ k. refl;
      fewer = λ i d. omega arith;
      waits = h.waits;
      holds = rw (append-nil h.cs, append-nil h.js) h.holds;
      counted = omega arith;
    }

module _ {l : List ℕ} {lons : Bool} {ms ns : List Mention} {t t' t'' : List ℕ} {n : ℕ} {spots : List Best} {j : ℕ} {was : List ℕ → Bool} {b : Bool} {cs : List Control} {js : List ℕ} {g g' : Tally} {held held' : List Control} {kept kept' : List ℕ} where
  pub read_more : AfterRead l lons ms t t' n spots j was b cs js g held kept
      → AfterRead l lons ns t' t'' n spots (j + length ms) (grown_all was ms) b (cs ++ controls_in (events_of (scene_of l) (again_of lons) was ms)) (js ++ numbers_in j (events_of (scene_of l) (again_of lons) was ms)) g' held' kept'
      → AfterRead l lons (ms ++ ns) t t'' n spots j was b cs js g' held' kept'
  read_more d e =
      let es = events_of (scene_of l) (again_of lons) was ms in
      let fs = events_of (scene_of l) (again_of lons) (grown_all was ms) ns in
      let a : events_of (scene_of l) (again_of lons) was (ms ++ ns) ≡ es ++ fs = events-append (scene_of l) (again_of lons) was ms ns in
      let c : controls_in (es ++ fs) ≡ controls_in es ++ controls_in fs = controls_append es fs in
      let k : numbers_in j (es ++ fs) ≡ numbers_in j es ++ numbers_in (j + length ms) fs = rw (← events-length (scene_of l) (again_of lons) was ms) (numbers_append j es fs) in
      record {
        names = λ i. e.names i ∙ d.names i;
        fewer = fewer_trans t t' t'' n d.fewer e.fewer;
        waits = waits_by (grown_append was ms ns) e.waits;
        holds = rw (a, c, k, ← append_assoc cs (controls_in es) (controls_in fs), ← append_assoc js (numbers_in j es) (numbers_in (j + length ms) fs)) e.holds;
        counted = rw (a, c, length-append (controls_in es) (controls_in fs)) (omega (arith, d.counted, e.counted));
      }

-- one mention more of those that are ready
module _ {l : List ℕ} {lons : Bool} {all ms : List Mention} {m : Mention} {t t' t'' : List ℕ} {n : ℕ} {spots : List Best} {j : ℕ} {g g' g'' : Tally} {held held' held'' : List Control} {kept kept' kept'' : List ℕ}
    (h : BeforeRead l lons all t n spots g held kept) where
  pub read_on : ((x : List ℕ) → among x (m ∷ []) ≡ true → among x all ≡ true)
      → AfterRead l lons ms t t' n spots j h.was h.b h.cs h.js g' held' kept'
      → ((k : BeforeRead l lons (m ∷ []) t' n spots g' held' kept') → AfterRead l lons (m ∷ []) t' t'' n spots (j + length ms) k.was k.b k.cs k.js g'' held'' kept'')
      → AfterRead l lons (ms ++ m ∷ []) t t'' n spots j h.was h.b h.cs h.js g'' held'' kept''
  read_on one d f =
      read_more d
      (f
      (record {
        was = grown_all h.was ms;
        b = h.b;
        cs = h.cs ++ controls_in (events_of (scene_of l) (again_of lons) h.was ms);
        js = h.js ++ numbers_in j (events_of (scene_of l) (again_of lons) h.was ms);
        waits = d.waits;
        inside = λ x k. in_stays t t' d.names (h.inside x (one x k));
        slots = λ b i k. omega (arith, d.fewer i k, h.slots b i k);
        holds = d.holds;
      }))

-- ---- one mention
-- its name is among the entries
here : {x : List ℕ} {lat : Float} (m : Mention) → m.name ≡ x → m.lat ≡ Some lat → among x (m ∷ []) ≡ true
unfolding among
here {x} m e f = rw (f, e, same_self x) refl

module _ {l : List ℕ} {lons : Bool} {m : Mention} {t : List ℕ} {n : ℕ} {spots : List Best} {g : Tally} {held : List Control} {kept : List ℕ} (h : BeforeRead l lons (m ∷ []) t n spots g held kept) (j : ℕ) where
  abbrev event : Event
  event = event_with (scene_of l) (again_of lons) (h.was m.name) m m.lat

  -- a warning
  module _ {w : Warning} (e : event ≡ warn w) where
    warn_controls : controls_in (events_of (scene_of l) (again_of lons) h.was (m ∷ [])) ≡ []
    unfolding events_of controls_in
    warn_controls = rw e refl

    warn_numbers : numbers_in j (events_of (scene_of l) (again_of lons) h.was (m ∷ [])) ≡ []
    unfolding events_of numbers_in
    warn_numbers = rw e refl

    warn_holds : Holds h.b (h.cs ++ controls_in (events_of (scene_of l) (again_of lons) h.was (m ∷ []))) (h.js ++ numbers_in j (events_of (scene_of l) (again_of lons) h.was (m ∷ []))) g held kept
    warn_holds = rw (warn_controls, warn_numbers, append-nil h.cs, append-nil h.js) h.holds

  -- no latitude
  pub read_lost : m.lat ≡ None → AfterRead l lons (m ∷ []) t t n spots j h.was h.b h.cs h.js g held kept
  unfolding grown_all
  read_lost f =
      record {
        names = λ k. refl;
        fewer = λ i d. omega arith;
        waits = waits_by (λ y. rw f refl) h.waits;
        holds = warn_holds {w = record { kind = 2; index = m.index }} (rw f refl);
        counted = omega arith;
      }

  module _ {lat : Float} (f : m.lat ≡ Some lat) {t' : List ℕ} {r : ℕ} (k : Taken (more_of lons) l t t' n m.name r) where
    now_waits : MarksTell (scene_of l) (more_of lons) l t' n spots (grown_all h.was (m ∷ []))
    unfolding grown_all
    now_waits = waits_by (λ y. rw f refl) (taken_waits k h.waits)

    -- no mark
    pub read_again : r ≡ 0 → AfterRead l lons (m ∷ []) t t' n spots j h.was h.b h.cs h.js g held kept
    unfolding event_of
    read_again z =
        record {
          names = k.names;
          fewer = taken_fewer k;
          waits = now_waits;
          holds = warns (resolved (scene_of l) m.name) refl (h.was m.name) refl (rw d.is at (h.waits.no_more d.at d.within (sym (k.mark d.at d.within d.is) ∙ z)));
          counted = omega (arith, rw (eq-eqb r 0 z) at k.counted);
        }
      where
        d : Contains (more_of lons) l t n m.name
        d = h.inside m.name (here m refl f)

        warns : (p : Option Point) → resolved (scene_of l) m.name ≡ p → (b : Bool) → h.was m.name ≡ b → (is_some (resolved (scene_of l) m.name) ≡ false) ⊎ (h.was m.name ≡ true)
            → Holds h.b (h.cs ++ controls_in (events_of (scene_of l) (again_of lons) h.was (m ∷ []))) (h.js ++ numbers_in j (events_of (scene_of l) (again_of lons) h.was (m ∷ []))) g held kept
        warns None p b q o = warn_holds {w = record { kind = 2; index = m.index }} (rw (f, p) refl)
        warns (Some s) p true q o = warn_holds {w = record { kind = again_of lons; index = m.index }} (rw (f, p, q) refl)
        warns (Some s) p false q (inl o) = absurd (false≢true (sym o ∙ rw p refl))
        warns (Some s) p false q (inr o) = absurd (false≢true (sym q ∙ o))

    -- a mark: a control point
    module _ (z : 1 ≤ r) where
      first : Contains (more_of lons) l t n m.name
      first = k.from z

      mark : mark_of (get_or t first.at 0) ≡ r
      mark = sym (k.mark first.at first.within first.is)

      alone : h.was m.name ≡ false
      alone = rw first.is at (h.waits.unnamed first.at first.within (omega (arith, mark)))

      found : is_some (resolved (scene_of l) m.name) ≡ true
      found = rw first.is at (h.waits.resolves first.at first.within (omega (arith, mark)))

      at_spot : r ≤ 64 → resolved (scene_of l) m.name ≡ slot_point spots r
      at_spot q = rw (first.is, mark) at (h.waits.spot first.at first.within (omega (arith, mark)) (omega (arith, mark)))

      unknown : 64 < r → (b : Bool) → h.b ≡ b → h.b ≡ false
      unknown q true e = absurd (omega (arith, mark, h.slots e first.at first.within))
      unknown q false e = e

      -- at the point p
      module _ (p : Point) (e : resolved (scene_of l) m.name ≡ Some p) where
        abbrev point : Control
        point = record { x = p.x; y = p.y; lon = m.lon; lat = lat }

        events_are : events_of (scene_of l) (again_of lons) h.was (m ∷ []) ≡ control point ∷ []
        unfolding events_of event_of
        events_are = rw (f, e, alone) refl

        controls_are : controls_in (events_of (scene_of l) (again_of lons) h.was (m ∷ [])) ≡ point ∷ []
        unfolding controls_in
        controls_are = rw events_are refl

        numbers_are : numbers_in j (events_of (scene_of l) (again_of lons) h.was (m ∷ [])) ≡ j ∷ []
        unfolding numbers_in
        numbers_are = rw events_are refl

        module _ (c : Control) (a : c.lon ≡ m.lon) (o : c.lat ≡ lat) (s : r ≤ 64 → Some (point_in c) ≡ slot_point spots r) {g' : Tally} {held' : List Control} {kept' : List ℕ}
            (y : Holds h.b (h.cs ++ c ∷ []) (h.js ++ j ∷ []) g' held' kept') where
          known : r ≤ 64 → p ≡ point_in c
          known q =
              let v : Some p ≡ Some (point_in c) = sym e ∙ at_spot q ∙ sym (s q) in
              cc

          is-point : (b : Bool) → leb r 64 ≡ b → Holds h.b (h.cs ++ point ∷ []) (h.js ++ j ∷ []) g' held' kept'
          is-point true q = rw (known (leb-true r 64 q), ← a, ← o) y
          is-point false q = holds_as h.cs c point (unknown (leb-false r 64 q) h.b refl) a o y

          read_point : AfterRead l lons (m ∷ []) t t' n spots j h.was h.b h.cs h.js g' held' kept'
          read_point =
              record {
                names = k.names;
                fewer = taken_fewer k;
                waits = now_waits;
                holds = rw (controls_are, numbers_are) (is-point (leb r 64) refl);
                counted = omega (arith, rw (ne_eqb r 0 (λ q. omega arith)) at k.counted, ap length controls_are);
              }

      pub read_first : (c : Control) → c.lon ≡ m.lon → c.lat ≡ lat → (r ≤ 64 → Some (point_in c) ≡ slot_point spots r) → {g' : Tally} {held' : List Control} {kept' : List ℕ}
          → Holds h.b (h.cs ++ c ∷ []) (h.js ++ j ∷ []) g' held' kept'
          → AfterRead l lons (m ∷ []) t t' n spots j h.was h.b h.cs h.js g' held' kept'
      read_first c a o s {g'} {held'} {kept'} y = by (resolved (scene_of l) m.name) refl
        where
          by : (p : Option Point) → resolved (scene_of l) m.name ≡ p → AfterRead l lons (m ∷ []) t t' n spots j h.was h.b h.cs h.js g' held' kept'
          by None e = absurd (false≢true (rw e at found))
          by (Some p) e = read_point p e c a o s y

-- the name of a mention is taken, behind the length at p
pub taken_name : {more : ℕ} {l t t' : List ℕ} {n r : ℕ} (lons : Bool) (m : code-mention.Mention) → 1 ≤ m.at → more ≡ more_of lons
    → Taken more l t t' n (bytes_at l (m.at - 1 + 1) m.len) r → Taken (more_of lons) l t t' n (mention_by l m).name r
taken_name lons m h e k =
    let f : m.at - 1 + 1 ≡ m.at = omega arith in
    rw (e, f) at k

-- ---- the next of the first `count` mentions
module _ (m : Mention) (rest : List Mention) where
  -- its name is one of theirs
  among_taken : (x : List ℕ) (ms : List Mention) (k count : ℕ) → drop k ms ≡ m ∷ rest → k < count → among x (m ∷ []) ≡ true → among x (take count ms) ≡ true
  unfolding among
  among_taken x [] zero count e h a = let z : ◌≡◌ {A = ℕ} 0 1 = cc in absurd (omega arith)
  among_taken x [] (suc k) count e h a = let z : ◌≡◌ {A = ℕ} 0 1 = cc in absurd (omega arith)
  among_taken x (y ∷ ms) zero zero e h a = absurd (omega arith)
  among_taken x (y ∷ ms) zero (suc count) e h a =
      let f : y ≡ m = cc in
      rw f (by (named x m m.lat) (among x (take count ms)) a)
    where
      by : (b c : Bool) → (b || false) ≡ true → (b || c) ≡ true
      by true c h = refl
      by false c h = absurd (false≢true h)
  among_taken x (y ∷ ms) (suc k) zero e h a = absurd (omega arith)
  among_taken x (y ∷ ms) (suc k) (suc count) e h a = rw (among_taken x ms k count e (omega arith) a) (or-true (named x y y.lat))

module _ {A : Type 0} where
  pub next_of : (y : A) (ys xs : List A) (i : ℕ) → drop i xs ≡ y ∷ ys → (take (suc i) xs ≡ take i xs ++ y ∷ []) × (drop (suc i) xs ≡ ys) × (length (take i xs) ≡ i)
  next_of y ys [] zero e = let z : ◌≡◌ {A = ℕ} 0 1 = cc in absurd (omega arith)
  next_of y ys [] (suc i) e = let z : ◌≡◌ {A = ℕ} 0 1 = cc in absurd (omega arith)
  next_of y ys (x ∷ xs) zero e = (cc, cc, refl)
  next_of y ys (x ∷ xs) (suc i) e =
      let t = next_of y ys xs i e in
      (ap (λ (r : List A). x ∷ r) t.0, t.1, ap suc t.2)

  pub none_left : (xs : List A) (i count : ℕ) → drop i xs ≡ [] → i ≤ count → take i xs ≡ take count xs
  none_left [] i count e h = simp take-nil
  none_left (x ∷ xs) zero count e h = let z : ◌≡◌ {A = ℕ} 0 1 = cc in absurd (omega arith)
  none_left (x ∷ xs) (suc i) zero e h = absurd (omega arith)
  none_left (x ∷ xs) (suc i) (suc count) e h = ap (λ (r : List A). x ∷ r) (none_left xs i count e (omega arith))

-- ---- the loop: the first k of `count` mentions from c on are read, and the others stand at `at`
pub record Going (s : List ℕ) (lons : Bool) (t₀ : List ℕ) (n : ℕ) (spots : List Best) (count base : ℕ) (held₀ : List Control) (kept₀ : List ℕ) (g : Tally) (c : Cursor) (t starts : List ℕ) (held : List Control) (kept : List ℕ) (all : Tally) (at : Cursor) (k : ℕ) : Type 0 where
  pub within : k ≤ count
  pub fits : base + count < 4294967296
  pub follows : Follows s lons at starts
  pub table : Table (more_of lons) (payload s) t n
  pub spots_room : length spots ≡ 64
  pub held_room : length held ≡ 64
  pub kept-room : length kept ≡ 64
  pub rest : drop k (mentions_at (payload s) lons c) ≡ mentions_at (payload s) lons at
  pub so_far_is : (h : BeforeRead (payload s) lons (take count (mentions_at (payload s) lons c)) t₀ n spots g held₀ kept₀)
      → AfterRead (payload s) lons (take k (mentions_at (payload s) lons c)) t₀ t n spots base h.was h.b h.cs h.js all held kept

pub go_begin : {s : List ℕ} {lons : Bool} {t : List ℕ} {n : ℕ} {spots : List Best} {starts : List ℕ} (count base : ℕ) {held : List Control} {kept : List ℕ} {g : Tally} {c : Cursor}
    → (base + count < 4294967296) × Readable s lons t n spots held kept × Follows s lons c starts
    → Going s lons t n spots count base held kept g c t starts held kept g c 0
go_begin count base p =
    record {
      within = omega arith;
      fits = p.0;
      follows = p.2;
      table = p.1.table;
      spots_room = p.1.spots_room;
      held_room = p.1.control_room.held_room;
      kept-room = p.1.control_room.kept-room;
      rest = refl;
      so_far_is = λ h. read_nothing base h;
    }

module _ {s : List ℕ} {lons : Bool} {t₀ : List ℕ} {n : ℕ} {spots : List Best} {count base : ℕ} {held₀ : List Control} {kept₀ : List ℕ} {g : Tally} {c : Cursor} {t starts : List ℕ} {held : List Control} {kept : List ℕ} {all : Tally} {at : Cursor} {k : ℕ}
    (d : Going s lons t₀ n spots count base held₀ kept₀ g c t starts held kept all at k) where
  pub go_end : count ≤ k → Reads (payload s) lons (take count (mentions_at (payload s) lons c)) n spots base t₀ g held₀ kept₀ t all held kept
  go_end e h =
      let f : k ≡ count = omega (arith, d.within) in
      rw f at (d.so_far_is h)

  -- no mention is left
  module _ {end : Cursor} {starts' : List ℕ} (a : Asked s lons at (Err end) starts') where
    pub go_none : Reads (payload s) lons (take count (mentions_at (payload s) lons c)) n spots base t₀ g held₀ kept₀ t all held kept
    go_none h =
        let f : drop k (mentions_at (payload s) lons c) ≡ [] = d.rest ∙ a.lists in
        rw (none_left (mentions_at (payload s) lons c) k count f d.within) at (d.so_far_is h)

  -- one more
  module _ (m : code-mention.Mention) {starts' : List ℕ} (a : Asked s lons at (Ok m) starts') where
    pub go_on : k < count → {t' : List ℕ} {held' : List Control} {kept' : List ℕ} {all' : Tally}
        → Reads (payload s) lons (mention_by (payload s) m ∷ []) n spots (base + k) t all held kept t' all' held' kept'
        → Table (more_of lons) (payload s) t' n
        → length held' ≡ length held → length kept' ≡ length kept
        → Going s lons t₀ n spots count base held₀ kept₀ g c t' starts' held' kept' all' m.next (k + 1)
    go_on less {t'} {held'} {kept'} {all'} f tab lf lk =
        let l = payload s in
        let ms = mentions_at l lons c in
        let q : drop k ms ≡ mention_by l m ∷ mentions_at l lons m.next = d.rest ∙ a.lists in
        let o = next_of (mention_by l m) (mentions_at l lons m.next) ms k q in
        record {
          within = omega arith;
          fits = d.fits;
          follows = a.follows;
          table = tab;
          spots_room = d.spots_room;
          held_room = lf ∙ d.held_room;
          kept-room = lk ∙ d.kept-room;
          rest = rw (add-one k) o.1;
          so_far_is = λ h. rw (add-one k, o.0) (read_on h (λ x z. among_taken (mention_by l m) (mentions_at l lons m.next) x ms k count q less z) (d.so_far_is h) (rw o.2 f));
        }
