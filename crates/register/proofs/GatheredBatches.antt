-- A batch of names, from the walk over the labels on, and all batches of a part.
use Rattle.std.specs.Prelude.{is_some}
use mathlib.Core.Path.{◌≡◌, refl, sym, ap, ◌∙◌}
use mathlib.Core.Logic.{◌⊎◌, inl, inr}
use mathlib.Core.Bool.{Bool, true, false, false≢true}
use mathlib.Core.List.{List, [], ◌++◌, append_assoc, append-nil}
use Prim.Native.Nat.{ℕ, zero, suc, ◌+◌, ◌-◌, ◌≤◌, ◌<◌}
use native.Mathlib.Omega.{arith}
use lib.ListN.{length, take, drop, get_or, replicate, length-append, length-drop}
use lib.Seq.{take-length, take_all, drop-drop, length-take-le}
use lib.Dec.{eqb, ltb}
use borrow.Author.Tests.{ltb-true, ltb-false, eqb-true, eqb-false}
use Rattle.stream.specs.Payload.{payload}
use Rattle.scene.specs.declared.labels.Best.{Best}
use Rattle.scene.specs.Scene.{Scene, scene_of}
use Rattle.scene.specs.Labels.{point_of_label}
use Rattle.scene.specs.Inner.Answers.{LabelsFrom, VariablesFrom, places_at, items_at}
use Rattle.scene.specs.Laws.Answers.{scene_lists, all_labels}
use Rattle.scene.specs.Laws.Rising.{variables_rising}
use Rattle.records.specs.Layout.{laid_out}
use Rattle.fit.specs.declared.Control.{Control}
use Rattle.names.specs.Inner.Table.{name_of, mark_of, marked, Contains}
use Rattle.names.specs.Inner.Batch as batch
use Rattle.register.specs.declared.controls.Tally.{Tally}
use Rattle.register.specs.declared.controls.FilledBatch as code-filled
use Rattle.register.specs.declared.mentions.Cursor.{Cursor}
use Rattle.register.specs.Register.{Event, resolved, all_within_limits, feature_events, variable_events, events, controls_in, controls_of}
use Rattle.register.specs.declared.survey.Survey.{Survey}
use Rattle.register.specs.Inner.Survey.{lons_in, Surveyed}
use Rattle.register.specs.Inner.Mentions.{Mention, feature_mentions, events_of, mentions_at, more_of, Follows}
use Rattle.register.specs.Inner.Gathered.{numbers_in, Holds, Gathers, Filling, Batch, MarksTell, no_name, among_features, KnownCleared, BeforeRead, AfterRead, again_of, part_events, base_of, before_of, batch_events, Earlier, first_cursor, ControlRoom, Appends, GathersBatch, GathersPart}
use Rattle.register.proofs.VariableSteps.{along}
use Rattle.register.proofs.Marks.{in_stays}
use Rattle.register.proofs.ReadMentions.{controls_append, numbers_append}
use Rattle.register.proofs.EventCounts.{feature-events}
use Rattle.register.proofs.PartEvents.{features_length, lons-length, all_features, among_grown, none_come, part_mentions, so_far, so_far-length, part-whole, part_batch, part_earlier}

-- ---- after the walk over the labels
module _ {more : ℕ} {l t t' : List ℕ} {n : ℕ} {spots : List Best} {used p : ℕ} (d : batch.LabelsMatched more l t t' n spots used p) (w : LabelsFrom l p) where
  resolves_so : (i : ℕ) → point_of_label (name_of more l (get_or t i 0)) (places_at l p) (items_at l p) ≡ resolved (scene_of l) (name_of more l (get_or t' i 0))
  resolves_so i = rw (d.names i, (scene_lists l).2, (scene_lists l).3) (all_labels l p (name_of more l (get_or t i 0)) w refl)

  pub noted_waits : MarksTell (scene_of l) more l t' n spots no_name
  noted_waits =
      record {
        no_more = λ i h m. inl (ap is_some (sym (resolves_so i) ∙ d.none_has i h m));
        resolves = λ i h m. rw (← (resolves_so i)) (d.one_has i h m);
        unnamed = λ i h m. refl;
        spot = λ i h m k. sym (resolves_so i) ∙ d.spot i h m k;
      }

  pub unused_lost : used ≡ 0 → (x : List ℕ) → Contains more l t n x → is_some (resolved (scene_of l) x) ≡ false
  unused_lost e x k =
      let a : name_of more l (get_or t' k.at 0) ≡ x = rw (d.names k.at) k.is in
      rw (← a) (ap is_some (sym (resolves_so k.at) ∙ d.none_has k.at k.within (d.unused e k.at k.within)))

none-marked : (t : List ℕ) (n : ℕ) → ((i : ℕ) → i < n → mark_of (get_or t i 0) ≡ 0) → marked t n ≡ 0
unfolding marked
none-marked t zero h = refl
none-marked t (suc n) h = rw (none-marked t n (λ i k. h i (omega arith)), h n (omega arith)) refl

-- ---- Holds, where more is known than is asked for
pub holds_less : {b : Bool} {cs : List Control} {js : List ℕ} {g : Tally} {held : List Control} {kept : List ℕ} → Holds true cs js g held kept → Holds b cs js g held kept
holds_less h =
    record { count = h.count; within = h.within; controls = λ e. h.controls refl; numbers = λ e. h.numbers refl; as_many = h.as_many; room_for = h.room_for; kept-room = h.kept-room }

holds_more : {b : Bool} {cs : List Control} {js : List ℕ} {g : Tally} {held : List Control} {kept : List ℕ} → (b ≡ true) ⊎ (64 < length cs) → Holds b cs js g held kept → Holds true cs js g held kept
holds_more (inl e) h =
    record { count = h.count; within = h.within; controls = λ _. h.controls e; numbers = λ _. h.numbers e; as_many = h.as_many; room_for = h.room_for; kept-room = h.kept-room }
holds_more (inr m) h =
    record { count = h.count; within = h.within; controls = λ _ k. absurd (omega arith); numbers = λ _ k. absurd (omega arith); as_many = h.as_many; room_for = h.room_for; kept-room = h.kept-room }

by_ltb : (a b : ℕ) → (ltb a b ≡ true) ⊎ (b ≤ a)
by_ltb a b = by (ltb a b) refl
  where
    by : (t : Bool) → ltb a b ≡ t → (t ≡ true) ⊎ (b ≤ a)
    by true e = inl refl
    by false e = inr (ltb-false a b e)

-- ---- a batch is read
module _ (s : List ℕ) (lons : Bool) (c : Cursor) (f : code-filled.FilledBatch) (base : ℕ) where
  abbrev sc : Scene
  sc = scene_of (payload s)

  abbrev ms : List Mention
  ms = take f.count (mentions_at (payload s) lons c)

  abbrev es : List Event
  es = batch_events (payload s) lons base ms

  module _ {t t₁ : List ℕ} {spots : List Best} {used p : ℕ}
      (fill : Filling s lons c f t) (d : batch.LabelsMatched (more_of lons) (payload s) t t₁ f.n spots used p) (w : LabelsFrom (payload s) p) where
    -- nothing has one of its names
    module _ {cs : List Control} {js : List ℕ} {g : Tally} {held : List Control} {kept : List ℕ} (h : Holds true cs js g held kept) where
      pub batch_lost : used ≡ 0 → Holds true (cs ++ controls_in es) (js ++ numbers_in base es) g held kept
      batch_lost e =
          let o = none_come sc (again_of lons) (among_features sc (before_of lons (length sc.features) base)) ms (λ x k. unused_lost d w e x (fill.all x k)) base in
          rw (o.0, o.1, append-nil, append-nil) h

      module _ {t₂ : List ℕ} (forgot : KnownCleared (payload s) (more_of lons) t₁ t₂ f.n (before_of lons (length sc.features) base)) where
        pub few : ltb (marked t₁ f.n) 65 ≡ true → (i : ℕ) → i < f.n → mark_of (get_or t₂ i 0) ≤ 64
        few e i k = by (eqb (mark_of (get_or t₁ i 0)) 65) refl
          where
            by : (b : Bool) → eqb (mark_of (get_or t₁ i 0)) 65 ≡ b → mark_of (get_or t₂ i 0) ≤ 64
            by true z = absurd (omega (arith, ltb-true (marked t₁ f.n) 65 e, d.full i k (eqb-true (mark_of (get_or t₁ i 0)) 65 z)))
            by false z = let q = eqb-false (mark_of (get_or t₁ i 0)) 65 z in omega (arith, forgot.fewer i k, d.most i k)

        abbrev pub ready : BeforeRead (payload s) lons ms t₂ f.n spots g held kept
        ready =
            record {
              was = among_features sc (before_of lons (length sc.features) base);
              b = ltb (marked t₁ f.n) 65;
              cs = cs;
              js = js;
              waits = forgot.waits spots (noted_waits d w);
              inside = λ x k. in_stays t₁ t₂ forgot.names (in_stays t t₁ d.names (fill.all x k));
              slots = few;
              holds = holds_less h;
            }

        module _ (before : Earlier sc lons base cs) {t₃ : List ℕ} {r : Tally} {held' : List Control} {kept' : List ℕ}
            (o : AfterRead (payload s) lons ms t₂ t₃ f.n spots base ready.was ready.b cs js r held' kept') where
          -- each of its names was read, so none waits any more
          all_gone : marked t₃ f.n ≡ 0
          all_gone = none-marked t₃ f.n (λ i k. by i k (mark_of (get_or t₃ i 0)) refl)
            where
              name-is : (i : ℕ) → name_of (more_of lons) (payload s) (get_or t₃ i 0) ≡ name_of (more_of lons) (payload s) (get_or t i 0)
              name-is i = rw (o.names i, forgot.names i, d.names i) refl

              by : (i : ℕ) → i < f.n → (m : ℕ) → mark_of (get_or t₃ i 0) ≡ m → mark_of (get_or t₃ i 0) ≡ 0
              by i k zero e = e
              by i k (suc m) e =
                  let a = fill.only (name_of (more_of lons) (payload s) (get_or t₃ i 0)) (record { at = i; within = k; is = sym (name-is i) }) in
                  absurd (false≢true (sym (o.waits.unnamed i k (omega arith)) ∙ among_grown ready.was ms _ a))

          pub batch_read : Holds true (cs ++ controls_in es) (js ++ numbers_in base es) r held' kept'
          batch_read = holds_more (by (by_ltb (marked t₁ f.n) 65)) o.holds
            where
              by : (ltb (marked t₁ f.n) 65 ≡ true) ⊎ (65 ≤ marked t₁ f.n) → (ltb (marked t₁ f.n) 65 ≡ true) ⊎ (64 < length (cs ++ controls_in es))
              by (inl e) = inl e
              by (inr m) =
                  let k : marked t₂ f.n ≤ marked t₃ f.n + length (controls_in es) = o.counted in
                  inr (omega (arith, m, forgot.counted spots (noted_waits d w), k, all_gone, before, length-append cs (controls_in es)))

-- ---- all batches of a part
-- the first a mentions are done
pub record Parted (s : List ℕ) (lons : Bool) (g : Tally) (held₀ : List Control) (kept₀ : List ℕ) (c : Cursor) (starts : List ℕ) (base : ℕ) (all : Tally) (held : List Control) (kept : List ℕ) : Type 0 where
  pub a : ℕ
  pub based : base ≡ base_of lons (scene_of (payload s)) + a
  pub enough : a ≤ length (part_mentions lons (scene_of (payload s)))
  pub rest : mentions_at (payload s) lons c ≡ drop a (part_mentions lons (scene_of (payload s)))
  pub follows : Follows s lons c starts
  pub so_far_is : Appends (Earlier (scene_of (payload s)) lons 0) (base_of lons (scene_of (payload s)))
      (so_far lons (scene_of (payload s)) (take a (part_mentions lons (scene_of (payload s))))) g held₀ kept₀ all held kept

module _ {s : List ℕ} {lons : Bool} {g : Tally} {held₀ : List Control} {kept₀ : List ℕ} {c : Cursor} {starts : List ℕ} {base : ℕ} {all : Tally} {held : List Control} {kept : List ℕ}
    (h : Parted s lons g held₀ kept₀ c starts base all held kept) where
  abbrev scene : Scene
  scene = scene_of (payload s)

  abbrev whole : List Mention
  whole = part_mentions lons scene

  -- how many are left
  pub left : base + length (mentions_at (payload s) lons c) ≡ base_of lons scene + length whole
  left = omega (arith, h.based, h.enough, ap length h.rest, length-drop h.a whole)

  -- k more are done
  more-done : (k : ℕ) (all' : Tally) (held' : List Control) (kept' : List ℕ)
      → GathersBatch (payload s) lons base (take k (mentions_at (payload s) lons c)) all held kept all' held' kept'
      → Appends (Earlier scene lons 0) (base_of lons scene) (so_far lons scene (take (h.a + k) whole)) g held₀ kept₀ all' held' kept'
  more-done k all' held' kept' f cs js p q =
      let done = so_far lons scene (take h.a whole) in
      let new = batch_events (payload s) lons base (take k (mentions_at (payload s) lons c)) in
      let e : so_far lons scene (take (h.a + k) whole) ≡ done ++ new = rw h.based (part_batch lons s c starts h.a k h.follows h.rest) in
      let n : base_of lons scene + length done ≡ base = omega (arith, h.based, so_far-length lons scene (take h.a whole), length-take-le h.a whole h.enough) in
      let z = f (cs ++ controls_in done) (js ++ numbers_in (base_of lons scene) done) (h.so_far_is cs js p q) (rw h.based (part_earlier lons scene h.a cs q)) in
      rw (e, controls_append done new, numbers_append (base_of lons scene) done new, n, ← (append_assoc cs (controls_in done) (controls_in new)), ← (append_assoc js (numbers_in (base_of lons scene) done) (numbers_in base new))) z

  pub part_on : {f : code-filled.FilledBatch} {t : List ℕ} {starts' : List ℕ} → Batch s lons c f t starts' → (all' : Tally) (held' : List Control) (kept' : List ℕ)
      → GathersBatch (payload s) lons base (take f.count (mentions_at (payload s) lons c)) all held kept all' held' kept'
      → Parted s lons g held₀ kept₀ f.next starts' (base + f.count) all' held' kept'
  part_on {f} d all' held' kept' k =
      record {
        a = h.a + f.count;
        based = omega (arith, h.based);
        enough = omega (arith, h.enough, d.filling.enough, ap length h.rest, length-drop h.a whole);
        rest = d.rest ∙ ap (drop f.count) h.rest ∙ drop-drop f.count h.a whole;
        follows = d.follows;
        so_far_is = more-done f.count all' held' kept' k;
      }

  -- no name is left that has a latitude
  pub part_end : {f : code-filled.FilledBatch} {t : List ℕ} {starts' : List ℕ} → Batch s lons c f t starts' → f.n ≡ 0 → 1 ≤ length t
      → GathersPart scene lons g held₀ kept₀ all held kept
  part_end {f} {t} d e m cs js p q =
      let y : drop f.count (mentions_at (payload s) lons c) ≡ [] = sym d.rest ∙ d.ends (omega arith) in
      let n : length whole ≤ h.a + f.count = omega (arith, h.enough, ap length y, length-drop f.count (mentions_at (payload s) lons c), ap length h.rest, length-drop h.a whole) in
      let z = more-done f.count all held kept (λ us vs r o. let b = none_come scene (again_of lons) (among_features scene (before_of lons (length scene.features) base)) (take f.count (mentions_at (payload s) lons c)) (λ x k. absurd (nobody_in e (d.filling.all x k))) base in rw (b.0, b.1, append-nil, append-nil) r) cs js p q in
      rw (← (part-whole lons scene)) (rw (take_all (h.a + f.count) whole n) at z)
    where
      nobody_in : {more : ℕ} {l t : List ℕ} {n : ℕ} {x : List ℕ} → n ≡ 0 → Contains more l t n x → ⊥
      nobody_in z k = let w = k.within in omega arith

-- ---- what is surveyed
pub surveyed_features : {l : List ℕ} {v : Survey} → Surveyed l v → v.name_count - v.lon_count ≡ length (scene_of l).features
surveyed_features {l} o = rw (scene_lists l).0 (omega (arith, o.name-count, o.lon_count))

module _ {l : List ℕ} {v : Survey} (o : Surveyed l v) where
  pub part-total : (lons : Bool) → base_of lons (scene_of l) + length (part_mentions lons (scene_of l)) ≤ v.name_count
  part-total true = omega (arith, ap length (scene_lists l).0, lons-length (scene_of l), ap lons_in (scene_lists l).1, o.name-count)
  part-total false = omega (arith, ap length (scene_lists l).0, features_length (scene_of l), o.name-count)

  part_base : (lons : Bool) {base : ℕ} → base ≡ before_of lons (v.name_count - v.lon_count) 0 → base ≡ base_of lons (scene_of l) + 0
  part_base true e = omega (arith, e, surveyed_features o)
  part_base false e = omega arith

first_mentions : (l : List ℕ) (lons : Bool) (vars : ℕ) → VariablesFrom l vars → mentions_at l lons (first_cursor lons vars) ≡ part_mentions lons (scene_of l)
first_mentions l true vars e = rw ((scene_lists l).1, e.all) refl
first_mentions l false vars e = rw (scene_lists l).0 refl

nothing_yet : (lons : Bool) (sc : Scene) (j : ℕ) → (controls_in (so_far lons sc []) ≡ []) × (numbers_in j (so_far lons sc []) ≡ [])
unfolding controls_in numbers_in events_of
nothing_yet true sc j = (refl, refl)
nothing_yet false sc j = (refl, refl)

pub part-start : (s : List ℕ) (lons : Bool) {v : Survey} {g : Tally} {held : List Control} {kept : List ℕ} {c : Cursor} {base : ℕ} → Surveyed (payload s) v → laid_out (payload s) ≡ true
    → c ≡ first_cursor lons v.variables_at → base ≡ before_of lons (v.name_count - v.lon_count) 0 → Parted s lons g held kept c (replicate 32 0) base g held kept
part-start s lons {v} o r e b =
    record {
      a = 0;
      based = part_base o lons b;
      enough = omega arith;
      rest = rw e (first_mentions (payload s) lons v.variables_at o.variables_start);
      follows = rw e (begins lons);
      so_far_is = λ cs js h q. let z = nothing_yet lons (scene_of (payload s)) (base_of lons (scene_of (payload s))) in rw (z.0, z.1, append-nil, append-nil) h;
    }
  where
    begins : (lons : Bool) → Follows s lons (first_cursor lons v.variables_at) (replicate 32 0)
    begins true = record { short = omega arith; along = λ _. along s o.variables_start (variables_rising (payload s) r) }
    begins false = record { short = omega arith; along = λ z. absurd (false≢true z) }

-- ---- both parts
pub both_parts : (sc : Scene) {g : Tally} {held : List Control} {kept : List ℕ}
    → Holds true (([] ++ controls_in (part_events false sc)) ++ controls_in (part_events true sc)) (([] ++ numbers_in 0 (part_events false sc)) ++ numbers_in (length sc.features) (part_events true sc)) g held kept
    → Gathers sc g held kept
unfolding controls_of events
both_parts sc h =
    let n : 0 + length (feature_events sc 0 sc.features) ≡ length sc.features = omega (arith, feature-events sc 0 sc.features) in
    rw (controls_append (feature_events sc 0 sc.features) (variable_events sc 0 sc.variables), numbers_append 0 (feature_events sc 0 sc.features) (variable_events sc 0 sc.variables), n) h

pub features_alone : (sc : Scene) {g : Tally} {held : List Control} {kept : List ℕ} → variable_events sc 0 sc.variables ≡ []
    → Holds true ([] ++ controls_in (part_events false sc)) ([] ++ numbers_in 0 (part_events false sc)) g held kept → Gathers sc g held kept
unfolding controls_of events
features_alone sc e h = rw (e, append-nil) h

pub features_first : (sc : Scene) → Earlier sc true 0 ([] ++ controls_in (part_events false sc))
features_first sc = rw (take-length, ← (all_features sc)) (omega arith)

pub none-before-all : (sc : Scene) → Earlier sc false 0 []
unfolding feature_mentions events_of controls_in
none-before-all sc = omega arith

pub none_held : {held : List Control} {kept : List ℕ} → ControlRoom held kept → Holds true [] [] (record { n = 0; within = true }) held kept
unfolding all_within_limits
none_held k = record { count = refl; within = refl; controls = λ _ _. refl; numbers = λ _ _. refl; as_many = refl; room_for = k.held_room; kept-room = k.kept-room }
