-- The events of a part of the names, batch after batch.
use Rattle.std.specs.Prelude.{Option, None, Some, is_some}
use mathlib.Core.Path.{◌≡◌, refl, sym, ap, ◌∙◌}
use mathlib.Core.Bool.{Bool, true, false, ◌||◌, cond, false≢true, or-false}
use mathlib.Core.List.{List, [], ◌∷◌, ◌++◌, map, append_assoc}
use Prim.Native.Nat.{ℕ, zero, suc, ◌+◌, ◌-◌, ◌≤◌}
use native.Mathlib.Omega.{arith}
use lib.ListN.{length, take, drop, length-append, take-append-drop}
use lib.Seq.{take-add, take-length, take-nil, take-append_seam}
use lib.Ieee.{Float}
use Rattle.stream.specs.Payload.{payload}
use Rattle.records.specs.Layout.{before}
use Rattle.scene.specs.Scene.{Scene, NamedFeature, NamedValue, scene_of}
use Rattle.values.specs.declared.Point.{Point}
use Rattle.scene.specs.Labels.{same_bytes}
use Rattle.scene.specs.Inner.Answers.{features_at, variables_at}
use Rattle.scene.specs.Laws.Rising.{Rising, before_trans, before_itself, same_eq}
use Rattle.register.specs.Register.{Event, resolved, mentioned, event_of, suffix_lon, suffix_lat, var, stem, is_lon, feature_event, feature_events, lon_event, cons_if, variable_events, controls_in}
use Rattle.register.specs.Inner.Mentions.{Mention, feature_mentions, lon_mention, lon_mentions, event_with, grown_by, events_of, mentions_at, Follows}
use Rattle.register.specs.declared.mentions.Cursor.{Cursor}
use Rattle.fit.specs.declared.Control.{Control}
use Rattle.register.specs.Inner.Survey.{lons_in}
use Rattle.register.proofs.LonNames.{lon_ends}
use Rattle.register.proofs.Marks.{same_self}
use Rattle.register.proofs.ReadMentions.{events-length, events-append}
use Rattle.register.proofs.Known.{mentioned_snoc, grown_features}
use Rattle.register.proofs.EventCounts.{feature-events, lon_events}
use Rattle.register.specs.Inner.Gathered.{numbers_in, named, among, no_name, among_features, grown_all, part_events, base_of, batch_events, Earlier}

-- ---- names that were before, by equal functions
grown_cong : (was was' : List ℕ → Bool) (x : List ℕ) (lat : Option Float) → ((y : List ℕ) → was y ≡ was' y) → (y : List ℕ) → grown_by was x lat y ≡ grown_by was' x lat y
grown_cong was was' x None e y = e y
grown_cong was was' x (Some lat) e y = rw (e y) refl

pub events_cong : (sc : Scene) (again : ℕ) (was was' : List ℕ → Bool) (ms : List Mention) → ((y : List ℕ) → was y ≡ was' y) → events_of sc again was ms ≡ events_of sc again was' ms
unfolding events_of
events_cong sc again was was' [] e = refl
events_cong sc again was was' (m ∷ ms) e =
    rw (e m.name) (ap (λ (x : List Event). event_with sc again (was' m.name) m m.lat ∷ x) (events_cong sc again (grown_by was m.name m.lat) (grown_by was' m.name m.lat) ms (grown_cong was was' m.name m.lat e)))

-- a name that is among the mentions was before, after them
or_true : (a b : Bool) → b ≡ true → (a || b) ≡ true
or_true true b h = refl
or_true false b h = h

was_stays : (was : List ℕ → Bool) (ms : List Mention) (y : List ℕ) → was y ≡ true → grown_all was ms y ≡ true
unfolding grown_all
was_stays was [] y h = h
was_stays was (m ∷ ms) y h = was_stays (grown_by was m.name m.lat) ms y (one m.lat)
  where
    one : (lat : Option Float) → grown_by was m.name lat y ≡ true
    one None = h
    one (Some lat) = rw h refl

pub among_grown : (was : List ℕ → Bool) (ms : List Mention) (y : List ℕ) → among y ms ≡ true → grown_all was ms y ≡ true
unfolding grown_all among
among_grown was [] y h = absurd (false≢true h)
among_grown was (m ∷ ms) y h = by m.lat refl (named y m m.lat) refl (among_grown (grown_by was m.name m.lat) ms y)
  where
    by : (lat : Option Float) → m.lat ≡ lat → (b : Bool) → named y m m.lat ≡ b → (among y ms ≡ true → grown_all (grown_by was m.name m.lat) ms y ≡ true) → grown_all (grown_by was m.name m.lat) ms y ≡ true
    by lat e false f g = g (rw f at h)
    by None e true f g = absurd (false≢true (rw e at f))
    by (Some lat) e true f g = was_stays _ ms y (rw e (or_true (was y) (same_bytes m.name y) (rw e at f)))

-- ---- mentions that come to no control point
module _ (sc : Scene) (again : ℕ) where
  lost : (b : Bool) (m : Mention) (lat : Option Float) → (named m.name m lat ≡ true → is_some (resolved sc m.name) ≡ false) → (j : ℕ) (es : List Event)
      → (controls_in (event_with sc again b m lat ∷ es) ≡ controls_in es) × (numbers_in j (event_with sc again b m lat ∷ es) ≡ numbers_in (suc j) es)
  unfolding controls_in numbers_in event_of
  lost b m None h j es = (refl, refl)
  lost b m (Some lat) h j es = by (resolved sc m.name) (h (same_self m.name))
    where
      by : (p : Option Point) → is_some p ≡ false → (controls_in (event_of p b m.lon lat (record { kind = 2; index = m.index }) (record { kind = again; index = m.index }) ∷ es) ≡ controls_in es)
          × (numbers_in j (event_of p b m.lon lat (record { kind = 2; index = m.index }) (record { kind = again; index = m.index }) ∷ es) ≡ numbers_in (suc j) es)
      by None e = (refl, refl)
      by (Some p) e = absurd (false≢true (sym e))

  pub none_come : (was : List ℕ → Bool) (ms : List Mention) → ((x : List ℕ) → among x ms ≡ true → is_some (resolved sc x) ≡ false) → (j : ℕ)
      → (controls_in (events_of sc again was ms) ≡ []) × (numbers_in j (events_of sc again was ms) ≡ [])
  unfolding events_of among controls_in numbers_in
  none_come was [] h j = (refl, refl)
  none_come was (m ∷ ms) h j =
      let o = lost (was m.name) m m.lat (λ k. h m.name (rw k refl)) j (events_of sc again (grown_by was m.name m.lat) ms) in
      let r = none_come (grown_by was m.name m.lat) ms (λ x k. h x (or_true (named x m m.lat) (among x ms) k)) (suc j) in
      (o.0 ∙ r.0, o.1 ∙ r.1)

-- ---- host features
module _ (sc : Scene) where
  features_are : (was : List ℕ → Bool) (i : ℕ) (us fs : List NamedFeature) → sc.features ≡ us ++ fs → i ≡ length us → ((y : List ℕ) → was y ≡ mentioned y us)
      → feature_events sc i fs ≡ events_of sc 2 was (feature_mentions i fs)
  unfolding feature_events feature_event events_of feature_mentions
  features_are was i us [] e k w = refl
  features_are was i us (f ∷ fs) e k w =
      let z : take i sc.features ≡ us = rw (e, k) (take-append_seam us (f ∷ fs)) in
      let t = features_are (grown_by was f.name (Some f.lat)) (suc i) (us ++ f ∷ []) fs (rw e (sym (append_assoc us (f ∷ []) fs))) (omega (arith, length-append us (f ∷ []))) (λ y. rw (w y) (sym (mentioned_snoc y us f))) in
      rw (z, w f.name) (ap (λ (x : List Event). event_of (resolved sc f.name) (mentioned f.name us) f.lon f.lat (record { kind = 2; index = i }) (record { kind = 2; index = i }) ∷ x) t)

  pub all_features : feature_events sc 0 sc.features ≡ events_of sc 2 no_name (feature_mentions 0 sc.features)
  unfolding mentioned
  all_features = features_are no_name 0 [] sc.features refl refl (λ y. refl)

  mentions_take : (a i : ℕ) (fs : List NamedFeature) → take a (feature_mentions i fs) ≡ feature_mentions i (take a fs)
  unfolding feature_mentions
  mentions_take zero i fs = refl
  mentions_take (suc a) i [] = refl
  mentions_take (suc a) i (f ∷ fs) = ap (λ (x : List Mention). record { name = f.name; lon = f.lon; lat = Some f.lat; index = i } ∷ x) (mentions_take a (suc i) fs)

  pub features_length : length (feature_mentions 0 sc.features) ≡ length sc.features
  features_length = sym (events-length sc 2 no_name (feature_mentions 0 sc.features)) ∙ ap length (sym all_features) ∙ feature-events sc 0 sc.features

  -- a batch of k more
  features_batch : (a k : ℕ) → let ms = feature_mentions 0 sc.features in
      events_of sc 2 no_name (take (a + k) ms) ≡ events_of sc 2 no_name (take a ms) ++ events_of sc 2 (among_features sc a) (take k (drop a ms))
  features_batch a k =
      let ms = feature_mentions 0 sc.features in
      ap (events_of sc 2 no_name) (take-add a k ms) ∙ events-append sc 2 no_name (take a ms) (take k (drop a ms))
      ∙ ap (λ (x : List Event). events_of sc 2 no_name (take a ms) ++ x) (events_cong sc 2 (grown_all no_name (take a ms)) (among_features sc a) (take k (drop a ms)) (λ y. rw (mentions_take a 0 sc.features) (grown_features no_name 0 (take a sc.features) y)))

-- ---- `_lon` variables
-- what variables come to with no regard to each other
abbrev pub event_at : Scene → Mention → Event
event_at sc m = lon_event sc m.index m.name m.lon m.lat

abbrev pub events_at : Scene → List Mention → List Event
events_at sc ms = map (event_at sc) ms

module _ (sc : Scene) where
  event-is : (m : Mention) (lat : Option Float) → lon_event sc m.index m.name m.lon lat ≡ event_with sc 3 (mentioned m.name sc.features) m lat
  unfolding lon_event
  event-is m None = refl
  event-is m (Some lat) = refl

  pub mention_events : (i : ℕ) (vs : List NamedValue) → variable_events sc i vs ≡ events_at sc (lon_mentions sc i vs)
  unfolding variable_events lon_mentions
  mention_events i [] = refl
  mention_events i (v ∷ vs) = rw (mention_events (suc i) vs) (by (is_lon v.name) (lon_mention sc i v) (lon_mentions sc (suc i) vs))
    where
      by : (b : Bool) (m : Mention) (ms : List Mention) → cons_if b (event_at sc m) (events_at sc ms) ≡ events_at sc (cond b (m ∷ ms) ms)
      by true m ms = refl
      by false m ms = refl

  at-append : (ms ns : List Mention) → events_at sc (ms ++ ns) ≡ events_at sc ms ++ events_at sc ns
  at-append [] ns = refl
  at-append (m ∷ ms) ns = ap (λ (x : List Event). event_at sc m ∷ x) (at-append ms ns)

  at_length : (ms : List Mention) → length (events_at sc ms) ≡ length ms
  at_length [] = refl
  at_length (m ∷ ms) = ap suc (at_length ms)

  -- no name of a `_lon` variable stands twice
  lon_name : (name : List ℕ) → is_lon name ≡ true → stem name ++ suffix_lon ≡ name
  lon_name name h = rw (← (lon_ends name h)) (take-append-drop (length name - 4) name)

  other_stem : (u name : List ℕ) → is_lon u ≡ true → is_lon name ≡ true → before u name ≡ true → same_bytes (stem u) (stem name) ≡ false
  other_stem u name h k b = by (same_bytes (stem u) (stem name)) refl
    where
      by : (t : Bool) → same_bytes (stem u) (stem name) ≡ t → same_bytes (stem u) (stem name) ≡ false
      by false e = e
      by true e =
          let z : u ≡ name = sym (lon_name u h) ∙ ap (λ (x : List ℕ). x ++ suffix_lon) (same_eq (stem u) (stem name) e) ∙ lon_name name k in
          absurd (false≢true (sym (before_itself name) ∙ rw z at b))

  -- so it is all one whether those before count
  lons_apart : (was : List ℕ → Bool) (u : List ℕ) (i k : ℕ) (vs : List NamedValue) → Rising u vs
      → ((name : List ℕ) → is_lon name ≡ true → before u name ≡ true → was (stem name) ≡ mentioned (stem name) sc.features)
      → events_at sc (take k (lon_mentions sc i vs)) ≡ events_of sc 3 was (take k (lon_mentions sc i vs))
  unfolding events_of lon_mentions
  lons_apart was u i k [] r w = rw take-nil refl
  lons_apart was u i k (v ∷ vs) r w = by (is_lon v.name) refl k (λ was k. lons_apart was v.name (suc i) k vs r.1)
    where
      later : (name : List ℕ) → is_lon name ≡ true → before v.name name ≡ true → was (stem name) ≡ mentioned (stem name) sc.features
      later name l m = w name l (before_trans u v.name name r.0 m)

      grown_same : is_lon v.name ≡ true → (lat : Option Float) (name : List ℕ) → is_lon name ≡ true → before v.name name ≡ true → grown_by was (stem v.name) lat (stem name) ≡ mentioned (stem name) sc.features
      grown_same e None name l m = later name l m
      grown_same e (Some lat) name l m = rw (other_stem v.name name e l m) (or-false (was (stem name)) ∙ later name l m)

      by : (b : Bool) → is_lon v.name ≡ b → (k : ℕ)
          → ((was : List ℕ → Bool) (k : ℕ) → ((name : List ℕ) → is_lon name ≡ true → before v.name name ≡ true → was (stem name) ≡ mentioned (stem name) sc.features)
          → events_at sc (take k (lon_mentions sc (suc i) vs)) ≡ events_of sc 3 was (take k (lon_mentions sc (suc i) vs)))
          → events_at sc (take k (lon_mentions sc i (v ∷ vs))) ≡ events_of sc 3 was (take k (lon_mentions sc i (v ∷ vs)))
      by false e k g = rw e (g was k later)
      by true e zero g = refl
      by true e (suc k) g =
          rw (e, w v.name e r.0, event-is (lon_mention sc i v) (var sc (stem v.name ++ suffix_lat)))
          (ap (λ (x : List Event). event_with sc 3 (mentioned (stem v.name) sc.features) (lon_mention sc i v) (var sc (stem v.name ++ suffix_lat)) ∷ x)
          (g _ k (grown_same e (var sc (stem v.name ++ suffix_lat)))))

  pub lons-length : length (lon_mentions sc 0 sc.variables) ≡ lons_in sc.variables
  lons-length = sym (at_length (lon_mentions sc 0 sc.variables)) ∙ ap length (sym (mention_events 0 sc.variables)) ∙ lon_events sc 0 sc.variables

  -- a batch of k more, behind the first a of them
  pub lons_batch : (a k : ℕ) (u : List ℕ) (i : ℕ) (vs : List NamedValue) (ms : List Mention) → drop a ms ≡ lon_mentions sc i vs → Rising u vs
      → events_at sc (take (a + k) ms) ≡ events_at sc (take a ms) ++ events_of sc 3 (among_features sc (length sc.features)) (take k (drop a ms))
  lons_batch a k u i vs ms e r =
      ap (events_at sc) (take-add a k ms) ∙ at-append (take a ms) (take k (drop a ms))
      ∙ ap (λ (x : List Event). events_at sc (take a ms) ++ x) (rw e (lons_apart (among_features sc (length sc.features)) u i k vs r (λ name l m. rw take-length refl)))

-- ---- a part of the names
abbrev pub part_mentions : Bool → Scene → List Mention
part_mentions true sc = lon_mentions sc 0 sc.variables
part_mentions false sc = feature_mentions 0 sc.features

-- what its first mentions come to
abbrev pub so_far : Bool → Scene → List Mention → List Event
so_far true sc ms = events_at sc ms
so_far false sc ms = events_of sc 2 no_name ms

pub so_far-length : (lons : Bool) (sc : Scene) (ms : List Mention) → length (so_far lons sc ms) ≡ length ms
so_far-length true sc ms = at_length sc ms
so_far-length false sc ms = events-length sc 2 no_name ms

pub part-whole : (lons : Bool) (sc : Scene) → so_far lons sc (part_mentions lons sc) ≡ part_events lons sc
part-whole true sc = sym (mention_events sc 0 sc.variables)
part-whole false sc = sym (all_features sc)

none_before : (a : ℕ) → a ≡ 0 + a
none_before a = omega arith

-- a batch of k more, behind the first a
pub part_batch : (lons : Bool) (s : List ℕ) (c : Cursor) (starts : List ℕ) (a k : ℕ) → let sc = scene_of (payload s) in let ms = part_mentions lons sc in
    Follows s lons c starts → mentions_at (payload s) lons c ≡ drop a ms
    → so_far lons sc (take (a + k) ms) ≡ so_far lons sc (take a ms) ++ batch_events (payload s) lons (base_of lons sc + a) (take k (mentions_at (payload s) lons c))
part_batch true s c starts a k f e =
    let sc = scene_of (payload s) in
    lons_batch sc a k _ c.i (variables_at (payload s) c.q) (lon_mentions sc 0 sc.variables) (sym e) (f.along refl).passed.rising
    ∙ ap (λ (x : List Mention). events_at sc (take a (lon_mentions sc 0 sc.variables)) ++ events_of sc 3 (among_features sc (length sc.features)) (take k x)) (sym e)
part_batch false s c starts a k f e =
    let sc = scene_of (payload s) in
    features_batch sc a k ∙ ap (λ (x : List Mention). events_of sc 2 no_name (take a (feature_mentions 0 sc.features)) ++ events_of sc 2 (among_features sc a) (take k x)) (sym e)
    ∙ ap (λ (b : ℕ). events_of sc 2 no_name (take a (feature_mentions 0 sc.features)) ++ events_of sc 2 (among_features sc b) (take k (feature_mentions c.i (features_at (payload s) c.q)))) (none_before a)

-- the host features before it are done
pub part_earlier : (lons : Bool) (sc : Scene) (a : ℕ) (cs : List Control) → Earlier sc lons 0 cs → Earlier sc lons (base_of lons sc + a) (cs ++ controls_in (so_far lons sc (take a (part_mentions lons sc))))
part_earlier true sc a cs h = omega (arith, h, length-append cs (controls_in (events_at sc (take a (lon_mentions sc 0 sc.variables)))))
part_earlier false sc a cs h =
    let z = ap (λ (x : List Mention). length (controls_in (events_of sc 2 no_name x))) (mentions_take sc a 0 sc.features) in
    let o = ap (λ (b : ℕ). length (controls_in (events_of sc 2 no_name (feature_mentions 0 (take b sc.features))))) (none_before a) in
    let k : length (controls_in (events_of sc 2 no_name (feature_mentions 0 (take (0 + a) sc.features)))) ≤ length (cs ++ controls_in (events_of sc 2 no_name (take a (feature_mentions 0 sc.features)))) =
    omega (arith, o, z, length-append cs (controls_in (events_of sc 2 no_name (take a (feature_mentions 0 sc.features))))) in
    k
