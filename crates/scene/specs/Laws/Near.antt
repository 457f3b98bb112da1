-- What condition 4 leaves of a scene: every place and every measure of an item is at most 1,000,000 in magnitude, and
-- so is each point that a label names. Assumes nothing.
use Rattle.std.specs.Option.{option_or}
use Rattle.std.specs.Prelude.{◌≡◌, refl, Bool, true, false, ◌&&◌, cond, List, [], ◌∷◌, map, ℕ, zero, suc, ◌+◌, ◌-◌, ◌*◌, ◌/◌, ◌%◌, ◌≤◌, ◌<◌, ◌^◌, length, eqb, Float, Option, None, Some}
use Rattle.std.proofs.Common.{sym, subst, zero-lt-suc, eqb-true}
use Rattle.std.proofs.lemmas.Bool.{false≢true}
use native.Mathlib.Omega.{arith}
use Rattle.std.proofs.lemmas.List.{length-map}
use Rattle.std.specs.Float.{binary64}
use Rattle.std.specs.Float.Ieee.{neg, add, le, of_bits}
use Rattle.float.specs.Laws.Intervals.{Between}
use Rattle.float.specs.Laws.Tests.{yes}
use Rattle.float.specs.Laws.Spans.{Spans, Few, Each, total, ends_spans, spans_ends, mean_spans, each_map, whole-million, million, m_million}
use Rattle.stream.specs.Numbers.{u16_at, float_at}
use Rattle.records.specs.declared.records.Record.{Record}
use Rattle.records.specs.declared.records.Record.TheVariants.{Rescale, Option as OptionRecord, Feature, Variable, Place, Item, Points, Path}
use Rattle.records.specs.declared.records.Step.{Step}
use Rattle.records.specs.declared.records.Step.TheVariants.{Got, End, Bad}
use Rattle.records.specs.Records.{values_width, record_of}
use Rattle.records.specs.Walk.{Entry, tag_of, more, entries}
use Rattle.records.specs.Search.{key_of, ends_search, search_step_of, with_found, records_of}
use Rattle.records.specs.Limits.{on_canvas, all_on_canvas, limited_at, all_limited, limited}
use Rattle.records.specs.Laws.Tests.{and_left, and_right}
use Rattle.records.specs.Laws.Records.{size_of, Fields, stands}
use Rattle.scene.specs.Scene.{first, value_of, float_value_at, bit, point_at, points_at, Cubic, cubic_at, cubics_at, NamedPlace, place_at, Form, curve, polyline, form_at, DrawnPath, path_at, DrawnItem, tail, item_with, item_at, Scene, scene_of}
use Rattle.values.specs.declared.Point.{Point}
use Rattle.values.specs.Options.{given}
use Rattle.scene.specs.Labels.{same_bytes, pick, sum_of, mean_of, mean_point, start_of, first_start, mean_or_start, reference_point, Key, Best, greater, consider, consider_at, place_key, item_key, best_place, label_is, best_item, point_of, point_of_label}
use Rattle.scene.specs.Laws.Widths.{all-at, at_within, w_within, h_within, r_within, rad_within}
use Rattle.scene.specs.Laws.Points.{points-length}

-- ---- what may be absent, and lists
abbrev pub Holds : {A : Type 0} → (A → Type 0) → Option A → Type 0
Holds Q None = Unit {0}
Holds Q (Some x) = Q x

given_holds : {A : Type 0} (Q : A → Type 0) (b : Bool) (x : A) → (b ≡ true → Q x) → Holds Q (given b x)
given_holds Q true x f = f refl
given_holds Q false x f = tt

first_holds : {A : Type 0} (Q : A → Type 0) (f : List ℕ → A) (ls : List (List ℕ)) → Each (λ b. Q (f b)) ls → Holds Q (first f ls)
first_holds Q f [] h = tt
first_holds Q f (b ∷ ls) h = h.0

-- ---- numbers and points of the canvas
abbrev pub Near : Float → Type 0
Near v = Between m_million million v

pub record NearPoint (p : Point) : Type 0 where
  pub x : Near p.x
  pub y : Near p.y

near-value : (v : Option Float) → on_canvas v ≡ true → Near (value_of v)
unfolding on_canvas value_of of_bits neg
near-value None h = absurd (false≢true h)
near-value (Some v) h = record { low = yes (le m_million v) (and_left _ _ h); high = yes (le v million) (and_right (le m_million v) _ h); fl = tt; fh = tt }

-- n floats from p on
abbrev Run : List ℕ → ℕ → ℕ → Type 0
Run l p n = (i : ℕ) → i < n → Near (float_value_at l (p + 8 * i))

run : (l : List ℕ) (p n : ℕ) → all_on_canvas l p n ≡ true → Run l p n
unfolding float_value_at
run l p n h i k = near-value (float_at l (p + 8 * i)) (all-at (λ i. on_canvas (float_at l (p + 8 * i))) n i h k)

moved : (l : List ℕ) {p q : ℕ} → p ≡ q → Near (float_value_at l p) → Near (float_value_at l q)
moved l e h = rw e at h

run_on : (l : List ℕ) (p j m n : ℕ) → j + n ≤ m → Run l p m → Run l (p + 8 * j) n
run_on l p j m n h r i k = moved l {p = p + 8 * (j + i)} (omega arith) (r (j + i) (omega arith))

point-near : (l : List ℕ) (p n : ℕ) → 2 ≤ n → Run l p n → NearPoint (point_at l p)
unfolding point_at
point-near l p n h r = record { x = moved l {p = p + 8 * 0} (omega arith) (r 0 (omega arith)); y = moved l {p = p + 8 * 1} (omega arith) (r 1 (omega arith)) }

points_near : (l : List ℕ) (p n : ℕ) → Run l p (2 * n) → Each NearPoint (points_at l p n)
unfolding points_at
points_near l p zero r = tt
points_near l p (suc n) r = (point-near l p (2 * suc n) (omega arith) r, points_near l (p + 16) n (run_on l p 2 (2 * suc n) (2 * n) (omega arith) r))

pub record NearCubic (c : Cubic) : Type 0 where
  pub c1 : NearPoint c.c1
  pub c2 : NearPoint c.c2
  pub end : NearPoint c.end

cubics-near : (l : List ℕ) (p n : ℕ) → Run l p (6 * n) → Each NearCubic (cubics_at l p n)
unfolding cubics_at cubic_at
cubics-near l p zero r = tt
cubics-near l p (suc n) r = (
  record {
    c1 = point-near l p (6 * suc n) (omega arith) r;
    c2 = point-near l (p + 16) 2 (omega arith) (run_on l p 2 (6 * suc n) 2 (omega arith) r);
    end = point-near l (p + 32) 2 (omega arith) (run_on l p 4 (6 * suc n) 2 (omega arith) r);
  },
  cubics-near l (p + 48) n (run_on l p 6 (6 * suc n) (6 * n) (omega arith) r),
)

-- ---- an item: no more points than the largest stream holds
abbrev pub longest : ℕ
longest = 33292288

abbrev pub most : ℕ
most = 2080768

pub record NearPoints (ps : List Point) : Type 0 where
  pub few : length ps ≤ most
  pub points : Each NearPoint ps

abbrev pub NearForm : Form → Type 0
NearForm (curve start cs) = NearPoint start × Each NearCubic cs
NearForm (polyline ps) = Each NearPoint ps

abbrev pub NearPath : DrawnPath → Type 0
NearPath p = NearForm p.form

pub record NearItem (it : DrawnItem) : Type 0 where
  pub at : Holds NearPoint it.at
  pub w : Holds Near it.w
  pub h : Holds Near it.h
  pub r : Holds Near it.r
  pub rad : Holds Near it.rad
  pub points : Holds NearPoints it.points
  pub fill_points : Holds NearPoints it.fill_points
  pub paths : Each NearPath it.paths
  pub fill_paths : Each NearPath it.fill_paths

-- ---- the records of a payload
-- what each is
record Told (b : List ℕ) (r : Record) : Type 0 where
  fields : Fields b r
  fits : size_of r ≤ length b
  short : length b ≤ longest
  limits : limited_at b r ≡ true

-- each, and that its bytes go on with those tail it
abbrev Chain : List Entry → Type 0
Chain [] = Unit {0}
Chain (e ∷ es) = Told e.bytes e.parsed × (entries e.bytes 0 ≡ e ∷ es) × Chain es

chain_more : (l : List ℕ) (s : Step) (f : ℕ → List Entry) → length l ≤ longest → record_of l ≡ s → entries l 0 ≡ more l s f → ((k : ℕ) → all_limited (f k) ≡ true → Chain (f k)) → all_limited (more l s f) ≡ true
    → Chain (more l s f)
unfolding all_limited
chain_more l (Got r k) f m e i g h =
    let s = stands l e in
    (record { fields = s.fields; fits = omega (arith, s.fits, s.size); short = m; limits = and_left _ _ h }, i, g (k - 1) (and_right (limited_at l r) _ h))
chain_more l End f m e i g h = tt
chain_more l Bad f m e i g h = tt

chain : (l : List ℕ) (k : ℕ) → length l ≤ longest → all_limited (entries l k) ≡ true → Chain (entries l k)
unfolding entries
chain [] k m h = tt
chain (x ∷ xs) zero m h = chain_more (x ∷ xs) (record_of (x ∷ xs)) (λ k. entries xs k) m refl refl (λ k. chain xs k (omega arith)) h
chain (x ∷ xs) (suc k) m h = chain xs k (omega arith) h

-- what those of a tag say of the canvas
abbrev NearRecord : ℕ → List ℕ → Type 0
NearRecord t b =
    cond (eqb t 5) (NearPoint (place_at b).at)
    (cond (eqb t 6) (NearItem (item_at b))
    (cond (eqb t 7) (NearPoints (points_at b 4 (u16_at b 2)))
    (cond (eqb t 8) (NearPath (path_at b))
    (Unit {0}))))

abbrev AllNear : List Entry → Type 0
AllNear es = (t k : ℕ) → Each (NearRecord t) (records_of t k es)

-- a value tail those of j
value-near : (b : List ℕ) (p j m : ℕ) (t : Bool) → Run b p (values_width m / 8) → (t ≡ true → values_width j + 8 ≤ values_width m) → Holds Near (given t (float_value_at b (p + values_width j)))
value-near b p j m t r f =
    given_holds Near t (float_value_at b (p + values_width j))
    (λ e. let h = f e in moved b {p = p + 8 * (values_width j / 8)} (omega (arith, eights)) (r (values_width j / 8) (omega arith)))
  where
    eights : values_width j ≡ 8 * (values_width j / 8)
    eights = unfold values_width in omega arith

item-near : (b : List ℕ) (n m : ℕ) (es : List Entry) → m < 32 → Run b (13 + n) (values_width m / 8) → AllNear es → NearItem (item_with b n m es)
unfolding item_with
item-near b n m es h r a =
    let points : (k : ℕ) → Holds NearPoints (first (λ b. points_at b 4 (u16_at b 2)) (records_of 7 k es)) = λ k. first_holds NearPoints (λ b. points_at b 4 (u16_at b 2)) (records_of 7 k es) (a 7 k) in
    let paths : (k : ℕ) → Each NearPath (map path_at (records_of 8 k es)) = λ k. each_map path_at (NearRecord 8) NearPath (λ b w. w) (records_of 8 k es) (a 8 k) in
    record {
      at = given_holds NearPoint (bit m 1) (point_at b (13 + n)) (λ e. point-near b (13 + n) (values_width m / 8) (omega (arith, at_within m h e)) r);
      w = value-near b (13 + n) (m % 2) m (bit m 2) r (w_within m h);
      h = value-near b (13 + n) (m % 4) m (bit m 4) r (h_within m h);
      r = value-near b (13 + n) (m % 8) m (bit m 8) r (r_within m h);
      rad = value-near b (13 + n) (m % 16) m (bit m 16) r (rad_within m h);
      points = points 0;
      fill_points = points 1;
      paths = paths 0;
      fill_paths = paths 1;
    }

path-near : (b : List ℕ) (f k : ℕ) → (f ≡ 0 → k ≡ u16_at b 20) → (f ≡ 1 → k ≡ u16_at b 4) → f ≤ 1 → limited_at b (Path 0 0 f k) ≡ true → NearForm (form_at b f)
unfolding form_at limited_at
path-near b zero k c g m h = rw (← c refl) (point-near b 4 2 (omega arith) (run b 4 2 (and_left _ _ h)), cubics-near b 22 k (run b 22 (6 * k) (and_right (all_on_canvas b 4 2) _ h)))
path-near b (suc f) k c g m h = rw (← g (omega arith)) (points_near b 6 k (run b 6 (2 * k) h))

near_record : (b : List ℕ) (r : Record) → Told b r → AllNear (tail (entries b 0)) → NearRecord (tag_of r) b
unfolding limited_at place_at item_at path_at
near_record b Rescale t a = tt
near_record b (OptionRecord o) t a = tt
near_record b (Feature n) t a = tt
near_record b (Variable n) t a = tt
near_record b (Place n) t a = rw (← t.fields.0.is) (point-near b (2 + n) 2 (omega arith) (run b (2 + n) 2 t.limits))
near_record b (Item k f n m) t a =
    let i = t.fields in
    rw (← i.label_is_lem, ← i.has_is) (item-near b n m (tail (entries b 0)) i.has (run b (13 + n) (values_width m / 8) t.limits) a)
near_record b (Points r n) t a =
    let i = t.fields in
    rw (← i.count) (record { few = omega (arith, points-length b 4 n, t.fits, t.short); points = points_near b 4 n (run b 4 (2 * n) t.limits) })
near_record b (Path r c f n) t a =
    let i = t.fields in
    rw (← i.form_is) (path-near b f n i.cubics i.points i.form t.limits)

sought_each : (Q : List ℕ → Type 0) (t k : ℕ) (r : Record) (b : List ℕ) (ls : List (List ℕ)) → (tag_of r ≡ t → Q b) → Each Q ls → Each Q (with_found (search_step_of t k r) b ls)
unfolding search_step_of
sought_each Q t k r b ls q h = by (eqb (tag_of r) t && eqb (key_of r) k) refl (ends_search t (tag_of r)) refl
  where
    by : (a : Bool) → (eqb (tag_of r) t && eqb (key_of r) k) ≡ a → (p : Bool) → ends_search t (tag_of r) ≡ p → Each Q (with_found (search_step_of t k r) b ls)
    by true e p f = rw e (q (eqb-true (tag_of r) t (and_left _ _ e)), h)
    by false e true f = rw (e, f) tt
    by false e false f = rw (e, f) h

all_near : (es : List Entry) → Chain es → AllNear es
unfolding records_of
all_near [] c t k = tt
all_near (e ∷ es) c t k =
    sought_each (NearRecord t) t k e.parsed e.bytes (records_of t k es)
    (λ x. subst (λ (u : ℕ). NearRecord u e.bytes) x (near_record e.bytes e.parsed c.0 (rw c.1 (all_near es c.2))))
    (all_near es c.2 t k)

-- ---- the mean of points
sum_total : (f : Point → Float) (a : Float) (ps : List Point) → sum_of f a ps ≡ total a (map f ps)
unfolding sum_of
sum_total f a [] = refl
sum_total f a (p ∷ ps) = sum_total f (add binary64 a (f p)) ps

mean-near : (f : Point → Float) → ((p : Point) → NearPoint p → Near (f p)) → (ps : List Point) → 0 < length ps → length ps ≤ most → Each NearPoint ps → Near (mean_of f ps)
unfolding mean_of
mean-near f g ps h k w =
    rw (sum_total f (of_bits binary64 0) ps)
    (spans_ends 1000000 million _ whole-million
    (mean_spans 0 1000000 1000000 0 (map f ps) (length ps) (sym (length-map ps f)) h (few (length ps) k) (all (length ps) k) (each_map f NearPoint (Spans 0 1000000 1000000 0) (λ p q. ends_spans 1000000 million (f p) whole-million (g p q)) ps w)))
  where
    few : (n : ℕ) → n ≤ most → n ≤ 2 ^ 53
    few n h = omega arith

    all : (n : ℕ) → n ≤ most → Few (n * 0) (n * 1000000) (n * 1000000) (n * 0)
    all n h = omega arith

-- ---- the point of an item
mean_or_start_lem : (m : Option (List Point)) (paths : List DrawnPath) → Holds NearPoints m → Holds NearPoint (first_start paths) → Holds NearPoint (mean_or_start m paths)
unfolding mean_or_start mean_point
mean_or_start_lem None paths h k = k
mean_or_start_lem (Some []) paths h k = k
mean_or_start_lem (Some (p ∷ ps)) paths h k =
    let mean : (f : Point → Float) → ((q : Point) → NearPoint q → Near (f q)) → Near (mean_of f (p ∷ ps)) = λ f g. mean-near f g (p ∷ ps) (zero-lt-suc (length ps)) h.few h.points in
    record { x = mean (λ q. q.x) (λ q w. w.x); y = mean (λ q. q.y) (λ q w. w.y) }

start-near : (f : Form) → NearForm f → Holds NearPoint (start_of f)
unfolding start_of
start-near (curve start cs) h = h.0
start-near (polyline []) h = tt
start-near (polyline (p ∷ ps)) h = h.0

first-start : (ps : List DrawnPath) → Each NearPath ps → Holds NearPoint (first_start ps)
unfolding first_start
first-start [] h = tt
first-start (p ∷ ps) h = start-near p.form h.0

or_near : (a q : Option Point) → Holds NearPoint a → Holds NearPoint q → Holds NearPoint (option_or a q)
or_near None q h k = k
or_near (Some p) q h k = h

pub reference_near : (it : DrawnItem) → NearItem it → Holds NearPoint (reference_point it)
unfolding reference_point
reference_near it h = or_near it.at _ h.at (mean_or_start_lem it.points it.paths h.points (first-start it.paths h.paths))

-- ---- the point of a label
abbrev AtNear : Best → Type 0
AtNear b = NearPoint b.at

consider-near : (b : Option Best) (k : Key) (p : Point) → Holds AtNear b → NearPoint p → Holds AtNear (consider b k p)
unfolding consider
consider-near None k p h w = w
consider-near (Some b) k p h w = by (greater k b.key)
  where
    by : (t : Bool) → Holds AtNear (pick t (Some (record { key = k; at = p })) (Some b))
    by true = w
    by false = h

consider-at : (b : Option Best) (k : Key) (p : Option Point) → Holds AtNear b → Holds NearPoint p → Holds AtNear (consider_at b k p)
consider-at b k None h w = h
consider-at b k (Some p) h w = consider-near b k p h w

pick-near : (t : Bool) (a b : Option Best) → Holds AtNear a → Holds AtNear b → Holds AtNear (pick t a b)
pick-near true a b h k = h
pick-near false a b h k = k

place-best : (name : List ℕ) (i : ℕ) (ps : List NamedPlace) (b : Option Best) → Each (λ p. NearPoint p.at) ps → Holds AtNear b → Holds AtNear (best_place name i ps b)
unfolding best_place
place-best name i [] b h k = k
place-best name i (p ∷ ps) b h k = place-best name (suc i) ps _ h.1 (pick-near (same_bytes p.label name) (consider b (place_key p i) p.at) b (consider-near b (place_key p i) p.at k h.0) k)

item-best : (name : List ℕ) (i : ℕ) (its : List DrawnItem) (b : Option Best) → Each NearItem its → Holds AtNear b → Holds AtNear (best_item name i its b)
unfolding best_item
item-best name i [] b h k = k
item-best name i (it ∷ its) b h k =
    item-best name (suc i) its _ h.1 (pick-near (label_is it.label name) (consider_at b (item_key it i) (reference_point it)) b (consider-at b (item_key it i) (reference_point it) k (reference_near it h.0)) k)

point_of_lem : (b : Option Best) → Holds AtNear b → Holds NearPoint (point_of b)
point_of_lem None h = tt
point_of_lem (Some b) h = h

-- a scene whose points are on the canvas
pub record NearScene (sc : Scene) : Type 0 where
  pub places : Each (λ p. NearPoint p.at) sc.places
  pub items : Each NearItem sc.items

pub label_near : (sc : Scene) → NearScene sc → (name : List ℕ) → Holds NearPoint (point_of_label name sc.places sc.items)
unfolding point_of_label
label_near sc h name = point_of_lem (best_item name 0 sc.items (best_place name 0 sc.places None)) (item-best name 0 sc.items _ h.items (place-best name 0 sc.places None h.places tt))

-- ---- the law
pub limited-near : (l : List ℕ) → length l ≤ longest → limited l ≡ true → NearScene (scene_of l)
unfolding limited scene_of
limited-near l m h =
    let es = entries l 0 in
    let a = all_near es (chain l 0 m h) in
    record {
      places = each_map place_at (NearRecord 5) (λ p. NearPoint p.at) (λ b w. w) (records_of 5 0 es) (a 5 0);
      items = each_map item_at (NearRecord 6) NearItem (λ b w. w) (records_of 6 0 es) (a 6 0);
    }
