-- The registration of a stream that no early condition refuses is sound. Assumes nothing.
use Rattle.std.specs.Option.{option_or}
use Rattle.std.specs.Prelude.{◌≡◌, refl, Bool, true, false, not, ◌&&◌, cond, ℕ, suc, ◌*◌, ◌≤◌, length, take, ℤ, T, eqb, ltb, Float, Option, None, Some, is_some, IfSome, unwrap_or}
use Rattle.std.proofs.Common.{true≢false, arith, ltb-false, le-ltb}
use mathlib.Core.List.{List, [], ◌∷◌, ◌++◌, map}
use Rattle.std.specs.Float.{nan, inf, fin}
use Rattle.std.specs.Float.Ieee.{binary64, up, down, round, fits, neg, mul, div, lt, le, of_bits}
use Rattle.std.specs.Float.Ieee.Bits.{of_bits-fits}
use Rattle.std.specs.Float.Ieee.Scale.{finite}
use Rattle.float.specs.Functions.{abs_of}
use Rattle.float.specs.Laws.Signed.{nonneg, round_nonneg, neg_le, →le}
use Rattle.float.specs.Laws.Operations.{finite_neg}
use Rattle.float.specs.Laws.Order.{le_trans, le_refl}
use Rattle.float.specs.Laws.Tests.{yes, no}
use Rattle.float.specs.Laws.Comparisons.{lt→le}
use Rattle.float.specs.Laws.Intervals.{Between, in_finite}
use Rattle.float.specs.Laws.Numbers.{nonneg-low}
use Rattle.float.specs.Laws.Spans.{Each}
use Rattle.elementary.specs.Constants as K
use Rattle.elementary.specs.Laws.Mercator.{c89·5, m89·5}
use Rattle.elementary.specs.Laws.Ordinate.{c85·06, m85·06}
use Rattle.geodesy.specs.Laws.Finite.{m180}
use Rattle.fit.specs.declared.Control.{Control}
use Rattle.fit.specs.declared.Fit.{Fit}
use Rattle.fit.specs.Fit.{fit_of}
use Rattle.projection.specs.Laws.Project.{Sound}
use Rattle.fit.specs.Laws.Fitted.{ControlWithin, Fitted, fit_in}
use Rattle.stream.specs.Numbers.{u64_at, float_of, float_at}
use Rattle.stream.specs.Payload.{payload}
use Rattle.stream.specs.Laws.Payload.{payload-length}
use Rattle.records.specs.Walk.{entries}
use Rattle.records.specs.Search.{records_of}
use Rattle.records.specs.Limits.{limited}
use Rattle.records.specs.Values.{rescale_in, not_above}
use Rattle.records.specs.Inner.Refusals.{refusal_of}
use Rattle.records.specs.Laws.Tests.{and_left, and_right}
use Rattle.records.specs.Laws.Refusals.{is-short, is-limited, is_rescaled}
use Rattle.stream.specs.Laws.Conditions.{first-none}
use Rattle.scene.specs.Scene.{first, value_of, float_value_at, NamedFeature, NamedValue, variable_at, Scene, scene_of}
use Rattle.values.specs.declared.Point.{Point}
use Rattle.scene.specs.Labels.{same_bytes, pick, variable_of}
use Rattle.register.specs.Register.{geo_bearing, suffix_lat, f0, f1, max_scale, var, px_mode, declared_bearing, Event, control, warn, resolved, mentioned, event_of, feature_event, feature_events, stem, is_lon, lon_event, cons_if, variable_events, events, controls_in, controls_of, anchor_of, within_limits, all_within_limits, anchor_within_limits, scale_value, above0, effective_scale, declared_at, fitted, no_fit, registration_by, registration_of, of_registration}
use Rattle.values.specs.Warnings.{Warning}
use Rattle.register.specs.Inner.Outcome.{register_refusal}
use Rattle.register.specs.Laws.Outcomes.{registration_numbered}
use Rattle.scene.specs.Laws.Near.{Holds, Near, NearPoint, NearScene, longest, label_near, limited-near}

-- ---- numbers of a stream
pub record Number (v : Float) : Type 0 where
  pub is_finite : T (finite v)
  pub of_format : T (fits binary64 v)

f0_number : Number f0
f0_number = record { is_finite = unfold of_bits in tt; of_format = of_bits-fits binary64 0 }

value_number : (v : Float) → T (fits binary64 v) → Number (value_of (float_of v))
unfolding value_of float_of
value_number nan h = f0_number
value_number (inf s) h = f0_number
value_number (fin s m e) h = record { is_finite = tt; of_format = h }

pub number_at : (l : List ℕ) (p : ℕ) → Number (float_value_at l p)
unfolding float_value_at float_at
number_at l p = value_number (of_bits binary64 (u64_at l p)) (of_bits-fits binary64 (u64_at l p))

first_number : (ls : List (List ℕ)) → Holds Number (first (λ b. float_value_at b 2) ls)
first_number [] = tt
first_number (b ∷ ls) = number_at b 2

variable_number : (name : List ℕ) (ls : List (List ℕ)) → Holds Number (variable_of name (map variable_at ls))
unfolding variable_of variable_at
variable_number name [] = tt
variable_number name (b ∷ ls) = by (same_bytes (variable_at b).name name) (variable_number name ls)
  where
    by : (t : Bool) → Holds Number (variable_of name (map variable_at ls)) → Holds Number (pick t (Some (variable_at b).value) (variable_of name (map variable_at ls)))
    by true h = number_at b _
    by false h = h

or_number : (a b : Option Float) (d : Float) → Holds Number a → Holds Number b → Number d → Number (unwrap_or (option_or a b) d)
or_number None None d h k w = w
or_number None (Some y) d h k w = k
or_number (Some x) b d h k w = h

-- ---- signs: no minus. A value that is not finite is tested later.
abbrev plus : Float → Bool
plus nan = true
plus (inf s) = not s
plus (fin s m e) = not s

cond-plus : (b : Bool) (x y : Float) → T (plus x) → T (plus y) → T (plus (cond b x y))
cond-plus true x y h k = h
cond-plus false x y h k = k

round_plus : (a c : ℕ) → T (plus (round binary64 false a c))
round_plus a c = go (round binary64 false a c) (round_nonneg binary64 a c)
  where
    go : (z : Float) → T (nonneg z) → T (plus z)
    go nan h = tt
    go (inf s) h = h
    go (fin s m e) h = h

mul-plus : (x y : Float) → T (plus x) → T (plus y) → T (plus (mul binary64 x y))
unfolding mul
mul-plus nan y h k = tt
mul-plus (inf true) y h k = absurd h
mul-plus (inf false) nan h k = tt
mul-plus (inf false) (inf true) h k = absurd k
mul-plus (inf false) (inf false) h k = tt
mul-plus (inf false) (fin true n d) h k = absurd k
mul-plus (inf false) (fin false n d) h k = cond-plus (eqb n 0) nan (inf false) tt tt
mul-plus (fin true m e) y h k = absurd h
mul-plus (fin false m e) nan h k = tt
mul-plus (fin false m e) (inf true) h k = absurd k
mul-plus (fin false m e) (inf false) h k = cond-plus (eqb m 0) nan (inf false) tt tt
mul-plus (fin false m e) (fin true n d) h k = absurd k
mul-plus (fin false m e) (fin false n d) h k = round_plus (m * up e * (n * up d)) (down e * down d)

div-plus : (x y : Float) → T (plus x) → T (plus y) → T (plus (div binary64 x y))
unfolding div
div-plus nan y h k = tt
div-plus (inf true) y h k = absurd h
div-plus (inf false) nan h k = tt
div-plus (inf false) (inf t) h k = tt
div-plus (inf false) (fin true n d) h k = absurd k
div-plus (inf false) (fin false n d) h k = tt
div-plus (fin true m e) y h k = absurd h
div-plus (fin false m e) nan h k = tt
div-plus (fin false m e) (inf true) h k = absurd k
div-plus (fin false m e) (inf false) h k = tt
div-plus (fin false m e) (fin true n d) h k = absurd k
div-plus (fin false m e) (fin false n d) h k = cond-plus (eqb n 0) _ _ (cond-plus (eqb m 0) nan (inf false) tt tt) (round_plus (m * up e * down d) (n * up d * down e))

above-plus : (v : Float) → T (lt f0 v) → T (plus v)
unfolding lt of_bits
above-plus nan h = tt
above-plus (inf true) h = absurd h
above-plus (inf false) h = tt
above-plus (fin true m e) h = absurd h
above-plus (fin false m e) h = tt

not_below : (v : Float) → (T (le v f0) → ⊥) → T (plus v)
unfolding le of_bits
not_below nan h = tt
not_below (inf true) h = absurd (h tt)
not_below (inf false) h = tt
not_below (fin true m e) h = absurd (h (→le (fin true m e) f0 tt tt (omega arith)))
not_below (fin false m e) h = tt

rescale-plus : (x : Option Float) → not_above x ≡ false → T (plus (value_of x))
unfolding not_above value_of
rescale-plus None h = unfold of_bits in tt
rescale-plus (Some v) h = not_below v (no (le v f0) h)

plus-low : (v : Float) → T (finite v) → T (plus v) → T (le K.zero v)
plus-low nan f h = absurd f
plus-low (inf s) f h = absurd f
plus-low (fin s m e) f h = nonneg-low (fin s m e) h

-- ---- what the scene of such a stream is
pub record Tame (sc : Scene) : Type 0 where
  pub points : NearScene sc
  pub rescale : T (plus sc.rescale)
  pub bearing : Number (unwrap_or (declared_bearing sc) f0)

pub tame : (l : List ℕ) → length l ≤ longest → limited l ≡ true → not_above (rescale_in l) ≡ false → Tame (scene_of l)
unfolding scene_of float_value_at rescale_in
tame l m h k =
    let es = entries l 0 in
    record {
      points = limited-near l m h;
      rescale = rescale-plus (rescale_in l) k;
      bearing = or_number (scene_of l).bearing (var (scene_of l) geo_bearing) f0 (first_number (records_of 2 4 es)) (variable_number geo_bearing (records_of 4 0 es)) f0_number;
    }

-- ---- condition 8
swapped : (m : ℕ) (e : ℤ) → T (le (fin true m e) (fin false m e))
swapped m e = →le (fin true m e) (fin false m e) tt tt (omega arith)

abs_ends : (x : Float) → T (finite x) → T (le x (abs_of x)) × T (le (neg (abs_of x)) x)
unfolding abs_of neg
abs_ends nan f = absurd f
abs_ends (inf s) f = absurd f
abs_ends (fin true m e) f = (swapped m e, le_refl (fin true m e) tt)
abs_ends (fin false m e) f = (le_refl (fin false m e) tt, swapped m e)

abs_finite : (c x : Float) → T (finite c) → T (le (abs_of x) c) → T (finite x)
unfolding abs_of le
abs_finite nan x f h = absurd f
abs_finite (inf t) x f h = absurd f
abs_finite (fin t n d) nan f h = absurd h
abs_finite (fin t n d) (inf s) f h = absurd h
abs_finite (fin t n d) (fin s m e) f h = tt

abs_between : (c x : Float) → T (finite c) → le (abs_of x) c ≡ true → Between (neg c) c x
abs_between c x f h =
    let k = yes (le (abs_of x) c) h in
    let e = abs_ends x (abs_finite c x f k) in
    record { low = le_trans (neg c) (neg (abs_of x)) x (neg_le (abs_of x) c k) e.1; high = le_trans x (abs_of x) c e.0 k; fl = finite_neg c f; fh = f }

record OnMap (a b : Float) : Type 0 where
  lon : Between m180 K.c180 a
  lat : Between m85·06 c85·06 b

on_map : (lon lat : Float) → within_limits lon lat ≡ true → OnMap lon lat
unfolding within_limits
on_map lon lat h = record {
  lon = abs_between K.c180 lon (unfold of_bits in tt) (and_right (le (abs_of lat) c85·06) _ h);
  lat = abs_between c85·06 lat (unfold of_bits in tt) (and_left _ _ h);
}

lat_wider : (v : Float) → Between m85·06 c85·06 v → Between m89·5 c89·5 v
lat_wider v i = record { low = le_trans m89·5 m85·06 v (unfold of_bits neg le in tt) i.low; high = le_trans v c85·06 c89·5 i.high (unfold of_bits le in tt); fl = tt; fh = tt }

-- ---- control points: near, since a label's point is
abbrev EventNear : Event → Type 0
EventNear (control c) = Near c.x × Near c.y
EventNear (warn w) = Unit {0}

event-near : (m : Option Point) (b : Bool) (lon lat : Float) (w v : Warning) → Holds NearPoint m → EventNear (event_of m b lon lat w v)
unfolding event_of
event-near None b lon lat w v h = tt
event-near (Some p) true lon lat w v h = tt
event-near (Some p) false lon lat w v h = (h.x, h.y)

onto_near : (t : Bool) (e : Event) (es : List Event) → EventNear e → Each EventNear es → Each EventNear (cons_if t e es)
onto_near true e es h k = (h, k)
onto_near false e es h k = k

both_near : (es fs : List Event) → Each EventNear es → Each EventNear fs → Each EventNear (es ++ fs)
both_near [] fs h k = k
both_near (e ∷ es) fs h k = (h.0, both_near es fs h.1 k)

placed_in : (es : List Event) → Each EventNear es → all_within_limits (controls_in es) ≡ true → Each ControlWithin (controls_in es)
unfolding controls_in all_within_limits
placed_in [] h a = tt
placed_in (control c ∷ es) h a =
    let m = on_map c.lon c.lat (and_left _ _ a) in
    (record { x = h.0.0; y = h.0.1; lon = m.lon; lat = m.lat }, placed_in es h.1 (and_right (within_limits c.lon c.lat) _ a))
placed_in (warn w ∷ es) h a = placed_in es h.1 a

module _ (sc : Scene) (N : NearScene sc) where
  features_near : (i : ℕ) (fs : List NamedFeature) → Each EventNear (feature_events sc i fs)
  unfolding feature_events feature_event
  features_near i [] = tt
  features_near i (f ∷ fs) =
      (event-near (resolved sc f.name) (mentioned f.name (take i sc.features)) f.lon f.lat _ _ (label_near sc N f.name), features_near (suc i) fs)

  lon_near : (i : ℕ) (name : List ℕ) (lon : Float) (m : Option Float) → EventNear (lon_event sc i name lon m)
  unfolding lon_event
  lon_near i name lon None = tt
  lon_near i name lon (Some lat) = event-near (resolved sc name) (mentioned name sc.features) lon lat _ _ (label_near sc N name)

  variables_near : (i : ℕ) (vs : List NamedValue) → Each EventNear (variable_events sc i vs)
  unfolding variable_events
  variables_near i [] = tt
  variables_near i (v ∷ vs) =
      let name = stem v.name in
      let m = var sc (name ++ suffix_lat) in
      onto_near (is_lon v.name) (lon_event sc i name v.value m) (variable_events sc (suc i) vs) (lon_near i name v.value m) (variables_near (suc i) vs)

  pub controls_placed : all_within_limits (controls_of sc) ≡ true → Each ControlWithin (controls_of sc)
  unfolding controls_of events
  controls_placed a = placed_in (events sc) (both_near (feature_events sc 0 sc.features) (variable_events sc 0 sc.variables) (features_near 0 sc.features) (variables_near 0 sc.variables)) a

-- ---- the scale
is_true : (b : Bool) → not b ≡ false → b ≡ true
is_true true h = refl
is_true false h = absurd (true≢false h)

used_plus : (b : Bool) (m : Option Float) (v : Float) → T (plus v) → (b && not (above0 m)) ≡ false → T (plus (cond b (mul binary64 v (unwrap_or m f1)) v))
unfolding above0
used_plus false m v p h = p
used_plus true None v p h = absurd (true≢false h)
used_plus true (Some x) v p h = mul-plus v x p (above-plus x (yes (lt f0 x) (is_true (lt f0 x) h)))

effective_plus : (sc : Scene) → T (plus sc.rescale) → lt f0 (scale_value sc) ≡ true → (px_mode sc && not (above0 sc.view_scale)) ≡ false → T (plus (effective_scale sc))
unfolding effective_scale
effective_plus sc r s v =
    div-plus _ sc.rescale (used_plus (px_mode sc) sc.view_scale (scale_value sc) (above-plus (scale_value sc) (yes (lt f0 (scale_value sc)) s)) v) r

-- ---- refusals
-- 8, 9 and 11 to 14 for the control points cs
record Passes (sc : Scene) (cs : List Control) : Type 0 where
  all : all_within_limits cs ≡ true
  anchor : anchor_within_limits (anchor_of sc) ≡ true
  most : ltb 64 (length cs) ≡ false
  fit : (not (ltb (length cs) 2) && not (is_some (fit_of cs))) ≡ false
  above : (ltb (length cs) 2 && not (lt f0 (scale_value sc))) ≡ false
  view : (ltb (length cs) 2 && (px_mode sc && not (above0 sc.view_scale))) ≡ false
  scale : T (finite (registration_by sc (anchor_of sc) cs).scale)
  small : T (le (registration_by sc (anchor_of sc) cs).scale max_scale)

passes : (sc : Scene) → register_refusal sc ≡ 0 → Passes sc (controls_of sc)
unfolding of_registration registration_of
passes sc z =
    let cs = controls_of sc in
    let r = registration_by sc (anchor_of sc) cs in
    let after8 = (first-none (of_registration sc) (registration_numbered sc) z).1 in
    let after11 = after8.1.1.1 in
    let in-limits = is_true (all_within_limits cs && anchor_within_limits (anchor_of sc)) after8.0 in
    let fine = is_true (finite r.scale && le r.scale max_scale) after11.1.1.1.0 in
    record {
      all = and_left _ _ in-limits;
      anchor = and_right (all_within_limits cs) _ in-limits;
      most = after8.1.0;
      fit = after11.0;
      above = after11.1.0;
      view = after11.1.1.0;
      scale = yes (finite r.scale) (and_left _ _ fine);
      small = yes (le r.scale max_scale) (and_right (finite r.scale) _ fine);
    }

-- ---- the registration
zero_in : Between m180 K.c180 f0 × Between m89·5 c89·5 f0 × Near f0
unfolding of_bits neg le
zero_in = (record { low = tt; high = tt; fl = tt; fh = tt }, record { low = tt; high = tt; fl = tt; fh = tt }, record { low = tt; high = tt; fl = tt; fh = tt })

record OnEarth (p : Point) : Type 0 where
  lon : Between m180 K.c180 p.x
  lat : Between m89·5 c89·5 p.y

anchor_earth : (m : Option Point) → anchor_within_limits m ≡ true → OnEarth (unwrap_or m (record { x = f0; y = f0 }))
unfolding anchor_within_limits
anchor_earth None h = record { lon = zero_in.0; lat = zero_in.1 }
anchor_earth (Some p) h =
    let m = on_map p.x p.y h in
    record { lon = m.lon; lat = lat_wider p.y m.lat }

declared_sound : (sc : Scene) (a o : Point) (n : ℕ) → Tame sc → OnEarth a → NearPoint o → lt f0 (scale_value sc) ≡ true → (px_mode sc && not (above0 sc.view_scale)) ≡ false → T (finite (effective_scale sc)) → T (le (effective_scale sc) max_scale)
    → Sound (declared_at sc a o n)
declared_sound sc a o n t e p s v f m = record {
  lon = e.lon;
  lat = e.lat;
  x = p.x;
  y = p.y;
  scale = record { low = plus-low (effective_scale sc) f (effective_plus sc t.rescale s v); high = m; fl = unfold of_bits in tt; fh = unfold of_bits in tt };
  bearing = t.bearing.is_finite;
  of_format = t.bearing.of_format;
}

fitted_sound : (f : Fit) (n : ℕ) → Fitted f → T (le f.scale max_scale) → Sound (fitted f n)
fitted_sound f n F s = record {
  lon = F.lon;
  lat = F.lat;
  x = F.x;
  y = F.y;
  scale = record { low = lt→le K.zero f.scale F.above; high = s; fl = unfold of_bits in tt; fh = unfold of_bits in tt };
  bearing = in_finite m180 K.c180 f.bearing F.bearing;
  of_format = F.of_format;
}

fit_sound : (f : Option Fit) (n : ℕ) → IfSome f Fitted → is_some f ≡ true → T (le (fitted (unwrap_or f no_fit) n).scale max_scale) → Sound (fitted (unwrap_or f no_fit) n)
fit_sound (Some f) n F e s = fitted_sound f n F s
fit_sound None n F e s = absurd (cc)

registered : (sc : Scene) (cs : List Control) → Tame sc → Each ControlWithin cs → Passes sc cs → Sound (registration_by sc (anchor_of sc) cs)
unfolding registration_by
registered sc [] t c p =
    declared_sound sc _ (record { x = f0; y = f0 }) 0 t (anchor_earth (anchor_of sc) p.anchor) (record { x = zero_in.2; y = zero_in.2 }) (is_true (lt f0 (scale_value sc)) p.above) p.view p.scale p.small
registered sc (k ∷ []) t c p =
    declared_sound sc (record { x = k.lon; y = k.lat }) (record { x = k.x; y = k.y }) 1 t
    (record { lon = c.0.lon; lat = lat_wider k.lat c.0.lat }) (record { x = c.0.x; y = c.0.y })
    (is_true (lt f0 (scale_value sc)) p.above) p.view p.scale p.small
registered sc (k ∷ j ∷ cs) t c p =
    fit_sound (fit_of (k ∷ j ∷ cs)) (length (k ∷ j ∷ cs))
    (fit_in (k ∷ j ∷ cs) (ltb-false 64 (length (k ∷ j ∷ cs)) p.most) c)
    (is_true (is_some (fit_of (k ∷ j ∷ cs))) (rw (le-ltb (length (k ∷ j ∷ cs)) 2 (omega arith)) at p.fit)) p.small

pub tame_sound : (sc : Scene) → Tame sc → register_refusal sc ≡ 0 → Sound (registration_of sc)
unfolding registration_of
tame_sound sc t h =
    let p = passes sc h in
    registered sc (controls_of sc) t (controls_placed sc t.points p.all) p

-- ---- the law
pub accepted_tame : (s : List ℕ) → refusal_of s ≡ 0 → Tame (scene_of (payload s))
accepted_tame s h = tame (payload s) (omega (arith, payload-length s, is-short s h)) (is-limited s h) (is_rescaled s h)

pub accepted_sound : (s : List ℕ) → refusal_of s ≡ 0 → register_refusal (scene_of (payload s)) ≡ 0 → Sound (registration_of (scene_of (payload s)))
accepted_sound s h k = tame_sound (scene_of (payload s)) (accepted_tame s h) k
