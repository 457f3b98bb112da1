-- What an accepted stream's events are, and what the host then holds. Assumes nothing.
use Rattle.std.specs.Prelude.{ℕ, zero, suc, ◌*◌, ◌/◌, ◌≡◌, Bool, true, false, not, ◌&&◌, cond, length, drop, eqb, Float, Option, None, Some, is_some}
use Rattle.std.proofs.Math.Path.{refl, sym, ap}
use Rattle.std.proofs.Common.{◌∙◌, arith, eq-eqb}
use Rattle.std.proofs.lemmas.Bool.{false≢true}
use mathlib.Core.List.{List, [], ◌∷◌, ◌++◌, map}
use Rattle.std.specs.Float.Ieee.{lt}
use Rattle.stream.specs.Conditions.{first_of}
use Rattle.stream.specs.Payload.{payload}
use Rattle.records.specs.Limits.{is_finite}
use Rattle.records.specs.Values.{one, thousand, step_in, outside_bounds}
use Rattle.records.specs.Laws.Refusals.{is-step, is_finite_step}
use Rattle.kind_table.specs.KindTable.{entry_of}
use Rattle.scene.specs.Scene.{value_of, NamedFeature, NamedValue, Scene, scene_of}
use Rattle.values.specs.declared.Point.{Point}
use Rattle.projection.specs.Projection.{geo_of, project_point}
use Rattle.projection.specs.Laws.Projects.{geo_projects}
use Rattle.register.specs.Register as register
use Rattle.register.specs.Register.{f0, is_lon, stem, suffix_lat, var, resolved, mentioned, event_of, feature_event, feature_events, lon_event, cons_if, variable_events, events, registration_of, anchor_of, px_mode, half_anchor, controls_of, only, ignored, any_declared, ignored_with, view_warnings, half_warnings, register_warnings}
use Rattle.values.specs.Warnings.{Warning}
use Rattle.register.specs.Laws.Sound.{accepted_tame, accepted_sound}
use Rattle.budget.specs.Budget.{allowance_of, fresh}
use Rattle.budget.specs.Draws.{left_after, Claim}
use Rattle.budget.specs.Laws.Draws.{claim}
use Rattle.densify.specs.Densify.{GrantedDraw}
use Rattle.densify.specs.Draws.{draws_of, Granted, fell_short}
use Rattle.densify.specs.Laws.Allowances.{both_false}
use Rattle.convert.specs.Convert.{convert_of}
use Rattle.strokes.specs.Strokes.{Event, warned, draws_in}
use Rattle.strokes.specs.Features.{AllWellFormed, positions_in, features_in, warnings_in, features_at, warnings_at, any_of_kind}
use Rattle.convert.specs.Laws.Draws.{trace_left, trace_hit, convert_replays, any_append, spent-warned}
use Rattle.convert.specs.Laws.Features.{convert_well_formed}
use Rattle.strokes.specs.Laws.Reading.{ReadBack, reads_back}
use Rattle.geopic.specs.Geopic.{ctx_of, trace_of, Buffers, unused, output_of, early, number_of, acceptance, answer_of, clear, buffers_after, slice_by}
use Rattle.geopic.specs.Laws.Conditions.{number_is, none-early, early-none, by_space}

-- the registration's warnings draw nothing and give no feature
pub warnings_draws : (ws : List Warning) (es : List Event) → draws_in (map warned ws ++ es) ≡ draws_in es
unfolding draws_in
warnings_draws [] es = refl
warnings_draws (w ∷ ws) es = warnings_draws ws es

warnings_features : (ws : List Warning) (es : List Event) → features_in (map warned ws ++ es) ≡ features_in es
unfolding features_in
warnings_features [] es = refl
warnings_features (w ∷ ws) es = warnings_features ws es

warnings_warnings : (ws : List Warning) (es : List Event) → warnings_in (map warned ws ++ es) ≡ ws ++ warnings_in es
unfolding warnings_in
warnings_warnings [] es = refl
warnings_warnings (w ∷ ws) es = ap (λ (l : List Warning). w ∷ l) (warnings_warnings ws es)

-- ---- none of the registration's warnings is 6
abbrev NoSix : List Warning → Type 0
NoSix ws = any_of_kind 6 ws ≡ false

append_no_six : (a b : List Warning) → NoSix a → NoSix b → NoSix (a ++ b)
append_no_six a b h k = any_append 6 a b ∙ rw (h, k)

only_no_six : (b : Bool) (w : Warning) → eqb w.kind 6 ≡ false → NoSix (only b w)
unfolding any_of_kind
only_no_six true w h = rw h
only_no_six false w h = refl

event_no_six : (m : Option Point) (b : Bool) (lon lat : Float) (lost again : Warning) (es : List register.Event) → eqb lost.kind 6 ≡ false → eqb again.kind 6 ≡ false
    → NoSix (register.warnings_in es) → NoSix (register.warnings_in (event_of m b lon lat lost again ∷ es))
unfolding event_of register.warnings_in any_of_kind
event_no_six None b lon lat lost again es h k n = rw h n
event_no_six (Some p) true lon lat lost again es h k n = rw k n
event_no_six (Some p) false lon lat lost again es h k n = n

features_no_six : (sc : Scene) (i : ℕ) (fs : List NamedFeature) (es : List register.Event) → NoSix (register.warnings_in es) → NoSix (register.warnings_in (feature_events sc i fs ++ es))
unfolding feature_events feature_event
features_no_six sc i [] es n = n
features_no_six sc i (f ∷ fs) es n = event_no_six _ _ _ _ _ _ _ refl refl (features_no_six sc (suc i) fs es n)

lon_no_six : (sc : Scene) (i : ℕ) (name : List ℕ) (lon : Float) (m : Option Float) (es : List register.Event) → NoSix (register.warnings_in es)
    → NoSix (register.warnings_in (lon_event sc i name lon m ∷ es))
unfolding lon_event register.warnings_in any_of_kind
lon_no_six sc i name lon None es n = n
lon_no_six sc i name lon (Some lat) es n =
    event_no_six (resolved sc name) (mentioned name sc.features) lon lat (record { kind = 2; index = i }) (record { kind = 3; index = i }) es refl refl n

onto_no_six : (b : Bool) (e : register.Event) (es : List register.Event) → NoSix (register.warnings_in (e ∷ es)) → NoSix (register.warnings_in es) → NoSix (register.warnings_in (cons_if b e es))
onto_no_six true e es h k = h
onto_no_six false e es h k = k

variables_no_six : (sc : Scene) (i : ℕ) (vs : List NamedValue) → NoSix (register.warnings_in (variable_events sc i vs))
unfolding variable_events register.warnings_in any_of_kind
variables_no_six sc i [] = refl
variables_no_six sc i (v ∷ vs) =
    let es = variable_events sc (suc i) vs in
    let e = lon_event sc i (stem v.name) v.value (var sc (stem v.name ++ suffix_lat)) in
    let rest = variables_no_six sc (suc i) vs in
    onto_no_six (is_lon v.name) e es (lon_no_six sc i (stem v.name) v.value (var sc (stem v.name ++ suffix_lat)) es rest) rest

ignored_no_six : (n : ℕ) (sc : Scene) → NoSix (ignored_with n sc)
unfolding ignored_with any_of_kind
ignored_no_six zero sc = refl
ignored_no_six (suc zero) sc = only_no_six (is_some (anchor_of sc)) (record { kind = 4; index = 0 }) refl
ignored_no_six (suc (suc n)) sc =
    append_no_six (ignored (any_declared sc)) (ignored (is_some (anchor_of sc))) (only_no_six (any_declared sc) (record { kind = 4; index = 0 }) refl) (only_no_six (is_some (anchor_of sc)) (record { kind = 4; index = 0 }) refl)

view_no_six : (sc : Scene) → NoSix (view_warnings sc)
unfolding view_warnings
view_no_six sc = only_no_six (is_some sc.view_scale && not (px_mode sc)) (record { kind = 1; index = 0 }) refl

half_no_six : (sc : Scene) → NoSix (half_warnings sc)
unfolding half_warnings
half_no_six sc = only_no_six (half_anchor sc) (record { kind = 2; index = 0 }) refl

events_no_six : (sc : Scene) → NoSix (register.warnings_in (events sc))
unfolding events
events_no_six sc = features_no_six sc 0 sc.features (variable_events sc 0 sc.variables) (variables_no_six sc 0 sc.variables)

register_no_six : (sc : Scene) → NoSix (register_warnings sc)
unfolding register_warnings
register_no_six sc =
    let last = ignored_with (length (controls_of sc)) sc in
    append_no_six (view_warnings sc) (register.warnings_in (events sc) ++ (half_warnings sc ++ last)) (view_no_six sc)
    (append_no_six (register.warnings_in (events sc)) (half_warnings sc ++ last) (events_no_six sc)
    (append_no_six (half_warnings sc) last (half_no_six sc) (ignored_no_six (length (controls_of sc)) sc)))

-- ---- a scene drawn by any kind table from any allowance
module _ (sc : Scene) (kinds : List ℕ) (allowance : ℕ) where
  draws_are : draws_in (trace_of kinds allowance sc).events ≡ draws_in (convert_of (entry_of kinds) (ctx_of sc) sc.items (fresh allowance)).events
  unfolding trace_of
  draws_are = warnings_draws (register_warnings sc) _

  pub scene_claim : Claim allowance (draws_of (draws_in (trace_of kinds allowance sc).events))
  scene_claim = claim allowance (draws_of (draws_in (trace_of kinds allowance sc).events))

  pub scene_grants : Granted (fresh allowance) (draws_in (trace_of kinds allowance sc).events)
  scene_grants = rw draws_are (convert_replays (entry_of kinds) (ctx_of sc) sc.items (fresh allowance)).grants

  pub drawn_left : (trace_of kinds allowance sc).after.left ≡ left_after allowance (draws_of (draws_in (trace_of kinds allowance sc).events))
  unfolding trace_of
  drawn_left = trace_left (convert_replays (entry_of kinds) (ctx_of sc) sc.items (fresh allowance)) ∙ ap (λ (ds : List GrantedDraw). left_after allowance (draws_of ds)) (sym draws_are)

  pub drawn_hit : (trace_of kinds allowance sc).after.hit ≡ fell_short (draws_in (trace_of kinds allowance sc).events)
  unfolding trace_of
  drawn_hit = trace_hit (convert_replays (entry_of kinds) (ctx_of sc) sc.items (fresh allowance)) ∙ ap fell_short (sym draws_are)

  warning_is : any_of_kind 6 (warnings_in (trace_of kinds allowance sc).events) ≡ (trace_of kinds allowance sc).after.hit
  unfolding trace_of
  warning_is =
      ap (any_of_kind 6) (warnings_warnings (register_warnings sc) _)
      ∙ any_append 6 (register_warnings sc) _
      ∙ rw (register_no_six sc) (spent-warned (entry_of kinds) (ctx_of sc) sc.items (fresh allowance))

-- ---- a step that condition 19 lets pass
within_bounds : (x : Option Float) → is_finite x ≡ true → outside_bounds x ≡ false → (x ≡ Some (value_of x)) × (lt (value_of x) one ≡ false) × (lt thousand (value_of x) ≡ false)
unfolding is_finite outside_bounds value_of
within_bounds None f h = absurd (false≢true f)
within_bounds (Some v) f h = let n = both_false (lt v one) (lt thousand v) h in (refl, n.0, n.1)

module _ (s : List ℕ) where
  abbrev sc : Scene
  sc = scene_of (payload s)

  pub scene-geo : (p : Point) → project_point (ctx_of sc).projection p ≡ (let g = geo_of (registration_of sc) p.x p.y in record { x = g.lon; y = g.lat })
  unfolding project_point
  scene-geo p = rw geo_projects

  module _ (kinds : List ℕ) (tier : ℕ) (t : Buffers) (h : (answer_of s kinds tier t).number ≡ 0) where
    abbrev allowance : ℕ
    allowance = allowance_of tier

    is_number : number_of s kinds tier t ≡ 0
    unfolding number_of
    is_number = sym (number_is s kinds tier t) ∙ h

    is-early : first_of (early s kinds) ≡ 0
    is-early = none-early s kinds tier t is_number

    -- ---- the events
    pub scene_well_formed : AllWellFormed (features_in (trace_of kinds allowance sc).events)
    unfolding trace_of
    scene_well_formed =
        let read = (early-none s kinds is-early).0 in
        let registered = (early-none s kinds is-early).1 in
        rw (warnings_features (register_warnings sc))
        (convert_well_formed (entry_of kinds) (registration_of sc) sc.step sc.flatten sc.items (fresh allowance) (accepted_sound s read registered) (accepted_tame s read).points.items)

    pub scene-step : (step_in (payload s) ≡ Some sc.step) × (lt sc.step one ≡ false) × (lt thousand sc.step ≡ false)
    unfolding scene_of
    scene-step = let read = (early-none s kinds is-early).0 in within_bounds (step_in (payload s)) (is_finite_step s read) (is-step s read)

    -- ---- the answer
    pub answer-is : answer_of s kinds tier t ≡ acceptance (registration_of sc) (output_of kinds allowance sc t) (trace_of kinds allowance sc).after
    unfolding answer_of
    answer-is = rw (eq-eqb (number_of s kinds tier t) 0 is_number)

    pub scene_left : (answer_of s kinds tier t).left ≡ left_after allowance (draws_of (draws_in (trace_of kinds allowance sc).events))
    scene_left = rw answer-is (drawn_left sc kinds allowance)

    pub scene-spent : (answer_of s kinds tier t).spent ≡ cond (fell_short (draws_in (trace_of kinds allowance sc).events)) 1 0
    scene-spent = rw (answer-is, drawn_hit sc kinds allowance)

    -- ---- the slices
    buffers_is : buffers_after s kinds tier t ≡ record { work = clear f0 (length t.work); positions = (output_of kinds allowance sc t).positions; features = (output_of kinds allowance sc t).features; warnings = (output_of kinds allowance sc t).warnings }
    unfolding buffers_after slice_by
    buffers_is = rw (is-early, is_number)

    output_number : (output_of kinds allowance sc t).number ≡ 0
    output_number = sym (by_space s kinds tier t is-early) ∙ is_number

    read_back : ReadBack (trace_of kinds allowance sc).events (unused t) (output_of kinds allowance sc t)
    unfolding output_of
    read_back = reads_back (trace_of kinds allowance sc).events (unused t) refl refl refl scene_well_formed output_number

    pub scene_features : features_at (buffers_after s kinds tier t).features (buffers_after s kinds tier t).positions 0 0 (answer_of s kinds tier t).features ≡ features_in (trace_of kinds allowance sc).events
    scene_features = rw (buffers_is, answer-is) read_back.features

    pub formed_read : AllWellFormed (features_at (buffers_after s kinds tier t).features (buffers_after s kinds tier t).positions 0 0 (answer_of s kinds tier t).features)
    formed_read = rw scene_features scene_well_formed

    pub scene_warnings : warnings_at (buffers_after s kinds tier t).warnings 0 (answer_of s kinds tier t).warnings ≡ warnings_in (trace_of kinds allowance sc).events
    scene_warnings = rw (buffers_is, answer-is) read_back.warnings

    pub scene_six : any_of_kind 6 (warnings_at (buffers_after s kinds tier t).warnings 0 (answer_of s kinds tier t).warnings) ≡ fell_short (draws_in (trace_of kinds allowance sc).events)
    scene_six = ap (any_of_kind 6) scene_warnings ∙ warning_is sc kinds allowance ∙ drawn_hit sc kinds allowance

    -- ---- the counts, and what stands behind what is used
    pub scene-counts : ((answer_of s kinds tier t).positions ≡ length (positions_in (features_in (trace_of kinds allowance sc).events))) × ((answer_of s kinds tier t).features ≡ length (features_in (trace_of kinds allowance sc).events))
        × ((answer_of s kinds tier t).warnings ≡ length (warnings_in (trace_of kinds allowance sc).events))
    scene-counts = rw answer-is (omega (arith, read_back.used_positions), omega (arith, read_back.used_features), omega (arith, read_back.used_warnings))

    pub scene_tails : (drop (2 * (answer_of s kinds tier t).positions) (buffers_after s kinds tier t).positions ≡ drop (2 * (answer_of s kinds tier t).positions) t.positions)
        × (drop (6 * (answer_of s kinds tier t).features) (buffers_after s kinds tier t).features ≡ drop (6 * (answer_of s kinds tier t).features) t.features)
        × (drop (2 * (answer_of s kinds tier t).warnings) (buffers_after s kinds tier t).warnings ≡ drop (2 * (answer_of s kinds tier t).warnings) t.warnings)
    scene_tails =
        let p : 2 * ((output_of kinds allowance sc t).used_positions / 2) ≡ (output_of kinds allowance sc t).used_positions = omega (arith, read_back.used_positions) in
        let f : 6 * ((output_of kinds allowance sc t).used_features / 6) ≡ (output_of kinds allowance sc t).used_features = omega (arith, read_back.used_features) in
        let w : 2 * ((output_of kinds allowance sc t).used_warnings / 2) ≡ (output_of kinds allowance sc t).used_warnings = omega (arith, read_back.used_warnings) in
        rw (buffers_is, answer-is, p, f, w) (read_back.tail_positions, read_back.tail_features, read_back.tail_warnings)
