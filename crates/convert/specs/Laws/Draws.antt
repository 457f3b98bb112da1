-- The draws of a trace, replayed through `take` from the budget that it was handed, give the budget that it hands back; and warning 6 stands where that budget was hit.
-- Assumes nothing.
use Rattle.std.specs.Prelude.{ℕ, suc, ◌≡◌, refl, Bool, true, false, ◌&&◌, ◌||◌, cond, length, eqb, ltb, Option, None, Some, unwrap_or}
use Rattle.std.proofs.Common.{sym, ap, subst, ◌∙◌}
use Rattle.std.proofs.Math.Bool.{or_assoc}
use mathlib.Core.List.{List, [], ◌∷◌, ◌++◌, map}
use Rattle.std.proofs.Math.Dec.{leb}
use Rattle.float.specs.Laws.Spans.{Each}
use Rattle.budget.specs.declared.Budget.{Budget}
use Rattle.budget.specs.Draws.{left_after}
use Rattle.scene.specs.Scene.{DrawnPath, DrawnItem}
use Rattle.values.specs.declared.Point.{Point}
use Rattle.values.specs.Warnings.{Warning}
use Rattle.densify.specs.Densify.{GrantedDraw, Made, close_ring_of, densify_polyline_of}
use Rattle.densify.specs.Laws.Bounds.{each_append}
use Rattle.densify.specs.Laws.Replay.{replayed, Replays, replayed-append, granted-append, replayed_left, replayed_hit, path_replays, densify_replays, ellipse_replays, box_replays}
use Rattle.densify.specs.Draws.{draws_of, Granted, fell_short}
use Rattle.convert.specs.declared.shapes.Shape.{Shape}
use Rattle.convert.specs.declared.shapes.Shape.TheVariants.{Box, Ellipse, Circle, Dot, Points, Paths, Missing, Nothing}
use Rattle.strokes.specs.declared.state.Ctx.{Ctx}
use Rattle.strokes.specs.declared.state.Props.{Props}
use Rattle.convert.specs.Convert.{first_path, later_paths, outline_of, path_of, with_part, paths_of, shape_of, props_of, at, half, points_trace, paths_trace, drawn_of, item_of, items_of, spent_of, convert_of}
use Rattle.strokes.specs.Strokes.{Event, drew, need, feature, warned, Trace, no_events, one_event, and_then_trace, pick_trace, draws_trace, missing, feature_of, stroke_of, draw_without_writing, point_of, fill_of, shape_trace, closed_outline, polyline_or_polygon_of, ring_trace, draws_in}
use Rattle.strokes.specs.Features.{warnings_in, any_of_kind}

pub record TraceReplays (b : Budget) (t : Trace) : Type 0 where
  pub after_is : t.after ≡ replayed b (draws_in t.events)
  pub grants : Granted b (draws_in t.events)

module _ {b : Budget} {t : Trace} (r : TraceReplays b t) where
  pub trace_left : t.after.left ≡ left_after b.left (draws_of (draws_in t.events))
  trace_left = ap (λ (x : Budget). x.left) r.after_is ∙ replayed_left b (draws_in t.events)

  pub trace_hit : t.after.hit ≡ b.hit || fell_short (draws_in t.events)
  trace_hit = ap (λ (x : Budget). x.hit) r.after_is ∙ replayed_hit b (draws_in t.events) r.grants

-- ---- lists of events
pub draws_append : (es fs : List Event) → draws_in (es ++ fs) ≡ draws_in es ++ draws_in fs
unfolding draws_in
draws_append [] fs = refl
draws_append (drew d ∷ es) fs = ap (◌∷◌ d) (draws_append es fs)
draws_append (need n ∷ es) fs = draws_append es fs
draws_append (feature f ps ∷ es) fs = draws_append es fs
draws_append (warned w ∷ es) fs = draws_append es fs

warnings_append : (es fs : List Event) → warnings_in (es ++ fs) ≡ warnings_in es ++ warnings_in fs
unfolding warnings_in
warnings_append [] fs = refl
warnings_append (drew d ∷ es) fs = warnings_append es fs
warnings_append (need n ∷ es) fs = warnings_append es fs
warnings_append (feature f ps ∷ es) fs = warnings_append es fs
warnings_append (warned w ∷ es) fs = ap (◌∷◌ w) (warnings_append es fs)

pub drew_draws : (ds : List GrantedDraw) → draws_in (map drew ds) ≡ ds
unfolding draws_in
drew_draws [] = refl
drew_draws (d ∷ ds) = ap (◌∷◌ d) (drew_draws ds)

drew_warnings : (ds : List GrantedDraw) → warnings_in (map drew ds) ≡ []
unfolding warnings_in
drew_warnings [] = refl
drew_warnings (d ∷ ds) = drew_warnings ds

-- ---- one trace after another
still_replays : (es : List Event) (b : Budget) → draws_in es ≡ [] → TraceReplays b (record { events = es; after = b })
unfolding replayed
still_replays es b h = record { after_is = rw h; grants = rw h tt }

-- the second told from the budget that the first left
abbrev joined : Trace → Trace → Trace
joined t u = and_then_trace t (λ r. u)

then_replays : {b : Budget} {t u : Trace} → TraceReplays b t → TraceReplays t.after u → TraceReplays b (joined t u)
then_replays {b} {t} {u} h k =
    let ds = draws_in t.events in
    let es = draws_in u.events in
    let e = draws_append t.events u.events in
    record {
      after_is = k.after_is ∙ ap (λ x. replayed x es) h.after_is ∙ rw (e, replayed-append);
      grants = rw e (granted-append b ds es h.grants (subst (λ x. Granted x es) h.after_is k.grants));
    }

-- ---- what an item draws: its draws replay, and each warning of it has the kind 5
abbrev pub Five : Warning → Type 0
Five w = w.kind ≡ 5

record Told (b : Budget) (t : Trace) : Type 0 where
  replays : TraceReplays b t
  fives : Each Five (warnings_in t.events)

told_no_events : (b : Budget) → Told b (no_events b)
unfolding draws_in warnings_in
told_no_events b = record { replays = still_replays [] b refl; fives = tt }

told_need : (n : ℕ) (b : Budget) → Told b (one_event (need n) b)
unfolding draws_in warnings_in
told_need n b = record { replays = still_replays (need n ∷ []) b refl; fives = tt }

told-feature : (p : Props) (geometry role : ℕ) (ps : List Point) (b : Budget) → Told b (one_event (feature_of p geometry role ps) b)
unfolding feature_of draws_in warnings_in
told-feature p geometry role ps b = record { replays = still_replays (feature_of p geometry role ps ∷ []) b refl; fives = tt }

told-missing : (item : ℕ) (b : Budget) → Told b (missing item b)
unfolding draws_in warnings_in
told-missing item b = record { replays = still_replays (missing item b).events b refl; fives = (refl, tt) }

told_draws : {b : Budget} {m : Made} → Replays b m → Told b (draws_trace m)
told_draws {b} {m} r =
    let e = drew_draws m.draws in
    record { replays = record { after_is = rw e r.after_is; grants = rw e r.grants }; fives = rw drew_warnings tt }

told_then : {b : Budget} {t u : Trace} → Told b t → Told t.after u → Told b (joined t u)
told_then {b} {t} {u} h k =
    record {
      replays = then_replays h.replays k.replays;
      fives = rw warnings_append (each_append Five (warnings_in t.events) (warnings_in u.events) h.fives k.fives);
    }

told-pick : {b : Budget} {t u : Trace} (c : Bool) → Told b t → Told b u → Told b (pick_trace c t u)
told-pick true h k = h
told-pick false h k = k

module _ (cx : Ctx) where
  told-densified : (ps : List Point) (b : Budget) → Told b (draws_trace (densify_polyline_of cx.step cx.projection.registration.scale ps b))
  told-densified ps b = told_draws (densify_replays cx.step cx.projection.registration.scale ps b)

  module _ (p : Props) where
    told_stroke : (geometry role : ℕ) (ps : List Point) (b : Budget) → Told b (stroke_of cx p geometry role ps b)
    unfolding stroke_of
    told_stroke geometry role ps b = told_then (told-densified ps b) (told-feature p geometry role _ _)

    told-not_written : (ps : List Point) (b : Budget) → Told b (draw_without_writing cx p.item ps b)
    unfolding draw_without_writing
    told-not_written ps b = told_then (told-densified ps b) (told-missing p.item _)

    told_fill : (outline : Option (List Point)) (ring : List Point) (b : Budget) → Told b (fill_of cx p outline ring b)
    unfolding fill_of
    told_fill outline ring b = told-pick (p.fill && leb 4 (length (unwrap_or outline ring))) (told_stroke 2 1 (unwrap_or outline ring) b) (told_no_events b)

    told_shape : (closed : Bool) (ps ring : List Point) (outline : Option (List Point)) (b : Budget) → Told b (shape_trace cx p closed ps ring outline b)
    unfolding shape_trace
    told_shape closed ps ring outline b =
        told-pick (ltb (length ps) 2) (told_no_events b)
        (told-pick (closed && leb 4 (length ring)) (told_stroke 2 0 ring b)
        (told_then (told_fill outline ring b) (told-pick closed (told-not_written ps _) (told_stroke 1 0 ps _))))

    told-polyline : (closed : Bool) (ps : List Point) (outline : Option (List Point)) (b : Budget) → Told b (polyline_or_polygon_of cx p closed ps outline b)
    unfolding polyline_or_polygon_of
    told-polyline closed ps outline b = told_then (told_need _ b) (told_shape closed ps (close_ring_of ps) (closed_outline outline) b)

    told-ring : {b : Budget} {m : Made} → Replays b m → Told b (ring_trace cx p m)
    unfolding ring_trace
    told-ring {b} {m} r = told_then (told_draws r) (told_then (told_need _ _) (told_stroke 2 0 m.points _))

    told_outline : (closed : Bool) (ps : List Point) (o : Option DrawnPath) (b : Budget) → Told b (outline_of cx p closed ps o b)
    unfolding outline_of
    told_outline closed ps None b = told-polyline closed ps None b
    told_outline closed ps (Some o) b = told_then (told_draws (path_replays cx.flatten o b)) (told-polyline closed ps _ _)

    told-path : (path : DrawnPath) (o : Option DrawnPath) (b : Budget) → Told b (path_of cx p path o b)
    unfolding path_of
    told-path path o b = told_then (told_draws (path_replays cx.flatten path b)) (told_outline path.closed _ o _)

    told-points : (closed : Bool) (ps outline : Option (List Point)) (b : Budget) → Told b (points_trace cx p closed ps outline b)
    unfolding points_trace
    told-points closed None outline b = told-missing p.item b
    told-points closed (Some ps) outline b = told-polyline closed ps outline b

  told_paths : (p : Props) (many : Bool) (i : ℕ) (qs outlines : List DrawnPath) (b : Budget) → Told b (paths_of cx p many i qs outlines b)
  unfolding paths_of
  told_paths p many i [] outlines b = told_no_events b
  told_paths p many i (q ∷ qs) outlines b =
      told_then (told-path (with_part p (cond many (suc i) 0)) q (first_path outlines) b) (told_paths p many (suc i) qs (later_paths outlines) _)

  told-all_paths : (p : Props) (qs outlines : List DrawnPath) (b : Budget) → Told b (paths_trace cx p qs outlines b)
  unfolding paths_trace
  told-all_paths p [] outlines b = told-missing p.item b
  told-all_paths p (q ∷ qs) outlines b = told_paths p (ltb 0 (length qs)) 0 (q ∷ qs) outlines b

  told-drawn : (p : Props) (it : DrawnItem) (s : Shape) (b : Budget) → Told b (drawn_of cx p it s b)
  unfolding drawn_of point_of
  told-drawn p it (Box x y w h rad) b = told-ring p (box_replays cx.step cx.projection.registration.scale cx.flatten (at x y) w h rad b)
  told-drawn p it (Ellipse x y w h) b = told-ring p (ellipse_replays cx.step cx.projection.registration.scale cx.flatten (at x y) (half w) (half h) b)
  told-drawn p it (Circle x y r) b = told-ring p (ellipse_replays cx.step cx.projection.registration.scale cx.flatten (at x y) r r b)
  told-drawn p it (Dot x y) b = told-feature p 0 0 _ b
  told-drawn p it Points b = told-points p it.closed it.points it.fill_points b
  told-drawn p it Paths b = told-all_paths p it.paths it.fill_paths b
  told-drawn p it Missing b = told-missing p.item b
  told-drawn p it Nothing b = told_no_events b

  module _ (entry : ℕ → ℕ) where
    told_items : (i : ℕ) (its : List DrawnItem) (b : Budget) → Told b (items_of entry cx i its b)
    unfolding items_of item_of
    told_items i [] b = told_no_events b
    told_items i (it ∷ its) b = told_then (told-drawn (props_of (entry it.kind) i it) it (shape_of (entry it.kind) it) b) (told_items (suc i) its _)

-- ---- convert
-- the warning that the budget was hit
abbrev pub spent : Bool → List Warning
spent hit = cond hit (record { kind = 6; index = 0 } ∷ []) []

spent-told : (b : Budget) → let t = spent_of b in TraceReplays b t × (warnings_in t.events ≡ spent t.after.hit)
unfolding spent_of draws_in warnings_in
spent-told b = go b.hit refl
  where
    six : Trace
    six = one_event (warned (record { kind = 6; index = 0 })) b

    go : (h : Bool) → b.hit ≡ h → let t = pick_trace h six (no_events b) in TraceReplays b t × (warnings_in t.events ≡ spent t.after.hit)
    go true e = (still_replays six.events b refl, rw e)
    go false e = (still_replays [] b refl, rw e)

-- a warning of a kind among others
pub any_append : (k : ℕ) (a b : List Warning) → any_of_kind k (a ++ b) ≡ any_of_kind k a || any_of_kind k b
unfolding any_of_kind
any_append k [] b = refl
any_append k (w ∷ a) b = rw (any_append k a b) (sym (or_assoc (eqb w.kind k) (any_of_kind k a) (any_of_kind k b)))

none_six : (ws : List Warning) → Each Five ws → any_of_kind 6 ws ≡ false
unfolding any_of_kind
none_six [] h = refl
none_six (w ∷ ws) h = rw h.0 (none_six ws h.1)

spent_six : (hit : Bool) → any_of_kind 6 (spent hit) ≡ hit
unfolding any_of_kind
spent_six true = refl
spent_six false = refl

module _ (entry : ℕ → ℕ) (cx : Ctx) (its : List DrawnItem) (b : Budget) where
  pub convert_replays : TraceReplays b (convert_of entry cx its b)
  unfolding convert_of
  convert_replays = then_replays (told_items cx entry 0 its b).replays (spent-told _).0

  -- those of the items, none of which has the kind 6; then warning 6 exactly where the budget was hit
  pub convert_warnings : let t = convert_of entry cx its b in warnings_in t.events ≡ warnings_in (items_of entry cx 0 its b).events ++ spent t.after.hit
  unfolding convert_of
  convert_warnings = rw (warnings_append, (spent-told (items_of entry cx 0 its b).after).1)

  pub items_warnings : Each Five (warnings_in (items_of entry cx 0 its b).events)
  items_warnings = (told_items cx entry 0 its b).fives

  -- warning 6 stands where the budget was hit, and nowhere else
  pub spent-warned : any_of_kind 6 (warnings_in (convert_of entry cx its b).events) ≡ (convert_of entry cx its b).after.hit
  spent-warned =
      ap (any_of_kind 6) convert_warnings
      ∙ any_append 6 (warnings_in (items_of entry cx 0 its b).events) (spent (convert_of entry cx its b).after.hit)
      ∙ rw (none_six (warnings_in (items_of entry cx 0 its b).events) items_warnings) (spent_six (convert_of entry cx its b).after.hit)
