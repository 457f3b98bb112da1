-- A scene whose draws did not fall short comes to the same events where more is left: draws, needs of work, features with their positions, warnings.
use Rattle.std.specs.Prelude.{ℕ, suc, ◌+◌, ◌≡◌, refl, Bool, true, false, ◌&&◌, cond, length, ltb, Option, None, Some, unwrap_or}
use Rattle.std.proofs.Common.{sym, subst}
use mathlib.Core.List.{List, [], ◌∷◌, ◌++◌, map}
use Rattle.std.proofs.Math.Dec.{leb}
use Rattle.budget.specs.declared.Budget.{Budget}
use Rattle.scene.specs.Scene.{DrawnPath, DrawnItem}
use Rattle.values.specs.declared.Point.{Point}
use Rattle.projection.specs.Projection.{project_point}
use Rattle.densify.specs.Densify.{Made, close_ring_of}
use Rattle.densify.specs.Laws.Allowances.{NoLess, Enough, Keeps, enough_append, path_keeps, densify_keeps, ellipse_keeps, box_keeps}
use Rattle.convert.specs.declared.shapes.Shape.{Shape}
use Rattle.convert.specs.declared.shapes.Shape.TheVariants.{Box, Ellipse, Circle, Dot, Points, Paths, Missing, Nothing}
use Rattle.strokes.specs.declared.state.Ctx.{Ctx}
use Rattle.strokes.specs.declared.state.Props.{Props}
use Rattle.convert.specs.Convert.{first_path, later_paths, outline_of, path_of, with_part, paths_of, shape_of, props_of, at, half, points_trace, paths_trace, drawn_of, item_of, items_of, spent_of, convert_of}
use Rattle.convert.specs.Laws.Draws.{draws_append, drew_draws}
use Rattle.strokes.specs.Strokes.{Event, drew, need, warned, Trace, no_events, one_event, and_then_trace, pick_trace, draws_trace, missing, positions_of, feature_of, stroke_of, draw_without_writing, point_of, fill_of, shape_trace, closed_outline, work_of, polyline_or_polygon_of, ring_trace, draws_in}

pub record SameTrace (t u : Trace) : Type 0 where
  pub events : u.events ≡ t.events
  pub after : NoLess t.after u.after

-- whatever the first comes to without falling short, the second comes to too
abbrev SameWhereEnough : Trace → Trace → Type 0
SameWhereEnough t u = Enough (draws_in t.events) → SameTrace t u

abbrev pub TraceKeepsFrom : (Budget → Trace) → Type 0
TraceKeepsFrom f = (a b : Budget) → NoLess a b → SameWhereEnough (f a) (f b)

-- ---- what a trace is made of
still_keeps : (es : List Event) → TraceKeepsFrom (λ (b : Budget). record { events = es; after = b })
still_keeps es a b n h = record { events = refl; after = n }

enough_both : (es fs : List Event) → Enough (draws_in (es ++ fs)) → Enough (draws_in es) × Enough (draws_in fs)
enough_both es fs h = enough_append (draws_in es) (draws_in fs) (subst Enough (draws_append es fs) h)

then_keeps : {t u : Trace} {f : Budget → Trace} → SameWhereEnough t u → TraceKeepsFrom f → SameWhereEnough (and_then_trace t f) (and_then_trace u f)
then_keeps {t} {u} {f} k g h =
    let e = enough_both t.events (f t.after).events h in
    let first = k e.0 in
    let second = g t.after u.after first.after e.1 in
    record { events = rw (first.events, second.events); after = second.after }

-- a producer's draws, then what its points come to
made_keeps : {m n : Made} (f : List Point → Budget → Trace) → Keeps m n → ((ps : List Point) → TraceKeepsFrom (f ps))
    → SameWhereEnough (and_then_trace (draws_trace m) (f m.points)) (and_then_trace (draws_trace n) (f n.points))
made_keeps {m} {n} f k g h =
    let e = enough_both (map drew m.draws) (f m.points m.after).events h in
    let first = k (subst Enough (drew_draws m.draws) e.0) in
    let second = g m.points m.after n.after first.after e.1 in
    record { events = rw (first.points, first.draws, second.events); after = rw first.points second.after }

pick_keeps : {t t' u u' : Trace} (c : Bool) → SameWhereEnough t u → SameWhereEnough t' u' → SameWhereEnough (pick_trace c t t') (pick_trace c u u')
pick_keeps true j k h = j h
pick_keeps false j k h = k h

-- warning 6, where the budget was hit
spent_keeps : TraceKeepsFrom spent_of
unfolding spent_of
spent_keeps a b n h = subst (λ (hit : Bool). SameTrace (spent_of a) (by hit b)) (sym n.hit) (alike a.hit)
  where
    by : Bool → Budget → Trace
    by hit r = pick_trace hit (one_event (warned (record { kind = 6; index = 0 })) r) (no_events r)

    alike : (hit : Bool) → SameTrace (by hit a) (by hit b)
    alike true = record { events = refl; after = n }
    alike false = record { events = refl; after = n }

-- ---- a line, a ring, a path
module _ (cx : Ctx) where
  module _ (p : Props) where
    stroke_keeps : (geometry role : ℕ) (ps : List Point) → TraceKeepsFrom (stroke_of cx p geometry role ps)
    unfolding stroke_of
    stroke_keeps geometry role ps a b n h =
        made_keeps (λ qs r. one_event (feature_of p geometry role (positions_of geometry (map (project_point cx.projection) qs))) r)
        (densify_keeps cx.step cx.projection.registration.scale ps a b n) (λ qs. still_keeps _) h

    unwritten_keeps : (ps : List Point) → TraceKeepsFrom (draw_without_writing cx p.item ps)
    unfolding draw_without_writing
    unwritten_keeps ps a b n h =
        made_keeps (λ qs r. missing p.item r) (densify_keeps cx.step cx.projection.registration.scale ps a b n) (λ qs. still_keeps _) h

    fill_keeps : (outline : Option (List Point)) (ring : List Point) → TraceKeepsFrom (fill_of cx p outline ring)
    unfolding fill_of
    fill_keeps outline ring a b n h =
        pick_keeps (p.fill && leb 4 (length (unwrap_or outline ring))) (stroke_keeps 2 1 (unwrap_or outline ring) a b n) (still_keeps [] a b n) h

    last_keeps : (closed : Bool) (ps : List Point) → TraceKeepsFrom (λ (r : Budget). pick_trace closed (draw_without_writing cx p.item ps r) (stroke_of cx p 1 0 ps r))
    last_keeps closed ps a b n h = pick_keeps closed (unwritten_keeps ps a b n) (stroke_keeps 1 0 ps a b n) h

    shape_keeps : (closed : Bool) (ps ring : List Point) (outline : Option (List Point)) → TraceKeepsFrom (shape_trace cx p closed ps ring outline)
    unfolding shape_trace
    shape_keeps closed ps ring outline a b n h =
        pick_keeps (ltb (length ps) 2) (still_keeps [] a b n)
        (pick_keeps (closed && leb 4 (length ring)) (stroke_keeps 2 0 ring a b n)
        (then_keeps (fill_keeps outline ring a b n) (last_keeps closed ps))) h

    polyline_keeps : (closed : Bool) (ps : List Point) (outline : Option (List Point)) → TraceKeepsFrom (polyline_or_polygon_of cx p closed ps outline)
    unfolding polyline_or_polygon_of
    polyline_keeps closed ps outline a b n h =
        let ring = close_ring_of ps in
        let closing = closed_outline outline in
        then_keeps (still_keeps (need (work_of closed ps ring closing) ∷ []) a b n) (shape_keeps closed ps ring closing) h

    ring_keeps : {m n : Made} → Keeps m n → SameWhereEnough (ring_trace cx p m) (ring_trace cx p n)
    unfolding ring_trace
    ring_keeps k h =
        made_keeps (λ ps r. and_then_trace (one_event (need (length ps + 1)) r) (λ q. stroke_of cx p 2 0 ps q)) k
        (λ ps a b n. then_keeps (still_keeps (need (length ps + 1) ∷ []) a b n) (stroke_keeps 2 0 ps)) h

    outline_keeps : (closed : Bool) (ps : List Point) (o : Option DrawnPath) → TraceKeepsFrom (outline_of cx p closed ps o)
    unfolding outline_of
    outline_keeps closed ps None a b n h = polyline_keeps closed ps None a b n h
    outline_keeps closed ps (Some o) a b n h =
        made_keeps (λ qs r. polyline_or_polygon_of cx p closed ps (Some qs) r) (path_keeps cx.flatten o a b n) (λ qs. polyline_keeps closed ps (Some qs)) h

    path_of_keeps : (path : DrawnPath) (o : Option DrawnPath) → TraceKeepsFrom (path_of cx p path o)
    unfolding path_of
    path_of_keeps path o a b n h =
        made_keeps (λ qs r. outline_of cx p path.closed qs o r) (path_keeps cx.flatten path a b n) (λ qs. outline_keeps path.closed qs o) h

    points_keeps : (closed : Bool) (ps outline : Option (List Point)) → TraceKeepsFrom (points_trace cx p closed ps outline)
    unfolding points_trace
    points_keeps closed None outline a b n h = still_keeps _ a b n h
    points_keeps closed (Some ps) outline a b n h = polyline_keeps closed ps outline a b n h

  paths_keeps : (p : Props) (many : Bool) (i : ℕ) (qs outlines : List DrawnPath) → TraceKeepsFrom (paths_of cx p many i qs outlines)
  unfolding paths_of
  paths_keeps p many i [] outlines a b n h = still_keeps [] a b n h
  paths_keeps p many i (q ∷ qs) outlines a b n h =
      then_keeps (path_of_keeps (with_part p (cond many (suc i) 0)) q (first_path outlines) a b n) (paths_keeps p many (suc i) qs (later_paths outlines)) h

  all_paths_keep : (p : Props) (qs outlines : List DrawnPath) → TraceKeepsFrom (paths_trace cx p qs outlines)
  unfolding paths_trace
  all_paths_keep p [] outlines a b n h = still_keeps _ a b n h
  all_paths_keep p (q ∷ qs) outlines a b n h = paths_keeps p (ltb 0 (length qs)) 0 (q ∷ qs) outlines a b n h

  -- ---- items
  drawn_keeps : (p : Props) (it : DrawnItem) (s : Shape) → TraceKeepsFrom (drawn_of cx p it s)
  unfolding drawn_of point_of
  drawn_keeps p it (Box x y w h rad) a b n e = ring_keeps p (box_keeps cx.step cx.projection.registration.scale cx.flatten (at x y) w h rad a b n) e
  drawn_keeps p it (Ellipse x y w h) a b n e = ring_keeps p (ellipse_keeps cx.step cx.projection.registration.scale cx.flatten (at x y) (half w) (half h) a b n) e
  drawn_keeps p it (Circle x y r) a b n e = ring_keeps p (ellipse_keeps cx.step cx.projection.registration.scale cx.flatten (at x y) r r a b n) e
  drawn_keeps p it (Dot x y) a b n e = still_keeps _ a b n e
  drawn_keeps p it Points a b n e = points_keeps p it.closed it.points it.fill_points a b n e
  drawn_keeps p it Paths a b n e = all_paths_keep p it.paths it.fill_paths a b n e
  drawn_keeps p it Missing a b n e = still_keeps _ a b n e
  drawn_keeps p it Nothing a b n e = still_keeps [] a b n e

  module _ (entry : ℕ → ℕ) where
    items_keep : (i : ℕ) (its : List DrawnItem) → TraceKeepsFrom (items_of entry cx i its)
    unfolding items_of item_of
    items_keep i [] a b n h = still_keeps [] a b n h
    items_keep i (it ∷ its) a b n h = then_keeps (drawn_keeps (props_of (entry it.kind) i it) it (shape_of (entry it.kind) it) a b n) (items_keep (suc i) its) h

    pub convert_keeps : (its : List DrawnItem) → TraceKeepsFrom (convert_of entry cx its)
    unfolding convert_of
    convert_keeps its a b n h = then_keeps (items_keep 0 its a b n) spent_keeps h
