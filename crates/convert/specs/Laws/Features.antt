-- Every feature of a scene is what RFC 7946 says, and lies on the Earth: of a sound registration, and of items whose numbers are at most 1,000,000 in magnitude. Assumes nothing.
use Rattle.std.specs.Prelude.{ℕ, suc, ◌≤◌, ◌≡◌, refl, Bool, true, false, ◌&&◌, ◌||◌, cond, length, ltb, Float, Option, None, Some, unwrap_or}
use Rattle.std.proofs.Common.{arith, sym, ap, lit≤}
use Rattle.std.proofs.Math.Path.{subst}
use mathlib.Core.List.{List, [], ◌∷◌, ◌++◌, map}
use Rattle.std.proofs.lemmas.List.{length-map}
use Rattle.std.proofs.Math.Dec.{eqb, leb}
use borrow.Author.Tests.{leb-true, ltb-false}
use Rattle.float.specs.Laws.Magnitude.{wider}
use Rattle.float.specs.Laws.Intervals.{in_finite}
use Rattle.float.specs.Laws.Spans.{Each, each_map}
use Rattle.elementary.specs.Constants as K
use Rattle.geodesy.specs.declared.LonLat.{LonLat}
use Rattle.geodesy.specs.Laws.Finite.{m180, m90, c90, OnEarth}
use Rattle.projection.specs.declared.Registration.{Registration}
use Rattle.projection.specs.Projection.{projection_of, project_point}
use Rattle.projection.specs.Laws.Projects.{geo_projects}
use Rattle.projection.specs.Laws.Project.{Sound, geo_in}
use Rattle.records.specs.Laws.Tests.{and_right}
use Rattle.scene.specs.Scene.{Cubic, Form, curve, polyline, DrawnPath, DrawnItem}
use Rattle.values.specs.declared.Point.{Point}
use Rattle.scene.specs.Laws.Near as R
use Rattle.scene.specs.Laws.Near.{Holds, NearItem}
use Rattle.budget.specs.declared.Budget.{Budget}
use Rattle.densify.specs.Densify.{GrantedDraw, Made, close_ring_of, path_points_of, densify_polyline_of, ellipse_ring_of, box_ring_of}
use Rattle.densify.specs.Laws.Bounds.{Near, NearPoint, NearCubic, NearForm, InPoint, close-each, near_in, nears_in, half-near, zero-near, path-near, densify_in, ellipse_in, box_in}
use Rattle.densify.specs.Laws.Counts.{densify_least, ring-least, ellipse_ring, box-ring}
use Rattle.geojson.specs.Rfc7946.{Positions, last_from, Closed, Geometry}
use Rattle.convert.specs.declared.shapes.Shape.{Shape}
use Rattle.convert.specs.declared.shapes.Shape.TheVariants.{Box, Ellipse, Circle, Dot, Points, Paths, Missing, Nothing}
use Rattle.strokes.specs.declared.state.Ctx.{Ctx}
use Rattle.strokes.specs.declared.state.Props.{Props}
use Rattle.kind_table.specs.KindTable.{not_drawn}
use Rattle.convert.specs.Convert.{first_path, later_paths, outline_of, path_of, with_part, paths_of, box_shape, ellipse_shape, circle_shape, dot_shape, pick_shape, box_of, ellipse_of, circle_of, dot_of, shape_of, props_of, at, half, points_trace, paths_trace, drawn_of, item_of, items_of, spent_of, convert_of}
use Rattle.strokes.specs.Strokes.{Event, drew, need, feature, warned, Trace, no_events, one_event, and_then_trace, pick_trace, draws_trace, missing, end_with, first_repeated, feature_of, stroke_of, draw_without_writing, point_of, fill_of, shape_trace, closed_outline, polyline_or_polygon_of, ring_trace}
use Rattle.strokes.specs.Features.{AllOnGlobe, AllWellFormed, features_in}

abbrev pub Earthly : Point → Type 0
Earthly p = OnEarth (record { lon = p.x; lat = p.y })

-- ---- positions
positions : (ps : List Point) → Each Earthly ps → Positions ps
positions [] h = tt
positions (p ∷ ps) h = (record { lon = in_finite m180 K.c180 p.x h.0.0; lat = in_finite m90 c90 p.y h.0.1 }, positions ps h.1)

globe : (ps : List Point) → Each Earthly ps → AllOnGlobe ps
globe [] h = tt
globe (p ∷ ps) h = (record { west = h.0.0.low; east = h.0.0.high; south = h.0.1.low; north = h.0.1.high }, globe ps h.1)

-- a ring's last position in the place of what stood there
end_length : (p : Point) (ps : List Point) → length (end_with p ps) ≡ length ps
end_length p [] = refl
end_length p (q ∷ []) = refl
end_length p (q ∷ r ∷ rs) = ap suc (end_length p (r ∷ rs))

end_last : (p x q : Point) (qs : List Point) → last_from x (end_with p (q ∷ qs)) ≡ p
end_last p x q [] = refl
end_last p x q (r ∷ rs) = end_last p q r rs

end_each : (Q : Point → Type 0) (p : Point) (ps : List Point) → Q p → Each Q ps → Each Q (end_with p ps)
end_each Q p [] h k = tt
end_each Q p (q ∷ []) h k = (h, tt)
end_each Q p (q ∷ r ∷ rs) h k = (k.0, end_each Q p (r ∷ rs) h k.1)

repeated_length : (ps : List Point) → length (first_repeated ps) ≡ length ps
repeated_length [] = refl
repeated_length (p ∷ ps) = ap suc (end_length p ps)

repeated_closed : (ps : List Point) → Closed (first_repeated ps)
repeated_closed [] = tt
repeated_closed (p ∷ []) = refl
repeated_closed (p ∷ q ∷ qs) = end_last p p q qs

repeated_each : (Q : Point → Type 0) (ps : List Point) → Each Q ps → Each Q (first_repeated ps)
repeated_each Q [] h = tt
repeated_each Q (p ∷ ps) h = (h.0, end_each Q p ps h.0 h.1)

-- ---- traces whose features are well formed
record Formed (t : Trace) : Type 0 where
  each : AllWellFormed (features_in t.events)

formed_feature : (p : Props) (geometry role : ℕ) (ps : List Point) (b : Budget) → Geometry geometry ps → Each Earthly ps → Formed (one_event (feature_of p geometry role ps) b)
unfolding feature_of features_in
formed_feature p geometry role ps b g h = record { each = (record { geometry = g; counted = refl; globe = globe ps h }, tt) }

formed_draws : (m : Made) → Formed (draws_trace m)
unfolding features_in
formed_draws m = record { each = go m.draws }
  where
    go : (ds : List GrantedDraw) → AllWellFormed (features_in (map drew ds))
    go [] = tt
    go (d ∷ ds) = go ds

formed_then : {t u : Trace} → Formed t → Formed u → Formed (and_then_trace t (λ r. u))
unfolding features_in
formed_then {t} {u} h k = record { each = go t.events h.each }
  where
    go : (es : List Event) → AllWellFormed (features_in es) → AllWellFormed (features_in (es ++ u.events))
    go [] h = k.each
    go (drew d ∷ es) h = go es h
    go (need n ∷ es) h = go es h
    go (feature f ps ∷ es) h = (h.0, go es h.1)
    go (warned w ∷ es) h = go es h

formed_pick : {t u : Trace} (c : Bool) → (c ≡ true → Formed t) → (c ≡ false → Formed u) → Formed (pick_trace c t u)
formed_pick true h k = h refl
formed_pick false h k = k refl

-- no features at all
formed_no_events : (b : Budget) → Formed (no_events b)
unfolding features_in
formed_no_events b = record { each = tt }

formed_need : (n : ℕ) (b : Budget) → Formed (one_event (need n) b)
unfolding features_in
formed_need n b = record { each = tt }

formed_missing : (item : ℕ) (b : Budget) → Formed (missing item b)
unfolding features_in
formed_missing item b = record { each = tt }

-- ---- canvas points that a line or a ring can be drawn through: at most 2 ^ 22 in size, so that what stands between them is at most 2 ^ 24
abbrev Drawable : List Point → Type 0
Drawable ps = Each (InPoint 22) ps

close_drawable : (ps : List Point) → Drawable ps → Drawable (close_ring_of ps)
close_drawable ps h = close-each (InPoint 22) ps h

outline_drawable : (o : Option (List Point)) → Holds Drawable o → Holds Drawable (closed_outline o)
outline_drawable None h = tt
outline_drawable (Some ps) h = close_drawable ps h

or_holds : {A : Type 0} (Q : A → Type 0) (o : Option A) (x : A) → Holds Q o → Q x → Q (unwrap_or o x)
or_holds Q None x h k = k
or_holds Q (Some y) x h k = h

-- ---- what condition 4 says of an item, in densify's words
near-point : (p : Point) → R.NearPoint p → NearPoint p
near-point p h = record { x = h.x; y = h.y }

near-points : (ps : List Point) → Each R.NearPoint ps → Each NearPoint ps
near-points [] h = tt
near-points (p ∷ ps) h = (near-point p h.0, near-points ps h.1)

near-cubics : (cs : List Cubic) → Each R.NearCubic cs → Each NearCubic cs
near-cubics [] h = tt
near-cubics (c ∷ cs) h =
    (record { c1 = near-point c.c1 h.0.c1; c2 = near-point c.c2 h.0.c2; end = near-point c.end h.0.end }, near-cubics cs h.1)

near_form : (f : Form) → R.NearForm f → NearForm f
near_form (curve start cs) h = (near-point start h.0, near-cubics cs h.1)
near_form (polyline ps) h = near-points ps h

listed_drawable : (o : Option (List Point)) → Holds R.NearPoints o → Holds Drawable o
listed_drawable None h = tt
listed_drawable (Some ps) h = nears_in ps (near-points ps h.points)

path_drawable : (tol : Float) (p : DrawnPath) (b : Budget) → R.NearPath p → Drawable (path_points_of tol p b).points
path_drawable tol p b h = nears_in (path_points_of tol p b).points (path-near tol p b (near_form p.form h))

head_near : (ps : List DrawnPath) → Each R.NearPath ps → Holds R.NearPath (first_path ps)
head_near [] h = tt
head_near (p ∷ ps) h = h.0

tail-near : (ps : List DrawnPath) → Each R.NearPath ps → Each R.NearPath (later_paths ps)
tail-near [] h = tt
tail-near (p ∷ ps) h = h.1

-- the numbers that a shape holds
abbrev NearShape : Shape → Type 0
NearShape (Box x y w h rad) = NearPoint (at x y) × Near w × Near h × Near rad
NearShape (Ellipse x y w h) = NearPoint (at x y) × Near w × Near h
NearShape (Circle x y r) = NearPoint (at x y) × Near r
NearShape (Dot x y) = NearPoint (at x y)
NearShape Points = Unit {0}
NearShape Paths = Unit {0}
NearShape Missing = Unit {0}
NearShape Nothing = Unit {0}

record Measured (s : Shape) : Type 0 where
  near : NearShape s

pick_measured : {s t : Shape} (c : Bool) → Measured s → Measured t → Measured (pick_shape c s t)
pick_measured true h k = h
pick_measured false h k = k

module _ (it : DrawnItem) (N : NearItem it) where
  box_measured : Measured (box_of it)
  unfolding box_of
  box_measured = go it.at it.w it.h N.at N.w N.h
    where
      go : (c : Option Point) (w h : Option Float) → Holds R.NearPoint c → Holds Near w → Holds Near h → Measured (box_shape c w h (unwrap_or it.rad K.zero))
      go (Some c) (Some w) (Some h) i j k = record { near = (near-point c i, j, k, or_holds Near it.rad K.zero N.rad zero-near) }
      go (Some c) (Some w) None i j k = record { near = tt }
      go (Some c) None h i j k = record { near = tt }
      go None w h i j k = record { near = tt }

  ellipse_measured : Measured (ellipse_of it)
  unfolding ellipse_of
  ellipse_measured = go it.at it.w it.h N.at N.w N.h
    where
      go : (c : Option Point) (w h : Option Float) → Holds R.NearPoint c → Holds Near w → Holds Near h → Measured (ellipse_shape c w h)
      go (Some c) (Some w) (Some h) i j k = record { near = (near-point c i, j, k) }
      go (Some c) (Some w) None i j k = record { near = tt }
      go (Some c) None h i j k = record { near = tt }
      go None w h i j k = record { near = tt }

  circle_measured : Measured (circle_of it)
  unfolding circle_of
  circle_measured = go it.at it.r N.at N.r
    where
      go : (c : Option Point) (r : Option Float) → Holds R.NearPoint c → Holds Near r → Measured (circle_shape c r)
      go (Some c) (Some r) i j = record { near = (near-point c i, j) }
      go (Some c) None i j = record { near = tt }
      go None r i j = record { near = tt }

  dot_measured : Measured (dot_of it)
  unfolding dot_of
  dot_measured = go it.at N.at
    where
      go : (c : Option Point) → Holds R.NearPoint c → Measured (dot_shape c)
      go (Some c) i = record { near = near-point c i }
      go None i = record { near = tt }

  shape_measured : (e : ℕ) → Measured (shape_of e it)
  unfolding shape_of
  shape_measured e =
      let k = it.kind in
      pick_measured (not_drawn it.hidden e) (record { near = tt })
      (pick_measured (eqb k 0) box_measured
      (pick_measured (eqb k 1) circle_measured
      (pick_measured (eqb k 2) ellipse_measured
      (pick_measured (eqb k 7 || eqb k 8) dot_measured
      (pick_measured {s = Points} {t = Paths} (eqb k 4 || eqb k 5) (record { near = tt }) (record { near = tt }))))))

-- ---- what an item draws
module _ (r : Registration) (S : Sound r) (step flatten : Float) where
  abbrev cx : Ctx
  cx = record { projection = projection_of r; step = step; flatten = flatten }

  placed_earthly : (p : Point) → InPoint 24 p → Earthly (project_point (projection_of r) p)
  unfolding project_point
  placed_earthly p h = subst (λ (g : LonLat). OnEarth g) (sym (geo_projects r p.x p.y)) (geo_in r S p.x p.y h.x h.y)

  abbrev scale : Float
  scale = (projection_of r).registration.scale

  -- the points of a line or a ring, and their positions
  abbrev densified : List Point → Budget → Made
  densified ps b = densify_polyline_of step scale ps b

  abbrev carried : List Point → Budget → List Point
  carried ps b = map (project_point (projection_of r)) (densified ps b).points

  carried_earthly : (ps : List Point) (b : Budget) → Drawable ps → Each Earthly (carried ps b)
  carried_earthly ps b h = each_map (project_point (projection_of r)) (InPoint 24) Earthly placed_earthly (densified ps b).points (densify_in step scale ps b h)

  carried-least : (ps : List Point) (b : Budget) → length ps ≤ length (carried ps b)
  carried-least ps b = rw length-map (densify_least step scale ps b)

  module _ (p : Props) where
    formed_line : (role : ℕ) (ps : List Point) (b : Budget) → Drawable ps → 2 ≤ length ps → Formed (stroke_of cx p 1 role ps b)
    unfolding stroke_of
    formed_line role ps b h l =
        let e = carried_earthly ps b h in
        formed_then (formed_draws (densified ps b)) (formed_feature p 1 role (carried ps b) _ (record { positions = positions (carried ps b) e; many = omega (arith, carried-least ps b) }) e)

    formed_ring : (role : ℕ) (ps : List Point) (b : Budget) → Drawable ps → 4 ≤ length ps → Formed (stroke_of cx p 2 role ps b)
    unfolding stroke_of
    formed_ring role ps b h l =
        let qs = carried ps b in
        let e = repeated_each Earthly qs (carried_earthly ps b h) in
        formed_then (formed_draws (densified ps b))
        (formed_feature p 2 role (first_repeated qs) _ (record { positions = positions (first_repeated qs) e; many = omega (arith, carried-least ps b, repeated_length qs); closed = repeated_closed qs }) e)

    formed_not_written : (ps : List Point) (b : Budget) → Formed (draw_without_writing cx p.item ps b)
    unfolding draw_without_writing
    formed_not_written ps b = formed_then (formed_draws (densified ps b)) (formed_missing p.item _)

    formed_dot : (q : Point) (b : Budget) → NearPoint q → Formed (point_of cx p q b)
    unfolding point_of
    formed_dot q b h =
        let i = near_in q h in
        let e : Each Earthly (project_point (projection_of r) q ∷ []) = (placed_earthly q (record { x = wider 22 24 q.x (lit≤ tt) i.x; y = wider 22 24 q.y (lit≤ tt) i.y }), tt) in
        formed_feature p 0 0 (project_point (projection_of r) q ∷ []) b (positions (project_point (projection_of r) q ∷ []) e, refl) e

    formed_fill : (outline : Option (List Point)) (ring : List Point) (b : Budget) → Holds Drawable outline → Drawable ring → Formed (fill_of cx p outline ring b)
    unfolding fill_of
    formed_fill outline ring b h k =
        let ps = unwrap_or outline ring in
        formed_pick (p.fill && leb 4 (length ps)) (λ t. formed_ring 1 ps b (or_holds Drawable outline ring h k) (leb-true _ _ (and_right p.fill _ t))) (λ t. formed_no_events b)

    formed_shape : (closed : Bool) (ps ring : List Point) (outline : Option (List Point)) (b : Budget) →
        Drawable ps → Drawable ring → Holds Drawable outline → Formed (shape_trace cx p closed ps ring outline b)
    unfolding shape_trace
    formed_shape closed ps ring outline b h i j =
        formed_pick (ltb (length ps) 2) (λ t. formed_no_events b) (λ n.
        formed_pick (closed && leb 4 (length ring)) (λ t. formed_ring 0 ring b i (leb-true _ _ (and_right closed _ t))) (λ t.
        formed_then (formed_fill outline ring b j i) (formed_pick closed (λ t. formed_not_written ps _) (λ t. formed_line 0 ps _ h (omega (arith, ltb-false (length ps) 2 n))))))

    formed_polyline : (closed : Bool) (ps : List Point) (outline : Option (List Point)) (b : Budget) → Drawable ps → Holds Drawable outline → Formed (polyline_or_polygon_of cx p closed ps outline b)
    unfolding polyline_or_polygon_of
    formed_polyline closed ps outline b h i =
        formed_then (formed_need _ b) (formed_shape closed ps (close_ring_of ps) (closed_outline outline) b h (close_drawable ps h) (outline_drawable outline i))

    formed_made : (m : Made) → Drawable m.points → 4 ≤ length m.points → Formed (ring_trace cx p m)
    unfolding ring_trace
    formed_made m h l = formed_then (formed_draws m) (formed_then (formed_need _ m.after) (formed_ring 0 m.points _ h l))

    formed_outline : (closed : Bool) (ps : List Point) (o : Option DrawnPath) (b : Budget) → Drawable ps → Holds R.NearPath o → Formed (outline_of cx p closed ps o b)
    unfolding outline_of
    formed_outline closed ps None b h i = formed_polyline closed ps None b h tt
    formed_outline closed ps (Some o) b h i = formed_then (formed_draws (path_points_of flatten o b)) (formed_polyline closed ps (Some _) _ h (path_drawable flatten o b i))

    formed_path : (path : DrawnPath) (o : Option DrawnPath) (b : Budget) → R.NearPath path → Holds R.NearPath o → Formed (path_of cx p path o b)
    unfolding path_of
    formed_path path o b h i = formed_then (formed_draws (path_points_of flatten path b)) (formed_outline path.closed _ o _ (path_drawable flatten path b h) i)

    formed_points : (closed : Bool) (ps outline : Option (List Point)) (b : Budget) → Holds Drawable ps → Holds Drawable outline → Formed (points_trace cx p closed ps outline b)
    unfolding points_trace
    formed_points closed None outline b h i = formed_missing p.item b
    formed_points closed (Some ps) outline b h i = formed_polyline closed ps outline b h i

  formed_paths : (p : Props) (many : Bool) (i : ℕ) (qs outlines : List DrawnPath) (b : Budget) → Each R.NearPath qs → Each R.NearPath outlines → Formed (paths_of cx p many i qs outlines b)
  unfolding paths_of
  formed_paths p many i [] outlines b h k = formed_no_events b
  formed_paths p many i (q ∷ qs) outlines b h k =
      formed_then (formed_path (with_part p (cond many (suc i) 0)) q (first_path outlines) b h.0 (head_near outlines k))
      (formed_paths p many (suc i) qs (later_paths outlines) _ h.1 (tail-near outlines k))

  formed_all_paths : (p : Props) (qs outlines : List DrawnPath) (b : Budget) → Each R.NearPath qs → Each R.NearPath outlines → Formed (paths_trace cx p qs outlines b)
  unfolding paths_trace
  formed_all_paths p [] outlines b h k = formed_missing p.item b
  formed_all_paths p (q ∷ qs) outlines b h k = formed_paths p (ltb 0 (length qs)) 0 (q ∷ qs) outlines b h k

  formed_drawn : (p : Props) (it : DrawnItem) (s : Shape) (b : Budget) → NearItem it → NearShape s → Formed (drawn_of cx p it s b)
  unfolding drawn_of
  formed_drawn p it (Box x y w h rad) b N k =
      formed_made p (box_ring_of step scale flatten (at x y) w h rad b) (box_in step scale flatten (at x y) w h rad b k.0 k.1 k.2 k.3) (ring-least (box-ring step scale flatten (at x y) w h rad b))
  formed_drawn p it (Ellipse x y w h) b N k =
      formed_made p (ellipse_ring_of step scale flatten (at x y) (half w) (half h) b) (ellipse_in step scale flatten (at x y) (half w) (half h) b k.0 (half-near w k.1) (half-near h k.2))
      (omega (arith, ring-least (ellipse_ring step scale flatten (at x y) (half w) (half h) b)))
  formed_drawn p it (Circle x y c) b N k =
      formed_made p (ellipse_ring_of step scale flatten (at x y) c c b) (ellipse_in step scale flatten (at x y) c c b k.0 k.1 k.1)
      (omega (arith, ring-least (ellipse_ring step scale flatten (at x y) c c b)))
  formed_drawn p it (Dot x y) b N k = formed_dot p (at x y) b k
  formed_drawn p it Points b N k = formed_points p it.closed it.points it.fill_points b (listed_drawable it.points N.points) (listed_drawable it.fill_points N.fill_points)
  formed_drawn p it Paths b N k = formed_all_paths p it.paths it.fill_paths b N.paths N.fill_paths
  formed_drawn p it Missing b N k = formed_missing p.item b
  formed_drawn p it Nothing b N k = formed_no_events b

  module _ (entry : ℕ → ℕ) where
    formed_items : (i : ℕ) (its : List DrawnItem) (b : Budget) → Each NearItem its → Formed (items_of entry cx i its b)
    unfolding items_of item_of
    formed_items i [] b h = formed_no_events b
    formed_items i (it ∷ its) b h = formed_then (formed_drawn (props_of (entry it.kind) i it) it (shape_of (entry it.kind) it) b h.0 (shape_measured it h.0 (entry it.kind)).near) (formed_items (suc i) its _ h.1)

formed_spent : (b : Budget) → Formed (spent_of b)
unfolding spent_of features_in
formed_spent b = formed_pick b.hit (λ t. record { each = tt }) (λ t. formed_no_events b)

pub convert_well_formed : (entry : ℕ → ℕ) (r : Registration) (step flatten : Float) (its : List DrawnItem) (b : Budget) → Sound r → Each NearItem its →
    AllWellFormed (features_in (convert_of entry (record { projection = projection_of r; step = step; flatten = flatten }) its b).events)
unfolding convert_of
convert_well_formed entry r step flatten its b S N = (formed_then (formed_items r S step flatten entry 0 its b N) (formed_spent _)).each
