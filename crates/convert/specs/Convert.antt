-- The source's convert.rs, function by function: what each item of a scene draws, one item after the other.
use Rattle.std.specs.Prelude.{ℕ, suc, Bool, true, false, ◌||◌, cond, List, [], ◌∷◌, length, eqb, ltb, Float, Option, None, Some, unwrap_or}
use Rattle.std.specs.Float.{binary64}
use Rattle.std.specs.Float.Ieee.{div}
use Rattle.elementary.specs.Constants as K
use Rattle.kind_table.specs.KindTable.{not_drawn, on_screen}
use Rattle.scene.specs.Scene.{DrawnPath, DrawnItem}
use Rattle.values.specs.declared.Point.{Point}
use Rattle.budget.specs.declared.Budget.{Budget}
use Rattle.densify.specs.Densify.{path_points_of, ellipse_ring_of, box_ring_of}
use Rattle.convert.specs.declared.shapes.Shape.{Shape}
use Rattle.convert.specs.declared.shapes.Shape.TheVariants.{Box, Ellipse, Circle, Dot, Points, Paths, Missing, Nothing}
use Rattle.strokes.specs.declared.state.Ctx.{Ctx}
use Rattle.strokes.specs.declared.state.Props.{Props}
use Rattle.strokes.specs.Strokes.{warned, Trace, no_events, one_event, and_then_trace, pick_trace, draws_trace, missing, point_of, polyline_or_polygon_of, ring_trace}

-- ---- shapes
abbrev pub first_path : List DrawnPath → Option DrawnPath
first_path [] = None
first_path (p ∷ ps) = Some p

abbrev pub later_paths : List DrawnPath → List DrawnPath
later_paths [] = []
later_paths (p ∷ ps) = ps

-- an outline is flattened whether it is used or not
unfoldable pub outline_of : Ctx → Props → Bool → List Point → Option DrawnPath → Budget → Trace
outline_of cx p closed ps None b = polyline_or_polygon_of cx p closed ps None b
outline_of cx p closed ps (Some o) b =
    let m = path_points_of cx.flatten o b in
    and_then_trace (draws_trace m) (λ r. polyline_or_polygon_of cx p closed ps (Some m.points) r)

unfoldable pub path_of : Ctx → Props → DrawnPath → Option DrawnPath → Budget → Trace
path_of cx p path outline b =
    let m = path_points_of cx.flatten path b in
    and_then_trace (draws_trace m) (λ r. outline_of cx p path.closed m.points outline r)

abbrev pub with_part : Props → ℕ → Props
with_part p n = record { item = p.item; placement = p.placement; part = n; fill = p.fill }

-- the paths from the i-th on, each with the outline of its index; many says that the item has more than one
unfoldable pub paths_of : Ctx → Props → Bool → ℕ → List DrawnPath → List DrawnPath → Budget → Trace
paths_of cx p many i [] outlines b = no_events b
paths_of cx p many i (q ∷ qs) outlines b =
    and_then_trace (path_of cx (with_part p (cond many (suc i) 0)) q (first_path outlines) b) (λ r. paths_of cx p many (suc i) qs (later_paths outlines) r)

-- ---- an item
-- the kinds, by their position in KINDS: 0 box, 1 circle, 2 ellipse, 3 arc, 4 line, 5 arrow, 6 spline, 7 text, 8 dot, 9 brace, 10 block
abbrev pub box_shape : Option Point → Option Float → Option Float → Float → Shape
box_shape (Some c) (Some w) (Some h) rad = Box c.x c.y w h rad
box_shape (Some c) (Some w) None rad = Missing
box_shape (Some c) None h rad = Missing
box_shape None w h rad = Missing

abbrev pub ellipse_shape : Option Point → Option Float → Option Float → Shape
ellipse_shape (Some c) (Some w) (Some h) = Ellipse c.x c.y w h
ellipse_shape (Some c) (Some w) None = Missing
ellipse_shape (Some c) None h = Missing
ellipse_shape None w h = Missing

abbrev pub circle_shape : Option Point → Option Float → Shape
circle_shape (Some c) (Some r) = Circle c.x c.y r
circle_shape (Some c) None = Missing
circle_shape None r = Missing

-- a text and a dot draw their point
abbrev pub dot_shape : Option Point → Shape
dot_shape (Some c) = Dot c.x c.y
dot_shape None = Missing

abbrev pub pick_shape : Bool → Shape → Shape → Shape
pick_shape true a b = a
pick_shape false a b = b

unfoldable pub box_of : DrawnItem → Shape
box_of it = box_shape it.at it.w it.h (unwrap_or it.rad K.zero)

unfoldable pub ellipse_of : DrawnItem → Shape
ellipse_of it = ellipse_shape it.at it.w it.h

unfoldable pub circle_of : DrawnItem → Shape
circle_of it = circle_shape it.at it.r

unfoldable pub dot_of : DrawnItem → Shape
dot_of it = dot_shape it.at

-- by its kind, where the entry of its kind lets it be drawn
unfoldable pub shape_of : ℕ → DrawnItem → Shape
shape_of e it =
    let k = it.kind in
    pick_shape (not_drawn it.hidden e) Nothing
    (pick_shape (eqb k 0) (box_of it)
    (pick_shape (eqb k 1) (circle_of it)
    (pick_shape (eqb k 2) (ellipse_of it)
    (pick_shape (eqb k 7 || eqb k 8) (dot_of it)
    (pick_shape (eqb k 4 || eqb k 5) Points Paths)))))

-- its placement is by its class and the entry of its kind
unfoldable pub props_of : ℕ → ℕ → DrawnItem → Props
props_of e i it = record { item = i; placement = cond (on_screen it.screen e) 1 0; part = 0; fill = it.fill }

abbrev pub at : Float → Float → Point
at x y = record { x = x; y = y }

abbrev pub half : Float → Float
half v = div binary64 v K.two

unfoldable pub points_trace : Ctx → Props → Bool → Option (List Point) → Option (List Point) → Budget → Trace
points_trace cx p closed None outline b = missing p.item b
points_trace cx p closed (Some ps) outline b = polyline_or_polygon_of cx p closed ps outline b

unfoldable pub paths_trace : Ctx → Props → List DrawnPath → List DrawnPath → Budget → Trace
paths_trace cx p [] outlines b = missing p.item b
paths_trace cx p (q ∷ qs) outlines b = paths_of cx p (ltb 0 (length qs)) 0 (q ∷ qs) outlines b

unfoldable pub drawn_of : Ctx → Props → DrawnItem → Shape → Budget → Trace
drawn_of cx p it (Box x y w h rad) b =
    ring_trace cx p (box_ring_of cx.step cx.projection.registration.scale cx.flatten (at x y) w h rad b)
drawn_of cx p it (Ellipse x y w h) b =
    ring_trace cx p (ellipse_ring_of cx.step cx.projection.registration.scale cx.flatten (at x y) (half w) (half h) b)
drawn_of cx p it (Circle x y r) b =
    ring_trace cx p (ellipse_ring_of cx.step cx.projection.registration.scale cx.flatten (at x y) r r b)
drawn_of cx p it (Dot x y) b = point_of cx p (at x y) b
drawn_of cx p it Points b = points_trace cx p it.closed it.points it.fill_points b
drawn_of cx p it Paths b = paths_trace cx p it.paths it.fill_paths b
drawn_of cx p it Missing b = missing p.item b
drawn_of cx p it Nothing b = no_events b

-- the i-th, by the entry of its kind
unfoldable pub item_of : ℕ → Ctx → ℕ → DrawnItem → Budget → Trace
item_of e cx i it b = drawn_of cx (props_of e i it) it (shape_of e it) b

-- the items, the first of them the i-th; entry says of each kind what the kind table does
unfoldable pub items_of : (ℕ → ℕ) → Ctx → ℕ → List DrawnItem → Budget → Trace
items_of entry cx i [] b = no_events b
items_of entry cx i (it ∷ its) b = and_then_trace (item_of (entry it.kind) cx i it b) (λ r. items_of entry cx (suc i) its r)

-- ---- convert
unfoldable pub spent_of : Budget → Trace
spent_of b = pick_trace b.hit (one_event (warned (record { kind = 6; index = 0 })) b) (no_events b)

unfoldable pub convert_of : (ℕ → ℕ) → Ctx → List DrawnItem → Budget → Trace
convert_of entry cx its b = and_then_trace (items_of entry cx 0 its b) (λ r. spent_of r)
