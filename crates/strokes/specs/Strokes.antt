-- `geo_line`, `geo_ring` and `polyline_or_polygon` of the source's convert.rs: what a line, a ring or a point comes to, as a list of events in the source's order, with no regard to space.
use Rattle.std.specs.Prelude.{ℕ, ◌+◌, Bool, true, false, ◌&&◌, cond, List, [], ◌∷◌, ◌++◌, map, length, eqb, ltb, leb, Option, None, Some, unwrap_or}
use Rattle.values.specs.declared.Point.{Point}
use Rattle.values.specs.Warnings.{Warning}
use Rattle.budget.specs.declared.Budget.{Budget}
use Rattle.densify.specs.Densify.{GrantedDraw, Made, close_ring_of, densify_polyline_of}
use Rattle.projection.specs.Projection.{project_point}
use Rattle.geojson.specs.Features.{Feature}
use Rattle.strokes.specs.declared.state.Ctx.{Ctx}
use Rattle.strokes.specs.declared.state.Props.{Props}

-- ---- what happens: a call of `take`, points of work that a shape needs, a feature with its positions, a warning
pub data Event : Type 0 where
  drew : GrantedDraw → Event
  need : ℕ → Event
  feature : Feature → List Point → Event
  warned : Warning → Event

-- and the budget after it
pub record Trace : Type 0 where
  pub events : List Event
  pub after : Budget

abbrev pub no_events : Budget → Trace
no_events b = record { events = []; after = b }

abbrev pub one_event : Event → Budget → Trace
one_event e b = record { events = e ∷ []; after = b }

abbrev pub and_then_trace : Trace → (Budget → Trace) → Trace
and_then_trace t f = let u = f t.after in record { events = t.events ++ u.events; after = u.after }

abbrev pub pick_trace : Bool → Trace → Trace → Trace
pick_trace true t u = t
pick_trace false t u = u

-- the draws of a producer
abbrev pub draws_trace : Made → Trace
draws_trace m = record { events = map drew m.draws; after = m.after }

abbrev pub missing : ℕ → Budget → Trace
missing item b = one_event (warned (record { kind = 5; index = item })) b

-- ---- geo_line and geo_ring
-- the last position is the first, bit for bit
abbrev pub end_with : Point → List Point → List Point
end_with p [] = []
end_with p (q ∷ []) = p ∷ []
end_with p (q ∷ r ∷ rs) = q ∷ end_with p (r ∷ rs)

abbrev pub first_repeated : List Point → List Point
first_repeated [] = []
first_repeated (p ∷ ps) = p ∷ end_with p ps

-- those of a line (1) or a ring (2)
abbrev pub positions_of : ℕ → List Point → List Point
positions_of geometry ps = cond (eqb geometry 2) (first_repeated ps) ps

unfoldable pub feature_of : Props → ℕ → ℕ → List Point → Event
feature_of p geometry role ps =
    feature (record { item = p.item; geometry = geometry; role = role; placement = p.placement; part = p.part; count = length ps }) ps

-- the canvas points, densified and carried to the Earth: a line (1) or a ring (2)
unfoldable pub stroke_of : Ctx → Props → ℕ → ℕ → List Point → Budget → Trace
stroke_of cx p geometry role ps b =
    let m = densify_polyline_of cx.step cx.projection.registration.scale ps b in
    and_then_trace (draws_trace m) (λ r. one_event (feature_of p geometry role (positions_of geometry (map (project_point cx.projection) m.points))) r)

-- document 01: fewer positions than a line or a ring has are not written; the draws stand, and a warning takes the place
unfoldable pub draw_without_writing : Ctx → ℕ → List Point → Budget → Trace
draw_without_writing cx item ps b =
    and_then_trace (draws_trace (densify_polyline_of cx.step cx.projection.registration.scale ps b)) (λ r. missing item r)

unfoldable pub point_of : Ctx → Props → Point → Budget → Trace
point_of cx p at b = one_event (feature_of p 0 0 (project_point cx.projection at ∷ [])) b

-- ---- polyline_or_polygon
-- a separate fill: of the closed outline where there is one, else of the closed points
unfoldable pub fill_of : Ctx → Props → Option (List Point) → List Point → Budget → Trace
fill_of cx p outline ring b =
    pick_trace (p.fill && leb 4 (length (unwrap_or outline ring))) (stroke_of cx p 2 1 (unwrap_or outline ring) b) (no_events b)

-- with its points ps, which are `ring` where they are closed, and its closed outline
unfoldable pub shape_trace : Ctx → Props → Bool → List Point → List Point → Option (List Point) → Budget → Trace
shape_trace cx p closed ps ring outline b =
    pick_trace (ltb (length ps) 2) (no_events b)
    (pick_trace (closed && leb 4 (length ring)) (stroke_of cx p 2 0 ring b)
    (and_then_trace (fill_of cx p outline ring b) (λ r. pick_trace closed (draw_without_writing cx p.item ps r) (stroke_of cx p 1 0 ps r))))

abbrev pub closed_outline : Option (List Point) → Option (List Point)
closed_outline None = None
closed_outline (Some ps) = Some (close_ring_of ps)

-- P + F + 1 points of work
unfoldable pub work_of : Bool → List Point → List Point → Option (List Point) → ℕ
work_of closed ps ring outline = length (cond closed ring ps) + length (unwrap_or outline []) + 1

unfoldable pub polyline_or_polygon_of : Ctx → Props → Bool → List Point → Option (List Point) → Budget → Trace
polyline_or_polygon_of cx p closed ps outline b =
    let ring = close_ring_of ps in
    let closing = closed_outline outline in
    and_then_trace (one_event (need (work_of closed ps ring closing)) b) (λ r. shape_trace cx p closed ps ring closing r)

-- ---- shapes
-- the ring of a box, a circle or an ellipse
unfoldable pub ring_trace : Ctx → Props → Made → Trace
ring_trace cx p m =
    and_then_trace (draws_trace m) (λ r. and_then_trace (one_event (need (length m.points + 1)) r) (λ q. stroke_of cx p 2 0 m.points q))

-- ---- the draws, read off the one list
unfoldable pub draws_in : List Event → List GrantedDraw
draws_in [] = []
draws_in (drew d ∷ es) = d ∷ draws_in es
draws_in (need n ∷ es) = draws_in es
draws_in (feature f ps ∷ es) = draws_in es
draws_in (warned w ∷ es) = draws_in es
