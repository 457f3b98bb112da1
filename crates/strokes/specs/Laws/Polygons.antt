-- Laws of lines, rings and fills played onto a sheet, from where their points stand in the work slice. Assumes nothing.
use Rattle.std.specs.Prelude.{ℕ, zero, suc, ◌+◌, ◌-◌, ◌*◌, ◌/◌, ◌≤◌, ◌<◌, ◌≡◌, refl, Bool, ◌&&◌, cond, List, [], ◌∷◌, ◌++◌, take, drop, ltb, Float, Option, None, Some, unwrap_or, is_some, Ok, Err}
use Rattle.std.proofs.Common.{sym, ap, ◌∙◌, arith, take-append-drop, drop-cons}
use Rattle.std.proofs.Math.Bool.{true, false}
use Rattle.std.proofs.lemmas.Option.{none-some, same_Some}
use Rattle.std.proofs.Math.Numerals.{unary_clauses}
use Rattle.std.proofs.Math.ListN.{length}
use Rattle.std.proofs.Math.Dec.{leb}
use Rattle.std.specs.Float.{nan}
use borrow.Author.Tests.{le-leb, lt-leb, leb-true, leb-false, lt-ltb, le-ltb}
use Rattle.budget.specs.declared.Budget.{Budget}
use Rattle.values.specs.declared.Point.{Point}
use Rattle.densify.specs.declared.append.PointCursor.{PointCursor}
use Rattle.densify.specs.Densify.{Made, without_draws, same_point, close_ring_of}
use Rattle.densify.specs.Inner.Written.{closing, closing_in, Written}
use Rattle.values.specs.Inner.Points.{points_in}
use Rattle.values.specs.Slices.{put}
use Rattle.values.specs.Points.{flats, point_of, points_of}
use Rattle.densify.specs.Laws.Writing.{written_all, next_in, written_points}
use Rattle.values.specs.Laws.Points.{flats-length}
use Rattle.densify.specs.Laws.Closing.{closed_done}
use Rattle.strokes.specs.declared.workspace.Workspace.{Workspace}
use Rattle.strokes.specs.declared.state.Ctx.{Ctx}
use Rattle.strokes.specs.declared.state.Props.{Props}
use Rattle.strokes.specs.Strokes.{Trace, need, no_events, one_event, and_then_trace, pick_trace, stroke_of, draw_without_writing, fill_of, shape_trace, closed_outline, work_of, polyline_or_polygon_of, ring_trace}
use Rattle.strokes.specs.Space.{Output, out_of_room}
use Rattle.values.specs.Inner.Refusals.{number_of}
use Rattle.values.specs.declared.refusal.Refusal.{Refusal}
use Rattle.values.specs.declared.refusal.Refusal.TheVariants.{WorkRoom}
use Rattle.strokes.specs.Inner.Space.{most, longest, state_by, output_by, Fits, Applied, OutlineLoaded, Loaded, Bounds, Loads, RingLoaded}
use Rattle.strokes.specs.Laws.Applying.{applied_no_events, applied_stuck, applied_then, applied_err, applied_stop, applied_drawn}
use Rattle.strokes.specs.Laws.Events.{need_fits, need_lacks}
use Rattle.strokes.specs.Laws.Loading.{points_kept}

-- on the same sheet, with another budget
pub fits_spent : {t : Output} {b c : Budget} → Fits t b → c.left ≤ most → Fits t c
fits_spent h k = record { positions = h.positions; features = h.features; warnings = h.warnings; left = k }

-- ---- points of work, then what is drawn from them
module _ (n : ℕ) (f : Budget → Trace) {t : Output} (b : Budget) (start : t.number ≡ 0) where
  without_room : (c : Budget) → t.work < 2 * n → Fits t c → Applied (and_then_trace (one_event (need n) b) f) t (out_of_room 15 t) c
  without_room c short h =
      let one = need_lacks n t b start c short h in
      applied_then f one (applied_stuck (f c) (out_of_room 15 t) c (λ z. omega arith) one.fits)

  with_room : {u : Output} {c : Budget} → 2 * n ≤ t.work → Fits t b → Applied (f b) t u c → Applied (and_then_trace (one_event (need n) b) f) t u c
  with_room room h two = applied_then f (need_fits n t b start room h) two

-- ---- a ring
-- the points that it needs: one more than it has
abbrev ring_need : Made → ℕ
ring_need m = length m.points + 1

abbrev ring_stroke : Ctx → Props → Made → Budget → Trace
ring_stroke cx p m b = stroke_of cx p 2 0 m.points b

module _ (cx : Ctx) (p : Props) {t : Output} (start : t.number ≡ 0) where
  ring_lacks : (m : Made) {c : Budget} → Fits t c → t.work < 2 * ring_need m
      → Applied (ring_trace cx p m) t (output_by t.work t.positions t.features t.warnings (Err WorkRoom)) (state_by (Err WorkRoom)).budget
  unfolding ring_trace
  ring_lacks m {c} h short =
      applied_drawn m (λ r. and_then_trace (one_event (need (ring_need m)) r) (ring_stroke cx p m))
      (applied_err {u = out_of_room 15 t} WorkRoom refl (without_room (ring_need m) (ring_stroke cx p m) m.after start c short h))

  -- its points have no room
  pub ring-short : {w : List Float} {m : Made} → RingLoaded w m None → t.work ≡ length w → {c : Budget} → Fits t c
      → Applied (ring_trace cx p m) t (output_by t.work t.positions t.features t.warnings (Err WorkRoom)) (state_by (Err WorkRoom)).budget
  ring-short {w} {m} ringed whole h =
      let few : length w < length (flats m.points) = leb-false _ _ (sym ringed.asked) in
      ring_lacks m h (omega (arith, flats-length m.points))

  module _ {w : List Float} {m : Made} {d : PointCursor} (ringed : RingLoaded w m (Some d)) (whole : t.work ≡ length w) where
    -- one point more has none
    pub ring_full : {c : Budget} → length w - d.at < 2 → Fits t c
        → Applied (ring_trace cx p m) t (output_by t.work t.positions t.features t.warnings (Err WorkRoom)) (state_by (Err WorkRoom)).budget
    ring_full few h = ring_lacks m h (omega (arith, flats-length m.points, ringed.end))

    pub ring-drawn : {u : Output} {b c : Budget} → 2 ≤ length w - d.at → Fits t b
        → (Fits t d.budget → Applied (stroke_of cx p 2 0 (points_in w 0 d.at) d.budget) t u c) → Applied (ring_trace cx p m) t u c
    unfolding ring_trace
    ring-drawn room h stroked =
        let ready = fits_spent h ringed.left in
        applied_drawn m (λ r. and_then_trace (one_event (need (ring_need m)) r) (ring_stroke cx p m))
        (with_room (ring_need m) (ring_stroke cx p m) m.after start (omega (arith, flats-length m.points, ringed.end))
        (rw ringed.after at ready) (rw (ringed.points, ringed.after) at (stroked ready)))

-- ---- a shape's points, laid out
abbrev shape_by : Ctx → Props → Bool → List Point → Option (List Point) → Budget → Trace
shape_by cx p closed ps o b = shape_trace cx p closed ps (close_ring_of ps) (closed_outline o) b

abbrev fill_by : Ctx → Props → List Point → Option (List Point) → Budget → Trace
fill_by cx p ps o b = fill_of cx p (closed_outline o) (close_ring_of ps) b

abbrev need_by : Bool → List Point → Option (List Point) → ℕ
need_by closed ps o = work_of closed ps (close_ring_of ps) (closed_outline o)

-- they, or one point more, have no room
pub shape_lacks : (cx : Ctx) (p : Props) {w work : List Float} {closed : Bool} {ps : List Point} {o : Option (List Point)} {b : Budget} {e : Refusal}
    → Loads w work closed ps o b (Err e) → {t : Output} → t.work ≡ length work → t.number ≡ 0 → {a : Budget} → Fits t a
    → Applied (polyline_or_polygon_of cx p closed ps o b) t (output_by t.work t.positions t.features t.warnings (Err e)) (state_by (Err e)).budget
unfolding polyline_or_polygon_of
shape_lacks cx p {w} {closed = closed} {ps = ps} {o = o} {b = b} {e = e} lays {t} whole start {a} h =
    let few : length w < 2 * need_by closed ps o = leb-false _ _ (sym lays.asked) in
    applied_err {u = out_of_room 15 t} e (ap number_of (sym lays.lacks))
    (without_room (need_by closed ps o) (shape_by cx p closed ps o) b start a (omega (arith, lays.kept)) h)

module _ (cx : Ctx) (p : Props) {w work : List Float} {closed : Bool} {ps : List Point} {o : Option (List Point)} {b : Budget} {l : Workspace}
    (lays : Loads w work closed ps o b (Ok l)) {t : Output} (whole : t.work ≡ length work) (start : t.number ≡ 0) {a : Budget} (h : Fits t a) where
  ready : Fits t l.budget
  ready = fits_spent h lays.left

  shape_drawn : {u : Output} {c : Budget} → Applied (shape_by cx p closed ps o l.budget) t u c → Applied (polyline_or_polygon_of cx p closed ps o b) t u c
  unfolding polyline_or_polygon_of
  shape_drawn one =
      let room : 2 * need_by closed ps o ≤ length w = leb-true _ _ (sym lays.asked) in
      with_room (need_by closed ps o) (shape_by cx p closed ps o) b start (omega (arith, lays.kept))
      (rw lays.after at ready) (rw lays.after at one)

  own_count : l.points ≡ 2 * length ps
  own_count = lays.laid.points_end ∙ flats-length ps

  -- fewer than 2 points
  pub shape_few : l.points < 4 → Applied (polyline_or_polygon_of cx p closed ps o b) t t l.budget
  unfolding shape_trace
  shape_few less = shape_drawn (rw (lt-ltb (length ps) 2 (omega (arith, own_count))) (applied_no_events t l.budget ready))

  module _ (more : 4 ≤ l.points) where
    many : ltb (length ps) 2 ≡ false
    many = le-ltb (length ps) 2 (omega (arith, own_count))

    -- a polygon
    pub shape_ring : {u : Output} {c : Budget} → closed ≡ true → 8 ≤ l.ring
        → (Fits t l.budget → Applied (stroke_of cx p 2 0 (points_in work 0 l.ring) l.budget) t u c) → Applied (polyline_or_polygon_of cx p closed ps o b) t u c
    unfolding shape_trace
    shape_ring e big stroked =
        let ring = close_ring_of ps in
        let laid = lays.laid in
        let n : 4 ≤ length ring = omega (arith, rw e at laid.ring_end, flats-length ring) in
        shape_drawn (rw (many, e, le-leb 4 (length ring) n) (rw (laid.ring, e) at (stroked ready)))

    -- otherwise the fill first
    few_ring : closed ≡ true → l.ring < 8 → length (close_ring_of ps) < 4
    few_ring e less = omega (arith, rw e at lays.laid.ring_end, flats-length (close_ring_of ps))

    no_ring : (x : Bool) → closed ≡ x → (closed ≡ true → l.ring < 8) → closed && leb 4 (length (close_ring_of ps)) ≡ false
    no_ring true e less = rw (e, lt-leb 4 (length (close_ring_of ps)) (few_ring e (less e))) refl
    no_ring false e less = rw e refl

    -- nothing is drawn behind a fill that lacks room
    pub shape_stops : (e : Refusal) {n : ℕ} {q : List Float} {f v : List ℕ} → (closed ≡ true → l.ring < 8)
        → (Loaded work closed ps o l → Fits t l.budget → Applied (fill_by cx p ps o l.budget) t (output_by n q f v (Err e)) (state_by (Err e)).budget)
        → Applied (polyline_or_polygon_of cx p closed ps o b) t (output_by n q f v (Err e)) (state_by (Err e)).budget
    unfolding shape_trace
    shape_stops e less filled =
        shape_drawn (rw (many, no_ring closed refl less)
        (applied_stop e (λ r. pick_trace closed (draw_without_writing cx p.item ps r) (stroke_of cx p 1 0 ps r)) (filled lays.laid ready)))

    -- it leaves the points as they are; then a line, or a warning where there are too few points for a ring
    module _ (work' : List Float) (kept : take l.points work' ≡ take l.points work) {u : Output} {c : Budget}
        (filled : Loaded work closed ps o l → Fits t l.budget → Applied (fill_by cx p ps o l.budget) t u c) where
      fill_applied : Applied (fill_by cx p ps o l.budget) t u c
      fill_applied = filled lays.laid ready

      same_points : points_in work' 0 l.points ≡ ps
      same_points = points_kept work' work l.points kept 0 l.points (omega arith) ∙ lays.laid.points

      pub shape_line : {v : Output} {d : Budget} → closed ≡ false
          → (Fits u c → Applied (stroke_of cx p 1 0 (points_in work' 0 l.points) c) u v d) → Applied (polyline_or_polygon_of cx p closed ps o b) t v d
      unfolding shape_trace
      shape_line e stroked =
          shape_drawn (rw (many, e) (applied_then (λ r. stroke_of cx p 1 0 ps r) fill_applied (rw same_points at (stroked fill_applied.fits))))

      pub shape_not_written : {v : Output} {d : Budget} → closed ≡ true → l.ring < 8
          → (Fits u c → Applied (draw_without_writing cx p.item (points_in work' 0 l.points) c) u v d) → Applied (polyline_or_polygon_of cx p closed ps o b) t v d
      unfolding shape_trace
      shape_not_written e less told =
          shape_drawn (rw (many, e, lt-leb 4 (length (close_ring_of ps)) (few_ring e less))
          (applied_then (λ r. draw_without_writing cx p.item ps r) fill_applied (rw same_points at (told fill_applied.fits))))

-- ---- points that stand in a slice already: to put them there changes nothing
flats_of : (w : List Float) (i n : ℕ) → i + 2 * n ≤ length w → flats (points_of w i n) ++ drop (i + 2 * n) w ≡ drop i w
unfolding flats points_of
flats_of w i zero h = simp unary_clauses
flats_of w i (suc n) h =
    let k : i + 2 * suc n ≡ i + 2 + 2 * n = omega arith in
    rw (k, flats_of w (i + 2) n (omega arith), drop-cons w i nan (omega arith), drop-cons w (suc i) nan (omega arith)) (simp unary_clauses)

standing : (w : List Float) (at to : ℕ) (ps : List Point) → to ≡ at + length (flats ps) → to ≤ length w → points_in w at to ≡ ps → put w at (flats ps) ≡ w
unfolding put points_in
standing w at to ps is h e =
    let n : (to - at) / 2 ≡ length ps = omega (arith, flats-length ps) in
    let there : points_of w at (length ps) ≡ ps = rw n at e in
    let run : flats ps ++ drop (at + 2 * length ps) w ≡ drop at w = rw there at (flats_of w at (length ps) (omega (arith, flats-length ps))) in
    rw (flats-length ps, run) (take-append-drop at w)

-- ---- closed by `close_ring`, which adds one point at most
closing-most : (w : List Float) (from at : ℕ) → length (flats (closing_in w from at)) ≤ 2
unfolding closing_in closing flats
closing-most w from at = go (leb (from + 2) at) (same_point (point_of w from) (point_of w (at - 2)))
  where
    go : (x y : Bool) → length (flats (cond x (cond y [] (point_of w from ∷ [])) [])) ≤ 2
    go true true = omega arith
    go true false = omega arith
    go false y = omega arith

module _ {w w' : List Float} {l : Workspace} (bounds : Bounds l (length w)) {b : Budget} where
  pub closer_fits : (r : Option PointCursor) → Written w w' l.points (without_draws (closing_in w 0 l.points) b) r → is_some r ≡ true
  closer_fits r closer =
      let n : l.points + length (flats (closing_in w 0 l.points)) ≤ length w = omega (arith, closing-most w 0 l.points) in
      closer.asked ∙ le-leb _ _ n

  module _ {d : PointCursor} (closer : Written w w' l.points (without_draws (closing_in w 0 l.points) b) (Some d)) where
    pub closer_in : (d.at ≤ length w') × (d.at ≤ longest)
    closer_in = (next_in closer, omega (arith, closer.next, closing-most w 0 l.points))

    module _ {closed : Bool} {ps : List Point} {o : Option (List Point)} (laid : Loaded w closed ps o l) where
      ring_written : Written w w' 0 (without_draws (close_ring_of ps) b) (Some d)
      ring_written =
          let end : l.points ≡ 0 + length (flats ps) = omega (arith, laid.points_end) in
          let there : w ≡ put w 0 (flats ps) = sym (standing w 0 l.points ps end (omega arith) laid.points) in
          closed_done (written_all w 0 (without_draws ps b) w (record { at = l.points; budget = b }) (omega arith) end refl there) closer

      ring-count : d.at ≡ 2 * length (close_ring_of ps)
      ring-count = omega (arith, ring_written.next, flats-length (close_ring_of ps))

      ring-points : points_in w' 0 d.at ≡ close_ring_of ps
      ring-points = written_points ring_written

-- ---- a separate fill
module _ (cx : Ctx) (p : Props) (outline : Option (List Point)) (ring : List Point) (b : Budget) {t : Output} where
  -- none is asked for
  pub fill_none : p.fill ≡ false → Fits t b → Applied (fill_of cx p outline ring b) t t b
  unfolding fill_of
  fill_none e h = rw e (applied_no_events t b h)

  module _ (qs : List Point) (is : unwrap_or outline ring ≡ qs) where
    few : length qs < 4 → Fits t b → Applied (fill_of cx p outline ring b) t t b
    unfolding fill_of
    few less h = rw (is, lt-leb 4 (length qs) less) (go p.fill)
      where
        go : (x : Bool) → Applied (pick_trace (x && false) (stroke_of cx p 2 1 qs b) (no_events b)) t t b
        go true = applied_no_events t b h
        go false = applied_no_events t b h

    drawn : {u : Output} {c : Budget} → p.fill ≡ true → 4 ≤ length qs → Applied (stroke_of cx p 2 1 qs b) t u c → Applied (fill_of cx p outline ring b) t u c
    unfolding fill_of
    drawn asked many one =
        let test : p.fill && leb 4 (length qs) ≡ true = rw (asked, le-leb 4 (length qs) many) in
        rw (is, test) one

-- the points that it is made of
module _ (w : List Float) (ring : List Point) (l : Workspace) where
  outline_is : (o : Option (List Point)) → OutlineLoaded w o l → {end : ℕ} → l.outline ≡ Some end
      → (unwrap_or (closed_outline o) ring ≡ points_in w l.ring end) × (end ≡ l.ring + 2 * length (points_in w l.ring end))
  outline_is None h {end} e = absurd (none-some end (sym h ∙ e))
  outline_is (Some qs) h e =
      let is = same_Some _ _ (sym h.0 ∙ e) in
      rw (← is, h.1) (refl, rw flats-length refl)

  own_is : (o : Option (List Point)) → OutlineLoaded w o l → l.outline ≡ None → unwrap_or (closed_outline o) ring ≡ ring
  own_is None h e = refl
  own_is (Some qs) h e = absurd (none-some _ (sym e ∙ h.0))

module _ (cx : Ctx) (p : Props) {w : List Float} {closed : Bool} {ps : List Point} {o : Option (List Point)} {l : Workspace} (laid : Loaded w closed ps o l) (b : Budget) where
  -- those of the outline
  module _ {end : ℕ} (outlined : l.outline ≡ Some end) where
    pub outline_few : {t : Output} → end - l.ring < 8 → Fits t b → Applied (fill_by cx p ps o b) t t b
    outline_few less h =
        let is = outline_is w (close_ring_of ps) l o laid.outline outlined in
        few cx p (closed_outline o) (close_ring_of ps) b _ is.0 (omega (arith, is.1)) h

    pub outline_drawn : {t u : Output} {c : Budget} → p.fill ≡ true → 8 ≤ end - l.ring
        → Applied (stroke_of cx p 2 1 (points_in w l.ring end) b) t u c → Applied (fill_by cx p ps o b) t u c
    outline_drawn asked many one =
        let is = outline_is w (close_ring_of ps) l o laid.outline outlined in
        drawn cx p (closed_outline o) (close_ring_of ps) b _ is.0 asked (omega (arith, is.1)) one

  -- its own, closed
  module _ (outlined : l.outline ≡ None) (bounds : Bounds l (length w)) {w' : List Float} {d : PointCursor} (closer : Written w w' l.points (without_draws (closing_in w 0 l.points) b) (Some d)) where
    is : unwrap_or (closed_outline o) (close_ring_of ps) ≡ close_ring_of ps
    is = own_is w (close_ring_of ps) l o laid.outline outlined

    pub own_few : {t : Output} → d.at < 8 → Fits t b → Applied (fill_by cx p ps o b) t t b
    own_few less h = few cx p (closed_outline o) (close_ring_of ps) b (close_ring_of ps) is (omega (arith, ring-count bounds closer laid)) h

    pub own_drawn : {t u : Output} {c : Budget} → p.fill ≡ true → 8 ≤ d.at
        → Applied (stroke_of cx p 2 1 (points_in w' 0 d.at) b) t u c → Applied (fill_by cx p ps o b) t u c
    own_drawn asked enough one =
        drawn cx p (closed_outline o) (close_ring_of ps) b (close_ring_of ps) is asked (omega (arith, ring-count bounds closer laid)) (rw (ring-points bounds closer laid) at one)
