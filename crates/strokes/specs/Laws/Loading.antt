-- Laws of points laid out in the work slice. Assumes nothing.
use Prim.Native.Nat.{ℕ, zero, suc, ◌+◌, ◌-◌, ◌*◌, ◌/◌, ◌≤◌, ◌<◌}
use Rattle.std.proofs.Common.{arith, sym, ap, ◌∙◌, get_or-take}
use Rattle.std.specs.Prelude.{◌≡◌, Bool, true, false, cond, List, [], take, get_or, Float, Option, None, Some, unwrap_or, Result, Ok, Err, IfOk}
use Rattle.std.proofs.Math.Path.{refl}
use Rattle.std.proofs.Math.ListN.{length}
use Rattle.std.specs.Float.{nan}
use borrow.Author.Tests.{le-leb, lt-leb, leb-true, leb-false}
use Rattle.budget.specs.declared.Budget.{Budget}
use Rattle.scene.specs.declared.readers.Path.{Path}
use Rattle.scene.specs.Scene.{point_at, points_at, cubics_at, curve, polyline, DrawnPath}
use Rattle.values.specs.declared.Point.{Point}
use Rattle.scene.specs.Inner.Answers.{form_by}
use Rattle.scene.specs.Laws.Points.{points-length}
use Rattle.densify.specs.declared.append.PointCursor.{PointCursor}
use Rattle.densify.specs.Densify.{Made, without_draws, close_ring_of, closed_if, path_points_of}
use Rattle.densify.specs.Inner.Written.{Written, drawn_by}
use Rattle.values.specs.Inner.Points.{points_in}
use Rattle.values.specs.Points.{points_of}
use Rattle.densify.specs.Laws.Writing.{no_room, join_done, and_then-none, written_points}
use Rattle.values.specs.Laws.Points.{flats-length}
use Rattle.densify.specs.Laws.Closing.{closed_done}
use Rattle.densify.specs.Laws.Counts.{Within, close_within}
use Rattle.densify.specs.Laws.Replay.{path_replays}
use Rattle.densify.specs.Laws.Sizes.{left_falls, size_of, path-sized}
use Rattle.strokes.specs.declared.workspace.Workspace.{Workspace}
use Rattle.strokes.specs.Strokes.{closed_outline, work_of}
use Rattle.values.specs.declared.refusal.Refusal.{Refusal}
use Rattle.values.specs.declared.refusal.Refusal.TheVariants.{WorkRoom}
use Rattle.strokes.specs.Inner.Space.{most, closer, end_of, OutlineLoaded, Loaded, Bounds, Loads, Small, LoadsPath}

-- ---- points of slices that agree up to n
module _ (a b : List Float) (n : ℕ) (e : take n a ≡ take n b) where
  value-kept : (i : ℕ) → i < n → get_or a i nan ≡ get_or b i nan
  value-kept i h = sym (get_or-take n a i nan h) ∙ ap (λ (l : List Float). get_or l i nan) e ∙ get_or-take n b i nan h

  run_kept : (i k : ℕ) → 2 * k ≤ n - i → points_of a i k ≡ points_of b i k
  unfolding points_of
  run_kept i zero h = refl
  run_kept i (suc k) h = rw (value-kept i (omega arith), value-kept (i + 1) (omega arith), run_kept (i + 2) k (omega arith))

  pub points_kept : (from to : ℕ) → to ≤ n → points_in a from to ≡ points_in b from to
  unfolding points_in
  points_kept from to h = run_kept from ((to - from) / 2) (omega arith)

-- ---- Loads, by its answer
module _ {w w' : List Float} {closed : Bool} {ps : List Point} {o : Option (List Point)} {b : Budget} where
  loads_short : {e : Refusal} → e ≡ WorkRoom → length w < 2 * work_of closed ps (close_ring_of ps) (closed_outline o) → length w' ≡ length w
      → Loads w w' closed ps o b (Err e)
  loads_short is h whole = record { asked = sym (lt-leb _ _ h); lacks = is; laid = tt; after = tt; left = tt; kept = whole }

  loads_all : {l : Workspace} → 2 * work_of closed ps (close_ring_of ps) (closed_outline o) ≤ length w → Loaded w' closed ps o l → l.budget ≡ b → b.left ≤ most
      → length w' ≡ length w → Loads w w' closed ps o b (Ok l)
  loads_all h there same left whole =
      record { asked = sym (le-leb _ _ h); lacks = tt; laid = there; after = same; left = rw same left; kept = whole }

-- ---- how many points there are
-- a shape's points, closed where it is marked so
abbrev ring_of : Bool → List Point → List Point
ring_of closed ps = cond closed (close_ring_of ps) ps

ring_within : (closed : Bool) (ps : List Point) → Within (length ps) (suc (length ps)) (length (ring_of closed ps))
ring_within true ps = close_within ps
ring_within false ps = omega arith

ends_at : (w : List Float) (o : Option (List Point)) (l : Workspace) → OutlineLoaded w o l → end_of l ≡ l.ring + 2 * length (unwrap_or (closed_outline o) [])
ends_at w None l h = omega (arith, ap (λ (x : Option ℕ). unwrap_or x l.ring) h)
ends_at w (Some q) l h = omega (arith, ap (λ (x : Option ℕ). unwrap_or x l.ring) h.0, flats-length (close_ring_of q))

-- what was laid out lies in the slice
pub loaded_bounds : {w w' : List Float} {closed : Bool} {ps : List Point} {o : Option (List Point)} {b : Budget} {l : Workspace} → Loads w w' closed ps o b (Ok l) → Bounds l (length w')
unfolding work_of
loaded_bounds {w = w} {w' = w'} {closed = closed} {ps = ps} {o = o} {l = l} lays =
    let there = lays.laid in
    let room : 2 * work_of closed ps (close_ring_of ps) (closed_outline o) ≤ length w = leb-true _ _ (sym lays.asked) in
    let ends = ends_at w' o l there.outline in
    let n = ring_within closed ps in
    record {
      points = omega (arith, flats-length ps, flats-length (ring_of closed ps));
      ring = omega arith;
      outline = omega (arith, flats-length (ring_of closed ps), lays.kept);
      few = there.few;
    }

-- as drawing it asks for
pub loads_ready : {w w' : List Float} {closed : Bool} {ps : List Point} {o : Option (List Point)} {b : Budget} (r : Result Workspace Refusal) → Loads w w' closed ps o b r
    → IfOk r (λ l. Bounds l (length w') × (l.budget.left ≤ most))
loads_ready (Ok l) lays = (loaded_bounds lays, lays.left)
loads_ready (Err e) lays = tt

-- and there is where an outline goes
pub end_in : {w w' : List Float} {closed : Bool} {ps : List Point} {o : Option (List Point)} {b : Budget} {l : Workspace} → Loads w w' closed ps o b (Ok l) → l.ring ≤ length w'
end_in lays = let b = loaded_bounds lays in omega arith

-- points without room: none with an outline either
pub loads_more : {w w' : List Float} {closed : Bool} {ps : List Point} {b : Budget} {e : Refusal} → Loads w w' closed ps None b (Err e)
    → (o : Option (List Point)) (c : Budget) → Loads w w' closed ps o c (Err e)
unfolding work_of
loads_more {w = w} {closed = closed} {ps = ps} own o c =
    let h : length w < 2 * work_of closed ps (close_ring_of ps) None = leb-false _ _ (sym own.asked) in
    loads_short own.lacks (omega arith) own.kept

pub path-short : {w w' : List Float} (tol : Float) (p : DrawnPath) (b : Budget) {e : Refusal} → LoadsPath w w' tol p None b (Err e)
    → (o : Option DrawnPath) → LoadsPath w w' tol p o b (Err e)
path-short tol p b own None = own
path-short tol p b own (Some o) = loads_more own _ _

-- ---- a record's count is below 65536
pub points_small : (l : List ℕ) (p n : ℕ) (b : Budget) → n < 65536 → b.left ≤ most → Small (without_draws (points_at l p n) b)
points_small l p n b h left = record { few = rw points-length (omega arith); left = left }

cubics-length : (l : List ℕ) (p n : ℕ) → length (cubics_at l p n) ≡ n
unfolding cubics_at
cubics-length l p zero = refl
cubics-length l p (suc n) = ap suc (cubics-length l (p + 48) n)

form_size : (l : List ℕ) (p : Path) → size_of (form_by l p) ≡ p.count
form_size l p = go p.curve
  where
    go : (t : Bool) → size_of (cond t (curve (point_at l p.start) (cubics_at l p.at p.count)) (polyline (points_at l p.at p.count))) ≡ p.count
    go true = cubics-length l p.at p.count
    go false = points-length l p.at p.count

pub path_small : (tol : Float) (l : List ℕ) (p : Path) (b : Budget) → p.count < 65536 → b.left ≤ most → Small (path_points_of tol (drawn_by l p) b)
path_small tol l p b h left =
    record {
      few = omega (arith, path-sized tol (drawn_by l p) b, form_size l p);
      left = omega (arith, left_falls (path_replays tol (drawn_by l p) b));
    }

-- ---- a shape's own points, then closed where it is marked so
closed_points : (closed : Bool) (m : Made) → (closed_if closed m).points ≡ ring_of closed m.points
closed_points true m = refl
closed_points false m = refl

closed_by : (closed : Bool) {w w₁ w₂ : List Float} {m : Made} {d : PointCursor} {r : Option PointCursor} → Written w w₁ 0 m (Some d)
    → Written w₁ w₂ d.at (closer closed w₁ d.at d.budget) r → Written w w₂ 0 (closed_if closed m) r
closed_by true one two = closed_done one two
closed_by false {m = m} one two = rw (and_then-none m) at (join_done one (without_draws []) two)

-- they have no room
pub own_short : {w w₁ : List Float} (closed : Bool) {m : Made} → Written w w₁ 0 m None → Loads w w₁ closed m.points None m.after (Err WorkRoom)
unfolding work_of
own_short closed {m} one = loads_short refl (omega (arith, no_room one, flats-length m.points, ring_within closed m.points)) one.kept

module _ {w w₁ w₂ : List Float} (closed : Bool) {m : Made} {d : PointCursor} (one : Written w w₁ 0 m (Some d)) where
  -- the closing point has none
  pub ring-short : Written w₁ w₂ d.at (closer closed w₁ d.at d.budget) None → Loads w w₂ closed m.points None m.after (Err WorkRoom)
  unfolding work_of
  ring-short two =
      let whole = closed_by closed one two in
      loads_short refl (omega (arith, rw closed_points at (no_room whole), flats-length (ring_of closed m.points))) whole.kept

  module _ {e : PointCursor} (two : Written w₁ w₂ d.at (closer closed w₁ d.at d.budget) (Some e)) where
    whole : Written w w₂ 0 (closed_if closed m) (Some e)
    whole = closed_by closed one two

    ends : e.at ≡ 2 * length (ring_of closed m.points)
    ends = omega (arith, rw closed_points at whole.next, flats-length (ring_of closed m.points))

    -- one point more has none
    pub own_full : length w₂ < e.at + 2 → Loads w w₂ closed m.points None m.after (Err WorkRoom)
    unfolding work_of
    own_full h = loads_short refl (omega (arith, ends, whole.kept)) whole.kept

    pub own_loaded : Small m → e.at + 2 ≤ length w₂
        → Loads w w₂ closed m.points None m.after (Ok (record { points = d.at; ring = e.at; outline = None; budget = d.budget }))
    unfolding work_of
    own_loaded small room =
        loads_all (omega (arith, ends, whole.kept))
        (record {
          points_end = omega (arith, one.next);
          points = points_kept w₂ w₁ d.at two.before 0 d.at (omega arith) ∙ written_points one;
          ring_end = omega (arith, ends, flats-length (ring_of closed m.points));
          ring = written_points whole ∙ closed_points closed m;
          outline = refl;
          few = omega (arith, ends, small.few, ring_within closed m.points);
        })
        one.left small.left whole.kept

-- ---- an outline behind them, closed
module _ {w w₁ : List Float} {closed : Bool} {ps : List Point} {b : Budget} {l : Workspace} (own : Loads w w₁ closed ps None b (Ok l)) where
  end_is : l.ring ≡ 2 * length (ring_of closed ps)
  end_is = omega (arith, own.laid.ring_end, flats-length (ring_of closed ps))

  module _ (m : Made) {w₂ : List Float} where
    pub outline_short : Written w₁ w₂ l.ring m None → Loads w w₂ closed ps (Some m.points) m.after (Err WorkRoom)
    unfolding work_of
    outline_short one =
        loads_short refl (omega (arith, no_room one, end_is, flats-length m.points, close_within m.points, own.kept)) (one.kept ∙ own.kept)

    pub closing-short : Written w₁ w₂ l.ring (closed_if true m) None → Loads w w₂ closed ps (Some m.points) m.after (Err WorkRoom)
    unfolding work_of
    closing-short two =
        loads_short refl (omega (arith, no_room two, end_is, flats-length (close_ring_of m.points), own.kept)) (two.kept ∙ own.kept)

    module _ {e : PointCursor} (two : Written w₁ w₂ l.ring (closed_if true m) (Some e)) where
      fin_is : e.at ≡ l.ring + 2 * length (close_ring_of m.points)
      fin_is = omega (arith, two.next, flats-length (close_ring_of m.points))

      pub outline_full : length w₂ < e.at + 2 → Loads w w₂ closed ps (Some m.points) m.after (Err WorkRoom)
      unfolding work_of
      outline_full h = loads_short refl (omega (arith, end_is, fin_is, two.kept, own.kept)) (two.kept ∙ own.kept)

      pub outline_loaded : {left : Budget} → length ps ≤ 33554430 → Small m → left ≡ m.after → e.at + 2 ≤ length w₂
          → Loads w w₂ closed ps (Some m.points) m.after (Ok (record l { outline = Some e.at; budget = left }))
      unfolding work_of
      outline_loaded few small left room =
          let first = own.laid in
          let bounds = loaded_bounds own in
          let same = points_kept w₂ w₁ l.ring two.before 0 in
          loads_all (omega (arith, end_is, fin_is, two.kept, own.kept))
          (record {
            points_end = first.points_end;
            points = same l.points bounds.points ∙ first.points;
            ring_end = first.ring_end;
            ring = same l.ring (omega arith) ∙ first.ring;
            outline = (ap Some two.next, ap (points_in w₂ l.ring) (sym two.next) ∙ written_points two);
            few = omega (arith, end_is, fin_is, small.few, ring_within closed ps, close_within m.points);
          })
          left small.left (two.kept ∙ own.kept)
