-- Laws of what an item draws: its ring, its points or its paths. Assumes nothing.
use Rattle.std.specs.Prelude.{ℕ, suc, ◌≤◌, ◌≡◌, refl, Bool, true, false, cond, List, [], ◌∷◌, length, ltb, Float, Option, None, Some, is_some, Result, Ok}
use Rattle.std.proofs.Common.{arith, zero-add, lt-ltb}
use Rattle.budget.specs.declared.Budget.{Budget}
use Rattle.std.specs.Option.{ForSome}
use Rattle.values.specs.declared.refusal.Refusal.{Refusal}
use Rattle.scene.specs.Scene.{polyline, DrawnPath, DrawnItem}
use Rattle.scene.specs.declared.readers.Path.{Path}
use Rattle.scene.specs.Inner.Answers.{paths_from, paths_by}
use Rattle.values.specs.declared.Point.{Point}
use Rattle.densify.specs.declared.append.PointCursor.{PointCursor}
use Rattle.densify.specs.Densify.{Made, ellipse_ring_of, box_ring_of}
use Rattle.densify.specs.Inner.Written.{Written, drawn_by}
use Rattle.values.specs.Points.{flats}
use Rattle.densify.specs.Laws.Writing.{next_in, written_points}
use Rattle.values.specs.Laws.Points.{flats-length}
use Rattle.densify.specs.Laws.Replay.{ellipse_replays, box_replays}
use Rattle.densify.specs.Laws.Counts.{ring-least, ellipse_ring, box-ring}
use Rattle.densify.specs.Laws.Sizes.{left_falls, ellipse_most, box-most}
use Rattle.convert.specs.declared.shapes.Shape.{Shape}
use Rattle.strokes.specs.declared.state.Ctx.{Ctx}
use Rattle.strokes.specs.declared.state.Props.{Props}
use Rattle.strokes.specs.declared.state.State.{State}
use Rattle.convert.specs.Convert.{paths_of, shape_of, props_of, points_trace, paths_trace, drawn_of, item_of}
use Rattle.strokes.specs.Strokes.{Trace, missing, polyline_or_polygon_of, ring_trace}
use Rattle.strokes.specs.Space.{Output}
use Rattle.strokes.specs.Inner.Space.{most, output_by, Applied, Small, DrawsQuietly, RingLoaded, RingEnds, DrawsRing}

-- from a work slice of the same length
pub applied_from : {a : Trace} {j k : ℕ} {ps : List Float} {fs v : List ℕ} (st : State) {u : Output} {b : Budget} → j ≡ k
    → Applied a (output_by j ps fs v (Ok st)) u b → Applied a (output_by k ps fs v (Ok st)) u b
applied_from st e h = rw e at h

-- ---- rings
-- a ring has points, and few
pub record Round (m : Made) : Type 0 where
  pub some : 1 ≤ length m.points
  pub small : Small m

module _ (step scale tol : Float) (c : Point) (b : Budget) (left : b.left ≤ most) where
  pub ellipse_round : (rx ry : Float) → Round (ellipse_ring_of step scale tol c rx ry b)
  ellipse_round rx ry =
      record {
        some = omega (arith, ring-least (ellipse_ring step scale tol c rx ry b));
        small = record { few = omega (arith, ellipse_most step scale tol c rx ry b); left = omega (arith, left_falls (ellipse_replays step scale tol c rx ry b)) };
      }

  pub box_round : (w h rad : Float) → Round (box_ring_of step scale tol c w h rad b)
  box_round w h rad =
      record {
        some = omega (arith, ring-least (box-ring step scale tol c w h rad b));
        small = record { few = omega (arith, box-most step scale tol c w h rad b); left = omega (arith, left_falls (box_replays step scale tol c w h rad b)) };
      }

module _ {w w' : List Float} {m : Made} (round : Round m) where
  ends : {d : PointCursor} → Written w w' 0 m (Some d) → d.at ≡ length (flats m.points)
  ends one = omega (arith, one.next)

  ringed : (r : Option PointCursor) → Written w w' 0 m r → RingLoaded w' m r
  ringed None one = record { asked = rw one.kept (rw zero-add at one.asked); points = tt; end = tt; after = tt; left = tt; few = tt }
  ringed (Some d) one =
      record {
        asked = rw one.kept (rw zero-add at one.asked);
        points = written_points one;
        end = ends one;
        after = one.left;
        left = rw one.left round.small.left;
        few = omega (arith, ends one, flats-length m.points, round.small.few);
      }

  -- where it ends, as draw_ring asks for it
  pub ring_in : (r : Option PointCursor) → Written w w' 0 m r → ForSome r (λ d. RingEnds d (length w'))
  ring_in r one d is =
      let there : Written w w' 0 m (Some d) = rw is at one in
      let loaded = ringed (Some d) there in
      record {
        some = omega (arith, ends there, flats-length m.points, round.some);
        within = next_in there;
        few = loaded.few;
        left = loaded.left;
      }

  -- and drawn
  pub ring_applied : (cx : Ctx) (p : Props) (d : Option PointCursor) → Written w w' 0 m d → {st : State} (r : Result State Refusal) {ps ps' : List Float} {fs fs' : List ℕ}
      → DrawsRing cx p d w' ps fs st ps' fs' r → DrawsQuietly (ring_trace cx p m) w ps fs st w' ps' fs' r
  ring_applied cx p d one {st} r drawn v h = applied_from st one.kept (drawn m (ringed d one) v (rw one.kept h))

-- ---- points
module _ (cx : Ctx) (p : Props) (closed : Bool) {ps : Option (List Point)} (outline : Option (List Point)) (b : Budget) {c : Budget} {t u : Output} where
  pub points-missing : ps ≡ None → Applied (missing p.item b) t u c → Applied (points_trace cx p closed ps outline b) t u c
  unfolding points_trace
  points-missing e h = rw e h

  pub points-drawn : {qs : List Point} {o : Option (List Point)} → ps ≡ Some qs → outline ≡ o → Applied (polyline_or_polygon_of cx p closed qs o b) t u c
      → Applied (points_trace cx p closed ps outline b) t u c
  unfolding points_trace
  points-drawn e f h = rw (e, f) h

-- ---- paths
-- there is a second path where an answer says so
pub many_is : {qs : List DrawnPath} (q : DrawnPath) (rest : List DrawnPath) (more : Bool) → qs ≡ cond more (q ∷ rest) [] → ltb 0 (length qs) ≡ more
many_is q rest true e = rw e (lt-ltb 0 (suc (length rest)) (omega arith))
many_is q rest false e = rw e refl

pub many_by : (l : List ℕ) (q : ℕ) (r : Option Path) → paths_from l q 0 ≡ paths_by l 0 r → ltb 0 (length (paths_from l q 0)) ≡ is_some r
many_by l q (Some p) e = many_is (drawn_by l p) (paths_from l p.next 0) true e
many_by l q None e = many_is (record { closed = false; form = polyline [] }) [] false e

module _ (cx : Ctx) (p : Props) {qs : List DrawnPath} (outlines : List DrawnPath) (b : Budget) {c : Budget} {t u : Output} where
  pub paths_missing : qs ≡ [] → Applied (missing p.item b) t u c → Applied (paths_trace cx p qs outlines b) t u c
  unfolding paths_trace
  paths_missing e h = rw e h

  pub paths_drawn : {q : DrawnPath} {rest : List DrawnPath} {many : Bool} → qs ≡ q ∷ rest → ltb 0 (length rest) ≡ many → Applied (paths_of cx p many 0 qs outlines b) t u c
      → Applied (paths_trace cx p qs outlines b) t u c
  unfolding paths_trace
  paths_drawn e more h = rw (e, more) (rw e at h)

-- ---- an item
pub item-drawn : (e : ℕ) (cx : Ctx) {p : Props} (i : ℕ) (it : DrawnItem) {r s : Shape} (b : Budget) {c : Budget} {t u : Output} → p ≡ props_of e i it → r ≡ shape_of e it → r ≡ s
    → Applied (drawn_of cx p it s b) t u c → Applied (item_of e cx i it b) t u c
unfolding item_of
item-drawn e cx i it b props shape is h = rw (← props, ← shape, is) h
