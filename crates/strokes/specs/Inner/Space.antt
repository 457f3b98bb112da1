-- What the parts of `convert` leave in the lent slices.
use Rattle.std.specs.Prelude.{ℕ, ◌+◌, ◌-◌, ◌*◌, ◌≤◌, ◌≡◌, Bool, true, false, cond, List, [], map, length, set, get_or, leb, Float, Option, None, Some, unwrap_or, option_map, is_some, IfSome, Result, Ok, Err, is_ok, IfOk, IsOkUnless}
use Rattle.std.specs.Option.{ForSome}
use Rattle.std.specs.Float.{nan}
use Rattle.scene.specs.declared.readers.Path.{Path}
use Rattle.scene.specs.Scene.{DrawnPath}
use Rattle.values.specs.declared.Point.{Point}
use Rattle.values.specs.Inner.Refusals.{number_by}
use Rattle.values.specs.declared.refusal.Refusal.{Refusal}
use Rattle.values.specs.declared.refusal.Refusal.TheVariants.{WorkRoom, FeatureRoom}
use Rattle.projection.specs.declared.Projection.{Projection}
use Rattle.projection.specs.Projection.{project_point}
use Rattle.budget.specs.declared.Budget.{Budget}
use Rattle.densify.specs.declared.append.PointCursor.{PointCursor}
use Rattle.densify.specs.Densify.{Made, without_draws, close_ring_of, path_points_of, ellipse_ring_of, box_ring_of}
use Rattle.densify.specs.Inner.Written.{closing_in, Written, on_points, drawn_by}
use Rattle.values.specs.Inner.Points.{points_in}
use Rattle.values.specs.Points.{flats}
use Rattle.geojson.specs.Features.{Feature, words_of}
use Rattle.values.specs.Slices.{put}
use Rattle.strokes.specs.declared.workspace.Workspace.{Workspace}
use Rattle.strokes.specs.declared.state.Ctx.{Ctx}
use Rattle.strokes.specs.declared.state.Props.{Props}
use Rattle.strokes.specs.declared.state.State.{State}
use Rattle.strokes.specs.Strokes.{Trace, closed_outline, fill_of, work_of, polyline_or_polygon_of, ring_trace, positions_of}
use Rattle.strokes.specs.Space.{Output, apply_all}

-- ---- what the code holds
-- how much of each slice is used, and what is left; none once something lacks room
abbrev pub state_by : Result State Refusal → State
state_by (Ok st) = st
state_by (Err e) = record { positions = 0; features = 0; warnings = 0; budget = record { left = 0; hit = false } }

abbrev pub output_by : ℕ → List Float → List ℕ → List ℕ → Result State Refusal → Output
output_by work positions features warnings r =
    let st = state_by r in
    record {
      work = work;
      positions = positions;
      features = features;
      warnings = warnings;
      used_positions = st.positions;
      used_features = st.features;
      used_warnings = st.warnings;
      number = number_by r;
    }

-- the largest allowance that a count of positions is shown to bear
abbrev pub most : ℕ
most = 16777216

-- what is used lies in the slices
pub record Fits (t : Output) (b : Budget) : Type 0 where
  pub positions : t.used_positions ≤ length t.positions
  pub features : t.used_features ≤ length t.features
  pub warnings : t.used_warnings ≤ length t.warnings
  pub left : b.left ≤ most

-- From sheet t to sheet u by these events. Where something lacks room, what was written so far is left open: the host's
-- call then clears all slices.
pub record Applied (trace : Trace) (t u : Output) (b : Budget) : Type 0 where
  pub number : u.number ≡ (apply_all trace.events t).number
  pub same : u.number ≡ 0 → u ≡ apply_all trace.events t
  pub after : u.number ≡ 0 → b ≡ trace.after
  pub work : u.work ≡ t.work
  pub positions : length u.positions ≡ length t.positions
  pub features : length u.features ≡ length t.features
  pub warnings : length u.warnings ≡ length t.warnings
  pub fits : Fits u b

-- the same from slices and an answer to slices and an answer
abbrev pub Draws : Trace → List Float → List Float → List ℕ → List ℕ → Result State Refusal
    → List Float → List Float → List ℕ → List ℕ → Result State Refusal → Type 0
Draws t w p f v st w' p' f' v' r =
    Applied t (output_by (length w) p f v st) (output_by (length w') p' f' v' r) (state_by r).budget

-- the same where no warning is written, whatever the slice of warnings is
abbrev pub DrawsQuietly : Trace → List Float → List Float → List ℕ → State
    → List Float → List Float → List ℕ → Result State Refusal → Type 0
DrawsQuietly t w p f st w' p' f' r =
    (v : List ℕ) → Fits (output_by (length w) p f v (Ok st)) st.budget → Draws t w p f v (Ok st) w' p' f' v r

-- and whatever the work slice is: positions and feature lines alone
abbrev pub Strokes : Trace → List Float → List ℕ → Result State Refusal
    → List Float → List ℕ → Result State Refusal → Type 0
Strokes t p f st p' f' r =
    (w : ℕ) (v : List ℕ) → Fits (output_by w p f v st) (state_by st).budget
    → Applied t (output_by w p f v st) (output_by w p' f' v r) (state_by r).budget

-- warnings alone, whatever the other slices are
abbrev pub Warns : Trace → List ℕ → State → List ℕ → Result State Refusal → Type 0
Warns t v st v' r =
    (w : ℕ) (p : List Float) (f : List ℕ) → Fits (output_by w p f v (Ok st)) st.budget
    → Applied t (output_by w p f v (Ok st)) (output_by w p f v' r) (state_by r).budget

-- what is used still lies in the slices
abbrev pub KeepsFit : List Float → List Float → List ℕ → State
    → List Float → List Float → List ℕ → Result State Refusal → Type 0
KeepsFit w p f st w' p' f' r =
    (v : List ℕ) → Fits (output_by (length w) p f v (Ok st)) st.budget
    → Fits (output_by (length w') p' f' v r) (state_by r).budget

-- what is used of positions and feature lines lies in the slices
pub record CanDraw (p : List Float) (f : List ℕ) (st : State) : Type 0 where
  pub positions : st.positions ≤ length p
  pub features : st.features ≤ length f
  pub left : st.budget.left ≤ most

-- a box, and an ellipse with its two radii
abbrev pub box_trace : Ctx → Props → Float → Float → Float → Float → Float → Budget → Trace
box_trace cx p x y w h rad b =
    ring_trace cx p
    (box_ring_of cx.step cx.projection.registration.scale cx.flatten (record { x = x; y = y }) w h rad b)

abbrev pub ellipse_trace : Ctx → Props → Float → Float → Float → Float → Budget → Trace
ellipse_trace cx p x y rx ry b =
    ring_trace cx p
    (ellipse_ring_of cx.step cx.projection.registration.scale cx.flatten (record { x = x; y = y }) rx ry b)

-- a feature's line behind its positions, which end at `to`
abbrev pub line_by : Props → ℕ → ℕ → ℕ → Feature
line_by p geometry role count =
    record {
      item = p.item;
      geometry = geometry;
      role = role;
      placement = p.placement;
      part = p.part;
      count = count;
    }

pub record Finished (p : Props) (geometry role to count : ℕ) (b : Budget) (f f' : List ℕ) (st : State) (r : Result State Refusal)
    : Type 0 where
  pub fits : leb (st.features + 6) (length f) ≡ true
      → f' ≡ put f st.features (words_of (line_by p geometry role count))
  pub then : leb (st.features + 6) (length f) ≡ true
      → r ≡ Ok (record st { positions = to; features = st.features + 6; budget = b })
  pub short : leb (st.features + 6) (length f) ≡ false → f' ≡ f
  pub lacks : leb (st.features + 6) (length f) ≡ false → r ≡ Err FeatureRoom

-- ---- a shape's points in the work slice
-- as many floats as work may be used for at once
abbrev pub longest : ℕ
longest = 134217728

-- what closes points that stand from 0 to `at`, where they are marked so
abbrev pub closer : Bool → List Float → ℕ → Budget → Made
closer closed w at b = without_draws (cond closed (closing_in w 0 at) []) b

-- where its outline ends, or its points without one
abbrev pub end_of : Workspace → ℕ
end_of l = unwrap_or l.outline l.ring

-- the outline's closed points, where it has one
abbrev pub OutlineLoaded : List Float → Option (List Point) → Workspace → Type 0
OutlineLoaded w None l = l.outline ≡ None
OutlineLoaded w (Some o) l =
    let end = l.ring + length (flats (close_ring_of o)) in
    (l.outline ≡ Some end) × (points_in w l.ring end ≡ close_ring_of o)

-- its points from 0 on, closed where it is marked closed, then its outline's
pub record Loaded (w : List Float) (closed : Bool) (ps : List Point) (o : Option (List Point)) (l : Workspace) : Type 0 where
  pub points_end : l.points ≡ length (flats ps)
  pub points : points_in w 0 l.points ≡ ps
  pub ring_end : l.ring ≡ length (flats (cond closed (close_ring_of ps) ps))
  pub ring : points_in w 0 l.ring ≡ cond closed (close_ring_of ps) ps
  pub outline : OutlineLoaded w o l
  pub few : end_of l + 2 ≤ longest

-- where they end, in a slice of n floats with room for one point more
pub record Bounds (l : Workspace) (n : ℕ) : Type 0 where
  pub points : l.points ≤ l.ring
  pub ring : l.ring ≤ end_of l
  pub outline : end_of l + 2 ≤ n
  pub few : end_of l + 2 ≤ longest

-- laid out where they and one point more have room
pub record Loads (w w' : List Float) (closed : Bool) (ps : List Point) (o : Option (List Point)) (b : Budget)
    (r : Result Workspace Refusal) : Type 0 where
  pub asked : is_ok r ≡ leb (2 * work_of closed ps (close_ring_of ps) (closed_outline o)) (length w)
  pub lacks : IsOkUnless r WorkRoom
  pub laid : IfOk r (λ l. Loaded w' closed ps o l)
  pub after : IfOk r (λ l. l.budget ≡ b)
  pub left : IfOk r (λ l. l.budget.left ≤ most)
  pub kept : length w' ≡ length w

-- few enough points for two such lists to stay below `longest`
pub record Small (m : Made) : Type 0 where
  pub few : length m.points ≤ 33554430
  pub left : m.after.left ≤ most

-- a path with the outline that may come with it
abbrev pub outline_by : List ℕ → Option Path → Option DrawnPath
outline_by l r = option_map (drawn_by l) r

abbrev pub LoadsPath : List Float → List Float → Float → DrawnPath → Option DrawnPath → Budget
    → Result Workspace Refusal → Type 0
LoadsPath w w' tol path None b r =
    let m = path_points_of tol path b in
    Loads w w' path.closed m.points None m.after r
LoadsPath w w' tol path (Some o) b r =
    let m = path_points_of tol path b in
    let n = path_points_of tol o m.after in
    Loads w w' path.closed m.points (Some n.points) n.after r

-- a ring's points from 0 on
pub record RingLoaded (w : List Float) (m : Made) (r : Option PointCursor) : Type 0 where
  pub asked : is_some r ≡ leb (length (flats m.points)) (length w)
  pub points : IfSome r (λ d. points_in w 0 d.at ≡ m.points)
  pub end : IfSome r (λ d. d.at ≡ length (flats m.points))
  pub after : IfSome r (λ d. d.budget ≡ m.after)
  pub left : IfSome r (λ d. d.budget.left ≤ most)
  pub few : IfSome r (λ d. d.at ≤ longest)

-- ---- what the parts ask for, and do for every sheet
-- points from `from` to `to` in a work slice of n floats, and room behind what is used
pub record CanStroke (n from to : ℕ) (p : List Float) (f : List ℕ) (st : State) : Type 0 where
  pub some : from + 2 ≤ to
  pub points : to ≤ n
  pub few : to ≤ longest
  pub positions : st.positions ≤ length p
  pub features : st.features ≤ length f
  pub left : st.budget.left ≤ most

-- a shape's points in a work slice of n floats
pub record CanFill (l : Workspace) (n : ℕ) (p : List Float) (f : List ℕ) (st : State) : Type 0 where
  pub bounds : Bounds l n
  pub positions : st.positions ≤ length p
  pub features : st.features ≤ length f
  pub left : st.budget.left ≤ most

-- a ring's points in a work slice of n floats
pub record RingEnds (d : PointCursor) (n : ℕ) : Type 0 where
  pub some : 2 ≤ d.at
  pub within : d.at ≤ n
  pub few : d.at ≤ longest
  pub left : d.budget.left ≤ most

pub record CanDrawRing (r : Option PointCursor) (n : ℕ) (p : List Float) (f : List ℕ) (st : State) : Type 0 where
  pub ring : ForSome r (λ d. RingEnds d n)
  pub positions : st.positions ≤ length p
  pub features : st.features ≤ length f

-- points that end at d.at, and then an outline behind them, loaded whatever stood there before
abbrev pub LoadsOwn : Bool → Option PointCursor → List Float → List Float → Result Workspace Refusal → Type 0
LoadsOwn closed d w₁ w₂ r =
    (w : List Float) (m : Made) → Written w w₁ 0 m d → Small m → Loads w w₂ closed m.points None m.after r

abbrev pub LoadsOutline : Workspace → Option PointCursor → List Float → List Float → Result Workspace Refusal → Type 0
LoadsOutline l d w₂ w₃ r =
    (w w₁ : List Float) (closed : Bool) (ps : List Point) (b : Budget) (m : Made) → Loads w w₁ closed ps None b (Ok l)
    → length ps ≤ 33554430 → Written w₁ w₂ l.ring m d → Small m
    → Loads w w₃ closed ps (Some m.points) m.after r

-- whatever points were loaded are filled, or drawn with their fill
abbrev pub Fills : Ctx → Props → Workspace → List Float → List Float → List ℕ → State
    → List Float → List Float → List ℕ → Result State Refusal → Type 0
Fills cx p l w q f st w' q' f' r =
    (closed : Bool) (ps : List Point) (o : Option (List Point)) → Loaded w closed ps o l
    → DrawsQuietly (fill_of cx p (closed_outline o) (close_ring_of ps) st.budget) w q f st w' q' f' r

abbrev pub DrawsLoaded : Ctx → Props → Bool → Result Workspace Refusal
    → List Float → List Float → List ℕ → List ℕ → Result State Refusal
    → List Float → List Float → List ℕ → List ℕ → Result State Refusal → Type 0
DrawsLoaded cx p closed l w q f v st w' q' f' v' r =
    (w₀ : List Float) (ps : List Point) (o : Option (List Point)) (b : Budget) → Loads w₀ w closed ps o b l
    → Draws (polyline_or_polygon_of cx p closed ps o b) w q f v st w' q' f' v' r

-- whatever ring was loaded is drawn
abbrev pub DrawsRing : Ctx → Props → Option PointCursor → List Float → List Float → List ℕ → State
    → List Float → List ℕ → Result State Refusal → Type 0
DrawsRing cx p d w q f st q' f' r =
    (m : Made) → RingLoaded w m d → DrawsQuietly (ring_trace cx p m) w q f st w q' f' r

-- ---- positions
-- a cursor into the tail from `at` on, as one into the whole slice
abbrev pub behind_at : ℕ → PointCursor → PointCursor
behind_at at d = record d { at = at + d.at }

-- what a polyline's points become, of a line or a ring
abbrev pub project_and_close : Projection → ℕ → List Point → List Point
project_and_close t geometry ps = positions_of geometry (map (project_point t) ps)

-- from w to w', what was written from `at` on up to d becomes what f makes of it, up to r
abbrev pub Rewrites : (List Point → List Point) → List Float → List Float → ℕ → PointCursor → PointCursor → Type 0
Rewrites f w w' at d r = (q : List Float) (m : Made) → Written q w at m (Some d) → Written q w' at (on_points f m) (Some r)

-- the last overwritten by the first
unfoldable pub first_repeated_in : List Float → ℕ → ℕ → List Float
first_repeated_in w from to = set (set w (to - 2) (get_or w from nan)) (to - 1) (get_or w (from + 1) nan)
