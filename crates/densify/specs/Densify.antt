-- The source's densify.rs, function by function: points on the canvas, and the draws that make them. Announced variations are parameters: the step in metres, and the budget to start from.
use Rattle.std.specs.Prelude.{ℕ, zero, suc, ◌+◌, ◌*◌, ◌/◌, min, max, Bool, true, false, cond, not, ◌&&◌, ◌||◌, ltb, List, [], ◌∷◌, ◌++◌, pos, from_bits, nat_lt, Float}
use Rattle.std.specs.Float.{binary64}
use Rattle.std.specs.Float.Ieee.{of_int, to_unsigned, add, sub, mul, div, lt, le, eq}
use Rattle.std.specs.Float.Ieee.Scale.{finite}
use Rattle.float.specs.Functions.{abs_of, max_of, min_of, ceil_of}
use Rattle.elementary.specs.Constants as K
use Rattle.elementary.specs.Functions.{to_radians_of, hypot_of, sin_of, cos_of, acos_of}
use Rattle.budget.specs.declared.Budget.{Budget}
use Rattle.budget.specs.Budget.{take_of}
use Rattle.scene.specs.Scene.{Cubic, Form, curve, polyline, DrawnPath}
use Rattle.values.specs.declared.Point.{Point}

-- ---- what a producer makes: its points, the budget after them, and its draws in order
-- a call of `take`; `cut` says that a piece that was not flat met fewer than 2 left just before it
pub record GrantedDraw : Type 0 where
  pub want : ℕ
  pub floor : ℕ
  pub granted : ℕ
  pub cut : Bool

pub record Made : Type 0 where
  pub points : List Point
  pub after : Budget
  pub draws : List GrantedDraw

-- nothing is drawn
abbrev pub without_draws : List Point → Budget → Made
without_draws ps b = record { points = ps; after = b; draws = [] }

-- one draw, and the points that its grant makes
abbrev pub with_draw : Budget → ℕ → ℕ → (ℕ → List Point) → Made
with_draw b want floor f =
    let t = take_of b want floor in
    record { points = f t.granted; after = t.budget; draws = record { want = want; floor = floor; granted = t.granted; cut = false } ∷ [] }

-- one producer's work, then another's from the budget that it left
abbrev pub and_then : Made → (Budget → Made) → Made
and_then a f = let b = f a.after in record { points = a.points ++ b.points; after = b.after; draws = a.draws ++ b.draws }

-- ---- numbers
abbrev pub c32 : Float
c32 = from_bits binary64 0x4040000000000000

abbrev pub c90 : Float
c90 = from_bits binary64 0x4056800000000000

abbrev pub c270 : Float
c270 = from_bits binary64 0x4070e00000000000

-- 1e-9
abbrev pub tiny : Float
tiny = from_bits binary64 0x3e112e0be826d695

abbrev pub whole : ℕ → Float
whole n = of_int binary64 (pos n)

-- `n as usize`, held to lo .. hi; hi for what is not finite
unfoldable pub clamped : ℕ → ℕ → Float → ℕ
clamped lo hi n = cond (finite n) (max lo (min hi (to_unsigned 64 n))) hi

-- ---- flatten_cubic
-- a cubic with its start
pub record Block : Type 0 where
  pub p0 : Point
  pub c1 : Point
  pub c2 : Point
  pub p3 : Point

-- the distance of p from the chord
unfoldable pub dist_of : Block → Point → Float
dist_of b p =
    let vx = sub binary64 b.p3.x b.p0.x in
    let vy = sub binary64 b.p3.y b.p0.y in
    let px = sub binary64 p.x b.p0.x in
    let py = sub binary64 p.y b.p0.y in
    let len = hypot_of vx vy in
    cond (eq len K.zero) (hypot_of px py) (div binary64 (abs_of (sub binary64 (mul binary64 px vy) (mul binary64 py vx))) len)

unfoldable pub flat_of : Float → Block → Bool
flat_of tol b = le (max_of (dist_of b b.c1) (dist_of b b.c2)) tol

unfoldable pub mid_of : Point → Point → Point
mid_of a b = record { x = div binary64 (add binary64 a.x b.x) K.two; y = div binary64 (add binary64 a.y b.y) K.two }

-- de Casteljau's halves
unfoldable pub first_half : Block → Block
first_half b =
    let p01 = mid_of b.p0 b.c1 in
    let p12 = mid_of b.c1 b.c2 in
    let p23 = mid_of b.c2 b.p3 in
    let p012 = mid_of p01 p12 in
    let p123 = mid_of p12 p23 in
    record { p0 = b.p0; c1 = p01; c2 = p012; p3 = mid_of p012 p123 }

unfoldable pub second_half : Block → Block
second_half b =
    let p01 = mid_of b.p0 b.c1 in
    let p12 = mid_of b.c1 b.c2 in
    let p23 = mid_of b.c2 b.p3 in
    let p012 = mid_of p01 p12 in
    let p123 = mid_of p12 p23 in
    record { p0 = mid_of p012 p123; c1 = p123; c2 = p23; p3 = b.p3 }

-- the end of a piece: a draw of one, and the mark where a split was wanted and fewer than 2 were left
unfoldable pub leaf_of : Bool → Point → Budget → Made
leaf_of flat p b =
    let cut = not flat && ltb b.left 2 in
    let t = take_of (record { left = b.left; hit = b.hit || cut }) 1 1 in
    record { points = p ∷ []; after = t.budget; draws = record { want = 1; floor = 1; granted = t.granted; cut = cut } ∷ [] }

abbrev pub pick_made : Bool → Made → Made → Made
pick_made true a b = a
pick_made false a b = b

-- at most `fuel` halvings more
unfoldable pub split_of : ℕ → Float → Block → Budget → Made
split_of zero tol c b = leaf_of (flat_of tol c) c.p3 b
split_of (suc fuel) tol c b =
    pick_made (flat_of tol c || nat_lt b.left 2) (leaf_of (flat_of tol c) c.p3 b)
    (and_then (split_of fuel tol (first_half c) b) (λ r. split_of fuel tol (second_half c) r))

unfoldable pub flatten_cubic_of : Float → Block → Budget → Made
flatten_cubic_of tol c b = split_of 16 (max_of tol tiny) c b

-- ---- path_points
unfoldable pub cubics_of : Float → Point → List Cubic → Budget → Made
cubics_of tol p [] b = without_draws [] b
cubics_of tol p (c ∷ cs) b =
    and_then (flatten_cubic_of tol (record { p0 = p; c1 = c.c1; c2 = c.c2; p3 = c.end }) b) (λ r. cubics_of tol c.end cs r)

unfoldable pub form_points : Float → Form → Budget → Made
form_points tol (curve start cs) b = and_then (without_draws (start ∷ []) b) (λ r. cubics_of tol start cs r)
form_points tol (polyline ps) b = without_draws ps b

-- close_ring: by value, so -0.0 is 0.0
unfoldable pub same_point : Point → Point → Bool
same_point p q = eq p.x q.x && eq p.y q.y

abbrev pub last_of : Point → List Point → Point
last_of p [] = p
last_of p (q ∷ qs) = last_of q qs

unfoldable pub close_ring_of : List Point → List Point
close_ring_of [] = []
close_ring_of (p ∷ ps) = cond (same_point p (last_of p ps)) (p ∷ ps) ((p ∷ ps) ++ (p ∷ []))

abbrev pub closed_if : Bool → Made → Made
closed_if true m = record { points = close_ring_of m.points; after = m.after; draws = m.draws }
closed_if false m = m

unfoldable pub path_points_of : Float → DrawnPath → Budget → Made
path_points_of tol p b = closed_if p.closed (form_points tol p.form b)

-- ---- densify_polyline
-- the parts of a segment so many metres long; 100,000 at most
unfoldable pub segment_parts : Float → Float → ℕ
segment_parts step metres = cond (finite metres) (clamped 1 100000 (ceil_of (div binary64 metres step))) 1

-- k nths of the way from a to b
unfoldable pub along_of : Point → Point → ℕ → ℕ → Point
along_of a b k n =
    let t = div binary64 (whole k) (whole n) in
    record {
      x = add binary64 a.x (mul binary64 t (sub binary64 b.x a.x));
      y = add binary64 a.y (mul binary64 t (sub binary64 b.y a.y));
    }

-- the points for 1 to k of n; the list grows at its end
unfoldable pub samples_to : (ℕ → Point) → ℕ → List Point
samples_to f zero = []
samples_to f (suc k) = samples_to f k ++ (f (suc k) ∷ [])

unfoldable pub segment_want : Float → Float → Point → Point → ℕ
segment_want step scale a b = segment_parts step (mul binary64 (hypot_of (sub binary64 b.x a.x) (sub binary64 b.y a.y)) scale)

unfoldable pub segment_of : Float → Float → Point → Point → Budget → Made
unfolding segment_want
segment_of step scale a b budget = with_draw budget (segment_want step scale a b) 1 (λ n. samples_to (λ k. along_of a b k n) n)

unfoldable pub segments_of : Float → Float → Point → List Point → Budget → Made
segments_of step scale p [] b = without_draws [] b
segments_of step scale p (q ∷ qs) b = and_then (segment_of step scale p q b) (λ r. segments_of step scale q qs r)

unfoldable pub densify_polyline_of : Float → Float → List Point → Budget → Made
densify_polyline_of step scale [] b = without_draws [] b
densify_polyline_of step scale (p ∷ ps) b = and_then (without_draws (p ∷ []) b) (λ r. segments_of step scale p ps r)

-- ---- arc_vertices
unfoldable pub by_tolerance : Float → Float → Float
by_tolerance r tol =
    cond (lt tol r && lt K.zero tol) (ceil_of (div binary64 K.pi (acos_of (sub binary64 K.one (div binary64 tol r))))) c32

unfoldable pub arc_vertices_of : Float → Float → Float → Float → ℕ
arc_vertices_of step scale radius tol =
    let r = abs_of radius in
    let around = ceil_of (div binary64 (mul binary64 (mul binary64 K.two K.pi) (mul binary64 r scale)) step) in
    clamped 32 4096 (max_of (by_tolerance r tol) around)

-- ---- ellipse_ring
-- points for 0 to n - 1
unfoldable pub round_to : (ℕ → Point) → ℕ → List Point
round_to f zero = []
round_to f (suc k) = round_to f k ++ (f k ∷ [])

unfoldable pub ellipse_point : Point → Float → Float → ℕ → ℕ → Point
ellipse_point c rx ry n k =
    let t = div binary64 (mul binary64 (mul binary64 K.two K.pi) (whole k)) (whole n) in
    record { x = add binary64 c.x (mul binary64 rx (cos_of t)); y = add binary64 c.y (mul binary64 ry (sin_of t)) }

unfoldable pub ellipse_ring_of : Float → Float → Float → Point → Float → Float → Budget → Made
ellipse_ring_of step scale tol c rx ry b =
    with_draw b (arc_vertices_of step scale (max_of rx ry) tol) 8 (λ n. close_ring_of (round_to (ellipse_point c rx ry n) n))

-- ---- box_ring
unfoldable pub sharp_corners : Point → Float → Float → List Point
sharp_corners c hw hh =
    let west = sub binary64 c.x hw in
    let east = add binary64 c.x hw in
    let south = sub binary64 c.y hh in
    let north = add binary64 c.y hh in
    record { x = west; y = south } ∷ record { x = east; y = south } ∷ record { x = east; y = north } ∷ record { x = west; y = north } ∷ []

-- a corner's arc about cc from the angle `start`, its points 0 to per
unfoldable pub corner_point : Point → Float → Float → ℕ → ℕ → Point
corner_point cc r start per k =
    let a = to_radians_of (add binary64 start (div binary64 (mul binary64 c90 (whole k)) (whole per))) in
    record { x = add binary64 cc.x (mul binary64 r (cos_of a)); y = add binary64 cc.y (mul binary64 r (sin_of a)) }

unfoldable pub rounded_corners : Point → Float → Float → Float → ℕ → List Point
rounded_corners c hw hh r per =
    let west = add binary64 (sub binary64 c.x hw) r in
    let east = sub binary64 (add binary64 c.x hw) r in
    let south = add binary64 (sub binary64 c.y hh) r in
    let north = sub binary64 (add binary64 c.y hh) r in
    round_to (corner_point (record { x = west; y = south }) r K.c180 per) (suc per)
    ++ (round_to (corner_point (record { x = east; y = south }) r c270 per) (suc per)
    ++ (round_to (corner_point (record { x = east; y = north }) r K.zero per) (suc per)
    ++ round_to (corner_point (record { x = west; y = north }) r c90 per) (suc per)))

-- a quarter of a full circle's vertices for each corner, two at least
unfoldable pub quarter_of : Float → Float → Float → Float → ℕ
quarter_of step scale r tol = max 2 ((arc_vertices_of step scale r tol + 3) / 4)

unfoldable pub box_ring_of : Float → Float → Float → Point → Float → Float → Float → Budget → Made
box_ring_of step scale tol c w h rad b =
    let hw = div binary64 w K.two in
    let hh = div binary64 h K.two in
    let r = min_of (min_of (max_of rad K.zero) hw) hh in
    let quarter = quarter_of step scale r tol in
    pick_made (le r K.zero)
    (with_draw b 4 4 (λ n. close_ring_of (sharp_corners c hw hh)))
    (with_draw b (quarter * 4) 8 (λ n. close_ring_of (rounded_corners c hw hh r (n / 4))))
