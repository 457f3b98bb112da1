-- Where the points of the producers lie. Of a drawing whose numbers are at most 1,000,000 in magnitude, every point of a path is so too, every point of a ring is at most 2 ^ 22,
-- and every point on a segment between such points at most 2 ^ 24, as a projection asks. Assumes nothing.
use Rattle.std.specs.Prelude.{ℕ, zero, suc, ◌*◌, ◌^◌, ◌<◌, ◌≤◌, Bool, true, false, cond, ◌||◌, T, List, [], ◌∷◌, ◌++◌, pos, is_nan, nat_lt, refl, Float}
use Rattle.std.proofs.Common.{arith, lit<, lit≤, pow_pos}
use Rattle.std.specs.Float.{fin}
use Rattle.std.specs.Float.Ieee.{binary64, of_bits, of_int, neg, add, sub, mul, div, lt, le}
use Rattle.std.specs.Float.Ieee.Scale.{finite}
use Rattle.float.specs.Functions.{pick, max_of, min_of}
use Rattle.float.specs.Laws.Operations.{Rounds}
use Rattle.float.specs.Laws.Magnitude.{Within, wider, add_within, sub_within, mul_within}
use Rattle.float.specs.Laws.Remainder.{rounds_whole}
use Rattle.float.specs.Laws.Intervals.{Iv, iv, Between, in_finite}
use Rattle.float.specs.Laws.Expressions.{Expr, var, lit, plus, less, times, over, eval, AllIn}
use Rattle.float.specs.Laws.Spans.{Each, plus2^, minus2^, looser, rounds_spans, spans_between, div_spans, spans_within, between_within, million, m_million}
use Rattle.elementary.specs.Constants as K
use Rattle.elementary.specs.Functions.{to_radians_of, sin_of, cos_of}
use Rattle.elementary.specs.Laws.Codes.{encloses, enclosed}
use Rattle.elementary.specs.Laws.Sine.{bound, low-bound, sin_unit, cos_unit}
use Rattle.budget.specs.declared.Budget.{Budget}
use Rattle.budget.specs.Budget.{grant_of, take_of}
use Rattle.scene.specs.Scene.{Cubic, Form, curve, polyline, DrawnPath}
use Rattle.values.specs.declared.Point.{Point}
use Rattle.densify.specs.Densify.{Made, c90, c270, whole, tiny, Block, flat_of, mid_of, first_half, second_half, leaf_of, split_of, flatten_cubic_of, cubics_of, form_points, same_point, last_of, close_ring_of, closed_if, path_points_of, along_of, samples_to, segment_want, segment_of, segments_of, densify_polyline_of, round_to, ellipse_point, ellipse_ring_of, sharp_corners, corner_point, rounded_corners, box_ring_of}
use Rattle.densify.specs.Laws.Replay.{block_of, radius_of}
use Rattle.densify.specs.Laws.Counts.{parts_within, arc_within}
use Rattle.densify.specs.Laws.Sizes.{pick-made, quarter_within}

-- ---- lists
module _ {A : Type 0} (Q : A → Type 0) where
  pub each_append : (a b : List A) → Each Q a → Each Q b → Each Q (a ++ b)
  each_append [] b h k = k
  each_append (x ∷ a) b h k = (h.0, each_append a b h.1 k)

  each-four : (a b c d : List A) → Each Q a → Each Q b → Each Q c → Each Q d → Each Q (a ++ (b ++ (c ++ d)))
  each-four a b c d h i j k = each_append a (b ++ (c ++ d)) h (each_append b (c ++ d) i (each_append c d j k))

module _ (Q : Point → Type 0) where
  pub close-each : (ps : List Point) → Each Q ps → Each Q (close_ring_of ps)
  unfolding close_ring_of
  close-each [] h = tt
  close-each (p ∷ ps) h = go (same_point p (last_of p ps))
    where
      go : (t : Bool) → Each Q (cond t (p ∷ ps) (p ∷ (ps ++ (p ∷ []))))
      go true = h
      go false = (h.0, each_append Q ps (p ∷ []) h.1 (h.0, tt))

  samples-each : (f : ℕ → Point) (n : ℕ) → ((k : ℕ) → 1 ≤ k → k ≤ n → Q (f k)) → Each Q (samples_to f n)
  unfolding samples_to
  samples-each f zero h = tt
  samples-each f (suc k) h = each_append Q (samples_to f k) (f (suc k) ∷ []) (samples-each f k (λ i l m. h i l (omega arith))) (h (suc k) (omega arith) (omega arith), tt)

  round_each : (f : ℕ → Point) (n : ℕ) → ((k : ℕ) → k < n → Q (f k)) → Each Q (round_to f n)
  unfolding round_to
  round_each f zero h = tt
  round_each f (suc k) h = each_append Q (round_to f k) (f k ∷ []) (round_each f k (λ i l. h i (omega arith))) (h k (omega arith), tt)

-- ---- numbers and points of a drawing
abbrev pub Near : Float → Type 0
Near v = Between m_million million v

pub record NearPoint (p : Point) : Type 0 where
  pub x : Near p.x
  pub y : Near p.y

pub record InPoint (k : ℕ) (p : Point) : Type 0 where
  pub x : Within k p.x
  pub y : Within k p.y

abbrev near : Iv
near = iv m_million million

-- where each variable lies in its interval, the code's value is at most 2 ^ 22 in size
abbrev fits? : Expr → List Iv → Bool
fits? e σ = encloses e σ (minus2^ 22) (plus2^ 22)

fits_in : (e : Expr) (σ : List Iv) (ρ : List Float) → T (fits? e σ) → AllIn σ ρ → Within 22 (eval e ρ)
fits_in e σ ρ t i = between_within 22 (eval e ρ) (enclosed e σ ρ (minus2^ 22) (plus2^ 22) t i)

near_test : T (fits? (var 0) (near ∷ []))
unfolding of_bits neg le
near_test = tt

near_within : (v : Float) → Near v → Within 22 v
near_within v h = fits_in (var 0) (near ∷ []) (v ∷ []) near_test (h, tt)

pub near_in : (p : Point) → NearPoint p → InPoint 22 p
near_in p h = record { x = near_within p.x h.x; y = near_within p.y h.y }

pub nears_in : (ps : List Point) → Each NearPoint ps → Each (InPoint 22) ps
nears_in [] h = tt
nears_in (p ∷ ps) h = (near_in p h.0, nears_in ps h.1)

-- ---- cubics
abbrev middle : Expr
middle = over (plus (var 0) (var 1)) (lit K.two)

middle_test : T (encloses middle (near ∷ near ∷ []) m_million million)
unfolding of_bits neg add div le
middle_test = tt

middle-near : (u v : Float) → Near u → Near v → Near (div binary64 (add binary64 u v) K.two)
middle-near u v h k = enclosed middle (near ∷ near ∷ []) (u ∷ v ∷ []) m_million million middle_test (h, (k, tt))

pub mid_near : {a b : Point} → NearPoint a → NearPoint b → NearPoint (mid_of a b)
unfolding mid_of
mid_near {a} {b} h k = record { x = middle-near a.x b.x h.x k.x; y = middle-near a.y b.y h.y k.y }

pub record NearBlock (c : Block) : Type 0 where
  pub p0 : NearPoint c.p0
  pub c1 : NearPoint c.c1
  pub c2 : NearPoint c.c2
  pub p3 : NearPoint c.p3

pub halves-near : (c : Block) → NearBlock c → NearBlock (first_half c) × NearBlock (second_half c)
unfolding first_half second_half
halves-near c h =
    let p01 = mid_near h.p0 h.c1 in
    let p12 = mid_near h.c1 h.c2 in
    let p23 = mid_near h.c2 h.p3 in
    let p012 = mid_near p01 p12 in
    let p123 = mid_near p12 p23 in
    let m = mid_near p012 p123 in
    (record { p0 = h.p0; c1 = p01; c2 = p012; p3 = m }, record { p0 = m; c1 = p123; c2 = p23; p3 = h.p3 })

-- the points that a producer makes
abbrev pub Makes : (Point → Type 0) → Made → Type 0
Makes Q m = Each Q m.points

pub split_near : (fuel : ℕ) (tol : Float) (c : Block) (b : Budget) → NearBlock c → Makes NearPoint (split_of fuel tol c b)
unfolding split_of leaf_of
split_near zero tol c b h = (h.p3, tt)
split_near (suc k) tol c b h =
    let one = split_of k tol (first_half c) b in
    let two = split_of k tol (second_half c) one.after in
    pick-made (Makes NearPoint) (flat_of tol c || nat_lt b.left 2) (h.p3, tt)
    (each_append NearPoint one.points two.points (split_near k tol (first_half c) b (halves-near c h).0) (split_near k tol (second_half c) one.after (halves-near c h).1))

-- ---- paths
pub record NearCubic (c : Cubic) : Type 0 where
  pub c1 : NearPoint c.c1
  pub c2 : NearPoint c.c2
  pub end : NearPoint c.end

abbrev pub NearForm : Form → Type 0
NearForm (curve start cs) = NearPoint start × Each NearCubic cs
NearForm (polyline ps) = Each NearPoint ps

module _ (tol : Float) where
  pub flatten-near : (c : Block) (b : Budget) → NearBlock c → Makes NearPoint (flatten_cubic_of tol c b)
  unfolding flatten_cubic_of
  flatten-near c b h = split_near 16 (max_of tol tiny) c b h

  pub cubics-near : (p : Point) (cs : List Cubic) (b : Budget) → NearPoint p → Each NearCubic cs → Makes NearPoint (cubics_of tol p cs b)
  unfolding cubics_of
  cubics-near p [] b h k = tt
  cubics-near p (c ∷ cs) b h k =
      let one = flatten_cubic_of tol (block_of p c) b in
      let first = flatten-near (block_of p c) b (record { p0 = h; c1 = k.0.c1; c2 = k.0.c2; p3 = k.0.end }) in
      each_append NearPoint one.points (cubics_of tol c.end cs one.after).points first (cubics-near c.end cs one.after k.0.end k.1)

  pub form_near : (f : Form) (b : Budget) → NearForm f → Makes NearPoint (form_points tol f b)
  unfolding form_points
  form_near (curve start cs) b h = (h.0, cubics-near start cs b h.0 h.1)
  form_near (polyline ps) b h = h

  pub path-near : (p : DrawnPath) (b : Budget) → NearForm p.form → Makes NearPoint (path_points_of tol p b)
  unfolding path_points_of
  path-near p b h = go p.closed
    where
      go : (t : Bool) → Makes NearPoint (closed_if t (form_points tol p.form b))
      go true = close-each NearPoint (form_points tol p.form b).points (form_near p.form b h)
      go false = form_near p.form b h

-- ---- whole numbers as floats
count_rounds : (k : ℕ) → Rounds binary64 (whole k) k 0 1
unfolding of_int
count_rounds k = record { sign = false; size = k; is = refl; val = omega arith; den = pow_pos 0 }

-- ---- polylines
share_within : (k n : ℕ) → 1 ≤ n → k ≤ n → n < 2 ^ 32 → Within 0 (div binary64 (whole k) (whole n))
share_within k n l h m =
    spans_within 0 (div binary64 (whole k) (whole n))
    (looser 0 (2 ^ 0) (2 ^ 0) 0 (omega arith) (omega arith)
    (div_spans n {a = 0} {b = 0} {c = 1} {d = 0} (whole n) l (rounds_whole (whole n) n 0 1 n (count_rounds n) (omega arith) (omega arith)) (omega arith)
    (rounds_spans (n * 0) (n * 0) (n * 1) (n * 0) (whole k) k 0 1 (omega arith) (count_rounds k) (omega arith) (omega arith))))

part_within : (u v t : Float) → Within 22 u → Within 22 v → Within 0 t → Within 24 (add binary64 u (mul binary64 t (sub binary64 v u)))
part_within u v t h k s =
    add_within 23 u (mul binary64 t (sub binary64 v u)) (lit< tt) (wider 22 23 u (lit≤ tt) h) (mul_within 0 23 t (sub binary64 v u) (lit< tt) s (sub_within 22 v u (lit< tt) k h))

pub along_in : (a b : Point) (k n : ℕ) → InPoint 22 a → InPoint 22 b → 1 ≤ n → k ≤ n → n < 2 ^ 32 → InPoint 24 (along_of a b k n)
unfolding along_of
along_in a b k n h i l m w =
    let t = div binary64 (whole k) (whole n) in
    let s = share_within k n l m w in
    record { x = part_within a.x b.x t h.x i.x s; y = part_within a.y b.y t h.y i.y s }

module _ (step scale : Float) where
  want_most : (p q : Point) → segment_want step scale p q ≤ 100000
  unfolding segment_want
  want_most p q = (parts_within step _).most

  segment_in : (p q : Point) (b : Budget) → InPoint 22 p → InPoint 22 q → Makes (InPoint 24) (segment_of step scale p q b)
  unfolding segment_of take_of grant_of
  segment_in p q b h i = samples-each (InPoint 24) _ _ (λ k l m. along_in p q k _ h i (omega arith) m (omega (arith, want_most p q)))

  pub segments_in : (p : Point) (ps : List Point) (b : Budget) → InPoint 22 p → Each (InPoint 22) ps → Makes (InPoint 24) (segments_of step scale p ps b)
  unfolding segments_of
  segments_in p [] b h i = tt
  segments_in p (q ∷ qs) b h i =
      let one = segment_of step scale p q b in
      each_append (InPoint 24) one.points (segments_of step scale q qs one.after).points (segment_in p q b h i.0) (segments_in q qs one.after i.0 i.1)

  pub densify_in : (ps : List Point) (b : Budget) → Each (InPoint 22) ps → Makes (InPoint 24) (densify_polyline_of step scale ps b)
  unfolding densify_polyline_of
  densify_in [] b h = tt
  densify_in (p ∷ ps) b h =
      (record { x = wider 22 24 p.x (lit≤ tt) h.0.x; y = wider 22 24 p.y (lit≤ tt) h.0.y }, segments_in p ps b h.0 h.1)

-- ---- turns: the cosine and the sine of a finite angle
turned : (t : Float) → T (finite t) → Between low-bound bound (cos_of t) × Between low-bound bound (sin_of t)
turned t f =
    let c = cos_unit t f in
    let s = sin_unit t f in
    (record { low = c.0; high = c.1; fl = tt; fh = tt }, record { low = s.0; high = s.1; fl = tt; fh = tt })

-- a number, and what lies a turn of the radius r from it
abbrev Turns : Float → Float → Type 0
Turns r u = (v : Float) → Between low-bound bound v → Within 22 (add binary64 u (mul binary64 r v))

-- the k-th of n angles: k from 0 and n from 1, both up to 4096
abbrev count : ℕ → Float
count n = fin false n (pos 0)

count_in : (lo k : ℕ) → lo ≤ k → k ≤ 4096 → Between (count lo) (count 4096) (whole k)
count_in lo k h m =
    spans_between lo 0 4096 0 (count lo) (count 4096) (whole k) tt tt (omega arith) (omega arith)
    (rounds_spans lo 0 4096 0 (whole k) k 0 1 (omega arith) (count_rounds k) (omega arith) (omega arith))

abbrev counts : List Iv
counts = iv (count 0) (count 4096) ∷ iv (count 1) (count 4096) ∷ []

abbrev finite? : Expr → Bool
finite? e = encloses e counts (minus2^ 16) (plus2^ 16)

angle_finite : (e : Expr) (k n : ℕ) → T (finite? e) → k ≤ n → 1 ≤ n → n ≤ 4096 → T (finite (eval e (whole k ∷ whole n ∷ [])))
angle_finite e k n t h l m =
    in_finite (minus2^ 16) (plus2^ 16) _ (enclosed e counts (whole k ∷ whole n ∷ []) (minus2^ 16) (plus2^ 16) t (count_in 0 k (omega arith) (omega arith), (count_in 1 n l m, tt)))

-- around a circle, and along a quarter from `start`
abbrev circle : Expr
circle = over (times (times (lit K.two) (lit K.pi)) (var 0)) (var 1)

abbrev quarter : Float → Expr
quarter start = times (plus (lit start) (over (times (lit c90) (var 0)) (var 1))) (over (lit K.pi) (lit K.c180))

angle_tests : T (finite? circle) × T (finite? (quarter K.zero)) × T (finite? (quarter c90)) × T (finite? (quarter K.c180)) × T (finite? (quarter c270))
unfolding of_bits add mul div le
angle_tests = (tt, tt, tt, tt, tt)

-- ---- what a ring's points are made of: half a side s; the middle u less and plus that; those a radius r inward, and then a turn v of that radius away
abbrev unit : Iv
unit = iv low-bound bound

abbrev spoke : Expr
spoke = plus (var 0) (times (var 1) (var 2))

abbrev half : Expr
half = over (var 0) (lit K.two)

abbrev low : Expr
low = less (var 1) half

abbrev high : Expr
high = plus (var 1) half

abbrev low_turn : Expr
low_turn = plus (plus low (var 2)) (times (var 2) (var 3))

abbrev high_turn : Expr
high_turn = plus (less high (var 2)) (times (var 2) (var 3))

record Tests : Type 0 where
  spoke_fits : T (fits? spoke (near ∷ near ∷ unit ∷ []))
  half_fits : T (encloses half (near ∷ []) m_million million)
  low_fits : T (fits? low (near ∷ near ∷ []))
  high_fits : T (fits? high (near ∷ near ∷ []))
  low_turn_fits : T (fits? low_turn (near ∷ near ∷ near ∷ unit ∷ []))
  high_turn_fits : T (fits? high_turn (near ∷ near ∷ near ∷ unit ∷ []))

tests : Tests
unfolding of_bits neg add sub mul div le
tests = record { spoke_fits = tt; half_fits = tt; low_fits = tt; high_fits = tt; low_turn_fits = tt; high_turn_fits = tt }

spoke_in : (u r : Float) → Near u → Near r → Turns r u
spoke_in u r h i v j = fits_in spoke (near ∷ near ∷ unit ∷ []) (u ∷ r ∷ v ∷ []) tests.spoke_fits (h, (i, (j, tt)))

pub half-near : (s : Float) → Near s → Near (div binary64 s K.two)
half-near s h = enclosed half (near ∷ []) (s ∷ []) m_million million tests.half_fits (h, tt)

module _ (s u : Float) (h : Near s) (i : Near u) where
  low_in : Within 22 (sub binary64 u (div binary64 s K.two))
  low_in = fits_in low (near ∷ near ∷ []) (s ∷ u ∷ []) tests.low_fits (h, (i, tt))

  high_in : Within 22 (add binary64 u (div binary64 s K.two))
  high_in = fits_in high (near ∷ near ∷ []) (s ∷ u ∷ []) tests.high_fits (h, (i, tt))

  low_turns : (r : Float) → Near r → Turns r (add binary64 (sub binary64 u (div binary64 s K.two)) r)
  low_turns r j v k = fits_in low_turn (near ∷ near ∷ near ∷ unit ∷ []) (s ∷ u ∷ r ∷ v ∷ []) tests.low_turn_fits (h, (i, (j, (k, tt))))

  high_turns : (r : Float) → Near r → Turns r (sub binary64 (add binary64 u (div binary64 s K.two)) r)
  high_turns r j v k = fits_in high_turn (near ∷ near ∷ near ∷ unit ∷ []) (s ∷ u ∷ r ∷ v ∷ []) tests.high_turn_fits (h, (i, (j, (k, tt))))

-- ---- ellipses
module _ (step scale tol : Float) (c : Point) where
  pub ellipse_in : (rx ry : Float) (b : Budget) → NearPoint c → Near rx → Near ry → Makes (InPoint 22) (ellipse_ring_of step scale tol c rx ry b)
  unfolding ellipse_ring_of ellipse_point take_of grant_of
  ellipse_in rx ry b h i j =
      let a = arc_within step scale (max_of rx ry) tol in
      close-each (InPoint 22) _
      (round_each (InPoint 22) _ _ (λ k l.
      let t = turned _ (angle_finite circle k _ angle_tests.0 (omega arith) (omega arith) (omega arith)) in
      record { x = spoke_in c.x rx h.x i _ t.0; y = spoke_in c.y ry h.y j _ t.1 }))

-- ---- boxes
-- the radius is one of what it is chosen from
pick-near : (t : Bool) (x y : Float) → Near x → Near y → Near (pick t x y)
pick-near true x y h k = h
pick-near false x y h k = k

min-near : (x y : Float) → Near x → Near y → Near (min_of x y)
unfolding min_of
min-near x y h k = pick-near (is_nan x) y _ k (pick-near (lt y x) y x k h)

max-near : (x y : Float) → Near x → Near y → Near (max_of x y)
unfolding max_of
max-near x y h k = pick-near (is_nan x) y _ k (pick-near (lt x y) y x k h)

pub zero-near : Near K.zero
unfolding of_bits neg le
zero-near = record { low = tt; high = tt; fl = tt; fh = tt }

radius-near : (w h rad : Float) → Near w → Near h → Near rad → Near (radius_of w h rad)
radius-near w h rad i j k = min-near _ (div binary64 h K.two) (min-near _ (div binary64 w K.two) (max-near rad K.zero k zero-near) (half-near w i)) (half-near h j)

-- the points of a corner about (x, y)
abbrev arc : Float → ℕ → Float → Float → Float → List Point
arc r per x y start = round_to (corner_point (record { x = x; y = y }) r start per) (suc per)

arc_in : (r : Float) (per : ℕ) (x y start : Float) → 1 ≤ per → per ≤ 4096 → T (finite? (quarter start)) → Turns r x → Turns r y → Each (InPoint 22) (arc r per x y start)
unfolding corner_point to_radians_of
arc_in r per x y start l m t f g =
    round_each (InPoint 22) _ (suc per) (λ k h.
    let a = turned _ (angle_finite (quarter start) k per t (omega arith) l m) in
    record { x = f _ a.0; y = g _ a.1 })

module _ (c : Point) (w h : Float) (C : NearPoint c) (W : Near w) (H : Near h) where
  sharp_in : Each (InPoint 22) (sharp_corners c (div binary64 w K.two) (div binary64 h K.two))
  unfolding sharp_corners
  sharp_in =
      let west = low_in w c.x W C.x in
      let east = high_in w c.x W C.x in
      let south = low_in h c.y H C.y in
      let north = high_in h c.y H C.y in
      (record { x = west; y = south }, (record { x = east; y = south }, (record { x = east; y = north }, (record { x = west; y = north }, tt))))

  rounded_in : (r : Float) (per : ℕ) → Near r → 1 ≤ per → per ≤ 4096 → Each (InPoint 22) (rounded_corners c (div binary64 w K.two) (div binary64 h K.two) r per)
  unfolding rounded_corners
  rounded_in r per R l m =
      let west = add binary64 (sub binary64 c.x (div binary64 w K.two)) r in
      let east = sub binary64 (add binary64 c.x (div binary64 w K.two)) r in
      let south = add binary64 (sub binary64 c.y (div binary64 h K.two)) r in
      let north = sub binary64 (add binary64 c.y (div binary64 h K.two)) r in
      let from_west : Turns r west = low_turns w c.x W C.x r R in
      let from-east : Turns r east = high_turns w c.x W C.x r R in
      let from_south : Turns r south = low_turns h c.y H C.y r R in
      let from-north : Turns r north = high_turns h c.y H C.y r R in
      each-four (InPoint 22) (arc r per west south K.c180) (arc r per east south c270) (arc r per east north K.zero) (arc r per west north c90)
      (arc_in r per west south K.c180 l m angle_tests.3 from_west from_south)
      (arc_in r per east south c270 l m angle_tests.4 from-east from_south)
      (arc_in r per east north K.zero l m angle_tests.1 from-east from-north)
      (arc_in r per west north c90 l m angle_tests.2 from_west from-north)

module _ (step scale tol : Float) (c : Point) where
  pub box_in : (w h rad : Float) (b : Budget) → NearPoint c → Near w → Near h → Near rad → Makes (InPoint 22) (box_ring_of step scale tol c w h rad b)
  unfolding box_ring_of take_of grant_of
  box_in w h rad b C W H R =
      let r = radius_of w h rad in
      let q = quarter_within step scale r tol in
      pick-made (Makes (InPoint 22)) (le r K.zero) (close-each (InPoint 22) _ (sharp_in c w h C W H))
      (close-each (InPoint 22) _ (rounded_in c w h C W H r _ (radius-near w h rad W H R) (omega arith) (omega arith)))
