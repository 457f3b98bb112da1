-- How many points the producers make, and that rings are closed.
use Rattle.std.specs.Prelude.{◌≡◌, ℕ, zero, suc, ◌+◌, ◌*◌, ◌/◌, ◌≤◌, Bool, true, false, cond, List, [], ◌∷◌, ◌++◌, length, refl, Float}
use native.Mathlib.Omega.{arith}
use Rattle.std.proofs.Math.ListN.{length-append}
use Rattle.std.specs.Float.Ieee.Scale.{finite}
use Rattle.std.specs.Float.Ieee.{le}
use Rattle.float.specs.Functions.{max_of}
use Rattle.elementary.specs.Constants as K
use Rattle.budget.specs.declared.Budget.{Budget}
use Rattle.budget.specs.Budget.{grant_of, take_of}
use Rattle.values.specs.declared.Point.{Point}
use Rattle.densify.specs.Densify.{Made, with_draw, clamped, same_point, last_of, close_ring_of, segment_parts, samples_to, segment_of, segments_of, densify_polyline_of, arc_vertices_of, round_to, ellipse_ring_of, sharp_corners, rounded_corners, quarter_of, box_ring_of}
use Rattle.densify.specs.Laws.Replay.{grants_of, radius_of}

-- ---- numbers
pub record Within (lo hi n : ℕ) : Type 0 where
  pub least : lo ≤ n
  pub most : n ≤ hi

within_cond : {lo hi m n : ℕ} (t : Bool) → Within lo hi m → Within lo hi n → Within lo hi (cond t m n)
within_cond true h k = h
within_cond false h k = k

pub clamped_within : (lo hi : ℕ) (x : Float) → lo ≤ hi → Within lo hi (clamped lo hi x)
unfolding clamped
clamped_within lo hi x h = within_cond (finite x) (omega arith) (omega arith)

pub parts_within : (step metres : Float) → Within 1 100000 (segment_parts step metres)
unfolding segment_parts
parts_within step metres = within_cond (finite metres) (clamped_within 1 100000 _ (omega arith)) (omega arith)

pub arc_within : (step scale radius tol : Float) → Within 32 4096 (arc_vertices_of step scale radius tol)
unfolding arc_vertices_of
arc_within step scale radius tol = clamped_within 32 4096 _ (omega arith)

grant_floor : (left want floor : ℕ) → floor ≤ want → floor ≤ grant_of left want floor
unfolding grant_of
grant_floor left want floor h = omega arith

-- ---- points by their numbers
pub samples-length : (f : ℕ → Point) (n : ℕ) → length (samples_to f n) ≡ n
unfolding samples_to
samples-length f zero = refl
samples-length f (suc k) = rw length-append (omega (arith, samples-length f k))

pub round_length : (f : ℕ → Point) (n : ℕ) → length (round_to f n) ≡ n
unfolding round_to
round_length f zero = refl
round_length f (suc k) = rw length-append (omega (arith, round_length f k))

pub last_append : (p : Point) (ps qs : List Point) → last_of p (ps ++ qs) ≡ last_of (last_of p ps) qs
last_append p [] qs = refl
last_append p (q ∷ ps) qs = last_append q ps qs

-- ---- polylines
module _ (step scale : Float) where
  module _ (p q : Point) (b : Budget) where
    abbrev pub segment : Made
    segment = segment_of step scale p q b

    pub segment-least : 1 ≤ length segment.points
    unfolding segment_of take_of
    segment-least = rw samples-length (grant_floor _ _ 1 (parts_within step _).least)

  pub segments_least : (p : Point) (ps : List Point) (b : Budget) → length ps ≤ length (segments_of step scale p ps b).points
  unfolding segments_of
  segments_least p [] b = omega arith
  segments_least p (q ∷ qs) b = rw length-append (omega (arith, segment-least p q b, segments_least q qs (segment p q b).after))

  pub densify_least : (ps : List Point) (b : Budget) → length ps ≤ length (densify_polyline_of step scale ps b).points
  unfolding densify_polyline_of
  densify_least [] b = omega arith
  densify_least (p ∷ ps) b = omega (arith, segments_least p ps b)

-- ---- rings
pub close_within : (ps : List Point) → Within (length ps) (suc (length ps)) (length (close_ring_of ps))
unfolding close_ring_of
close_within [] = omega arith
close_within (p ∷ ps) = go (same_point p (last_of p ps))
  where
    go : (t : Bool) → Within (suc (length ps)) (suc (suc (length ps))) (length (cond t (p ∷ ps) (p ∷ (ps ++ (p ∷ [])))))
    go true = omega arith
    go false = let e = length-append ps (p ∷ []) in omega arith

-- the last point is the first by value, where that is no NaN
abbrev pub Closed : List Point → Type 0
Closed [] = Unit {0}
Closed (p ∷ ps) = same_point p p ≡ true → same_point p (last_of p ps) ≡ true

pub close_closed : (ps : List Point) → Closed (close_ring_of ps)
unfolding close_ring_of
close_closed [] = tt
close_closed (p ∷ ps) = go (same_point p (last_of p ps)) refl
  where
    go : (t : Bool) → same_point p (last_of p ps) ≡ t → Closed (cond t (p ∷ ps) (p ∷ (ps ++ (p ∷ []))))
    go true e = λ s. e
    go false e = λ s. rw last_append s

-- a ring from one draw: at least `lo` are granted, and at most `over` points more than that are made
pub record Ring (lo over : ℕ) (m : Made) : Type 0 where
  pub granted : lo ≤ grants_of m.draws
  pub counted : Within (grants_of m.draws) (grants_of m.draws + over) (length m.points)
  pub closed : Closed m.points

pub ring-least : {lo over : ℕ} {m : Made} → Ring lo over m → lo ≤ length m.points
ring-least r = omega arith

-- whatever the grant is
ring_of_lem : (b : Budget) (want floor over : ℕ) (ps : List Point) → floor ≤ want → (let g = (take_of b want floor).granted in Within g (g + over) (length ps)) →
    Ring floor (suc over) (with_draw b want floor (λ n. close_ring_of ps))
unfolding take_of grants_of
ring_of_lem b want floor over ps h k =
    let g = grant_floor b.left want floor h in
    let c = close_within ps in
    record { granted = omega arith; counted = omega arith; closed = close_closed ps }

ring_wider : {lo over : ℕ} {m : Made} (lo' over' : ℕ) → lo' ≤ lo → over ≤ over' → Ring lo over m → Ring lo' over' m
ring_wider lo' over' h k r = record { granted = omega arith; counted = omega arith; closed = r.closed }

module _ (c : Point) (hw hh : Float) (b : Budget) where
  sharp_ring : Ring 4 1 (with_draw b 4 4 (λ n. close_ring_of (sharp_corners c hw hh)))
  unfolding sharp_corners take_of grant_of
  sharp_ring = ring_of_lem b 4 4 0 _ (omega arith) (omega arith)

  module _ (r : Float) where
    rounded-length : (per : ℕ) → length (rounded_corners c hw hh r per) ≡ 4 * suc per
    unfolding rounded_corners
    rounded-length per = simp (length-append, round_length) (omega arith)

    module _ (quarter : ℕ) (q : 2 ≤ quarter) where
      abbrev rounded : Made
      rounded = with_draw b (quarter * 4) 8 (λ n. close_ring_of (rounded_corners c hw hh r (n / 4)))

      rounded-ring : Ring 8 5 rounded
      rounded-ring = ring_of_lem b (quarter * 4) 8 4 _ (omega arith) (rw rounded-length (omega arith))

module _ (step scale tol : Float) (c : Point) where
  pub ellipse_ring : (rx ry : Float) (b : Budget) → Ring 8 1 (ellipse_ring_of step scale tol c rx ry b)
  unfolding ellipse_ring_of
  ellipse_ring rx ry b = ring_of_lem b _ 8 0 _ (let a = arc_within step scale (max_of rx ry) tol in omega arith) (rw round_length (omega arith))

  module _ (w h rad : Float) (b : Budget) where
    abbrev pub box : Made
    box = box_ring_of step scale tol c w h rad b

    pub box_sharp : le (radius_of w h rad) K.zero ≡ true → Ring 4 1 box
    unfolding box_ring_of
    box_sharp t = rw t (sharp_ring c _ _ b)

    pub box-rounded : le (radius_of w h rad) K.zero ≡ false → Ring 8 5 box
    unfolding box_ring_of quarter_of
    box-rounded t = rw t (rounded-ring c _ _ b _ _ (omega arith))

    pub box-ring : Ring 4 5 box
    box-ring = go (le (radius_of w h rad) K.zero) refl
      where
        go : (t : Bool) → le (radius_of w h rad) K.zero ≡ t → Ring 4 5 box
        go true e = ring_wider 4 5 (omega arith) (omega arith) (box_sharp e)
        go false e = ring_wider 4 5 (omega arith) (omega arith) (box-rounded e)
