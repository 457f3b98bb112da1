-- How many points the producers make at most, counted with what they leave of the budget. Assumes nothing.
use Rattle.std.specs.Prelude.{◌≡◌, ℕ, zero, suc, ◌+◌, ◌-◌, ◌*◌, ◌<◌, ◌≤◌, Bool, true, false, ◌||◌, List, [], ◌∷◌, length, nat_lt, Float}
use Rattle.std.proofs.Common.{eq-zero-or-pos, inl, inr, lt-ltb}
use native.Mathlib.Omega.{arith}
use Rattle.std.proofs.Math.Path.{refl}
use Rattle.std.proofs.Math.Bool.{or-true}
use Rattle.std.proofs.Math.ListN.{length-append}
use Rattle.std.specs.Float.Ieee.{le}
use Rattle.float.specs.Functions.{max_of}
use Rattle.elementary.specs.Constants as K
use Rattle.budget.specs.declared.Budget.{Budget}
use Rattle.budget.specs.Budget.{grant_of, take_of}
use Rattle.budget.specs.Draws.{Draw, left_after}
use Rattle.scene.specs.Scene.{Cubic, Form, curve, polyline, DrawnPath}
use Rattle.values.specs.declared.Point.{Point}
use Rattle.densify.specs.Densify.{Made, with_draw, and_then, tiny, Block, flat_of, first_half, second_half, leaf_of, pick_made, split_of, flatten_cubic_of, cubics_of, form_points, closed_if, path_points_of, segment_of, segments_of, densify_polyline_of, arc_vertices_of, ellipse_ring_of, quarter_of, box_ring_of}
use Rattle.densify.specs.Laws.Replay.{Replays, grants_of, block_of, radius_of}
use Rattle.densify.specs.Draws.{draws_of}
use Rattle.densify.specs.Laws.Counts.{Within, samples-length, close_within, arc_within, ellipse_ring, box-ring}

-- what holds of both holds of the one that a test picks
pub pick-made : (Q : Made → Type 0) {x y : Made} (t : Bool) → Q x → Q y → Q (pick_made t x y)
pick-made Q true h k = h
pick-made Q false h k = k

-- ---- no producer adds to the budget
left_most : (left : ℕ) (ds : List Draw) → left_after left ds ≤ left
unfolding left_after
left_most left [] = omega arith
left_most left (d ∷ ds) = omega (arith, left_most (left - grant_of left d.want d.floor) ds)

pub left_falls : {b : Budget} {m : Made} → Replays b m → m.after.left ≤ b.left
left_falls {b} {m} r = omega (arith, left_most b.left (draws_of m.draws))

-- ---- points and what is left: at most `over` more than was left before
abbrev pub Sized : ℕ → Budget → Made → Type 0
Sized over b m = length m.points + m.after.left ≤ b.left + over

-- ---- polylines: a segment may go over by its floor of 1
module _ (step scale : Float) where
  segment-sized : (p q : Point) (b : Budget) → Sized 1 b (segment_of step scale p q b)
  unfolding segment_of take_of grant_of
  segment-sized p q b = rw samples-length (omega arith)

  pub segments_sized : (p : Point) (ps : List Point) (b : Budget) → Sized (length ps) b (segments_of step scale p ps b)
  unfolding segments_of
  segments_sized p [] b = omega arith
  segments_sized p (q ∷ qs) b = rw length-append (omega (arith, segment-sized p q b, segments_sized q qs (segment_of step scale p q b).after))

  pub densify_sized : (ps : List Point) (b : Budget) → Sized (length ps) b (densify_polyline_of step scale ps b)
  unfolding densify_polyline_of
  densify_sized [] b = omega arith
  densify_sized (p ∷ ps) b = omega (arith, segments_sized p ps b)

-- ---- cubics: while something is left, each point was paid for; once nothing is, each open halving may add one
pub record Halved (fuel : ℕ) (b : Budget) (m : Made) : Type 0 where
  pub spare : 1 ≤ m.after.left → length m.points + m.after.left ≡ b.left
  pub spent : m.after.left ≡ 0 → length m.points ≤ b.left + suc fuel

leaf_halved : (fuel : ℕ) (flat : Bool) (p : Point) (b : Budget) → Halved fuel b (leaf_of flat p b)
unfolding leaf_of take_of grant_of
leaf_halved fuel flat p b = record { spare = λ h. omega arith; spent = λ h. omega arith }

then_halved : (fuel : ℕ) (b : Budget) (a : Made) (f : Budget → Made) → Halved fuel b a → Halved fuel a.after (f a.after)
    → (a.after.left < 2 → length (f a.after).points ≡ 1) → Halved (suc fuel) b (and_then a f)
then_halved fuel b a f h k one =
    record {
      spare = λ s. elim (eq-zero-or-pos a.after.left) [ inl z ↦ absurd (omega (arith, k.spare s)) | inr p ↦ rw length-append (omega (arith, h.spare p, k.spare s)) ];
      spent = λ s. elim (eq-zero-or-pos a.after.left) [
        | inl z ↦ rw length-append (omega (arith, h.spent z, one (omega arith)))
        | inr p ↦ rw length-append (omega (arith, h.spare p, k.spent s))
      ];
    }

module _ (tol : Float) where
  -- fewer than 2 left: nothing is halved
  split_one : (fuel : ℕ) (c : Block) (b : Budget) → b.left < 2 → length (split_of fuel tol c b).points ≡ 1
  unfolding split_of leaf_of
  split_one zero c b h = refl
  split_one (suc k) c b h = rw (lt-ltb b.left 2 h, or-true)

  pub split_halved : (fuel : ℕ) (c : Block) (b : Budget) → Halved fuel b (split_of fuel tol c b)
  unfolding split_of
  split_halved zero c b = leaf_halved zero (flat_of tol c) c.p3 b
  split_halved (suc k) c b =
      let one = split_of k tol (first_half c) b in
      pick-made (Halved (suc k) b) (flat_of tol c || nat_lt b.left 2) (leaf_halved (suc k) (flat_of tol c) c.p3 b)
      (then_halved k b one (λ r. split_of k tol (second_half c) r) (split_halved k (first_half c) b) (split_halved k (second_half c) one.after) (split_one k (second_half c) one.after))

halved_sized : {fuel : ℕ} {b : Budget} {m : Made} → Halved fuel b m → Sized (suc fuel) b m
halved_sized {m = m} h = elim (eq-zero-or-pos m.after.left) [ inl z ↦ omega (arith, h.spent z) | inr p ↦ omega (arith, h.spare p) ]

-- how many cubics or points a form has
abbrev pub size_of : Form → ℕ
size_of (curve start cs) = length cs
size_of (polyline ps) = length ps

module _ (tol : Float) where
  pub flatten-sized : (c : Block) (b : Budget) → Sized 17 b (flatten_cubic_of tol c b)
  unfolding flatten_cubic_of
  flatten-sized c b = halved_sized (split_halved (max_of tol tiny) 16 c b)

  pub cubics-sized : (p : Point) (cs : List Cubic) (b : Budget) → Sized (17 * length cs) b (cubics_of tol p cs b)
  unfolding cubics_of
  cubics-sized p [] b = omega arith
  cubics-sized p (c ∷ cs) b =
      rw length-append (omega (arith, flatten-sized (block_of p c) b, cubics-sized c.end cs (flatten_cubic_of tol (block_of p c) b).after))

  form_sized : (f : Form) (b : Budget) → Sized (1 + 17 * size_of f) b (form_points tol f b)
  unfolding form_points
  form_sized (curve start cs) b = omega (arith, cubics-sized start cs b)
  form_sized (polyline ps) b = omega arith

  pub path-sized : (p : DrawnPath) (b : Budget) → Sized (2 + 17 * size_of p.form) b (path_points_of tol p b)
  unfolding path_points_of
  path-sized p b = go p.closed
    where
      go : (t : Bool) → Sized (2 + 17 * size_of p.form) b (closed_if t (form_points tol p.form b))
      go true = omega (arith, form_sized p.form b, close_within (form_points tol p.form b).points)
      go false = omega (arith, form_sized p.form b)

-- ---- rings: no more is granted than is wanted
drawn-most : (b : Budget) (want floor : ℕ) (ps : List Point) → grants_of (with_draw b want floor (λ n. ps)).draws ≤ want
unfolding grants_of take_of grant_of
drawn-most b want floor ps = omega arith

pub quarter_within : (step scale r tol : Float) → Within 2 1024 (quarter_of step scale r tol)
unfolding quarter_of
quarter_within step scale r tol = let a = arc_within step scale r tol in omega arith

module _ (step scale tol : Float) (c : Point) where
  pub ellipse_most : (rx ry : Float) (b : Budget) → length (ellipse_ring_of step scale tol c rx ry b).points ≤ 4097
  unfolding ellipse_ring_of
  ellipse_most rx ry b = omega (arith, ellipse_ring step scale tol c rx ry b, granted)
    where
      granted : grants_of (ellipse_ring_of step scale tol c rx ry b).draws ≤ 4096
      granted = omega (arith, arc_within step scale (max_of rx ry) tol, drawn-most b (arc_vertices_of step scale (max_of rx ry) tol) 8 [])

  pub box-most : (w h rad : Float) (b : Budget) → length (box_ring_of step scale tol c w h rad b).points ≤ 4101
  unfolding box_ring_of
  box-most w h rad b = omega (arith, box-ring step scale tol c w h rad b, granted)
    where
      quarter : ℕ
      quarter = quarter_of step scale (radius_of w h rad) tol

      granted : grants_of (box_ring_of step scale tol c w h rad b).draws ≤ 4096
      granted = pick-made (λ m. grants_of m.draws ≤ 4096) (le (radius_of w h rad) K.zero) (omega (arith, drawn-most b 4 4 [])) (omega (arith, quarter_within step scale (radius_of w h rad) tol, drawn-most b (quarter * 4) 8 []))
