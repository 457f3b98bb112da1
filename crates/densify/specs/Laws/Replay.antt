-- Every producer's draws, replayed through `take` from the budget that it was handed, give the budget that it hands back.
use Rattle.std.specs.Prelude.{◌≡◌, ℕ, zero, suc, ◌+◌, Bool, true, false, ◌||◌, List, [], ◌∷◌, ◌++◌, nat_lt, refl, Float}
use Rattle.std.proofs.Common.{ap, subst, ◌∙◌}
use Rattle.std.proofs.Math.Bool.{or-false, or_assoc}
use Rattle.std.specs.Float.{binary64}
use Rattle.std.specs.Float.Ieee.{div, le}
use Rattle.float.specs.Functions.{max_of, min_of}
use Rattle.elementary.specs.Constants as K
use Rattle.budget.specs.declared.Budget.{Budget}
use Rattle.budget.specs.Budget.{take_of}
use Rattle.budget.specs.Draws.{left_after}
use Rattle.scene.specs.Scene.{Cubic, Form, curve, polyline, DrawnPath}
use Rattle.values.specs.declared.Point.{Point}
use Rattle.densify.specs.Densify.{GrantedDraw, Made, without_draws, with_draw, and_then, tiny, Block, flat_of, first_half, second_half, leaf_of, pick_made, split_of, flatten_cubic_of, cubics_of, form_points, closed_if, path_points_of, segment_of, segments_of, densify_polyline_of, ellipse_ring_of, box_ring_of}
use Rattle.densify.specs.Draws.{draws_of, after_draw, Granted, fell_short}

unfoldable pub replayed : Budget → List GrantedDraw → Budget
replayed b [] = b
replayed b (d ∷ ds) = replayed (after_draw b d) ds

pub record Replays (b : Budget) (m : Made) : Type 0 where
  pub after_is : m.after ≡ replayed b m.draws
  pub grants : Granted b m.draws
  pub left_is : m.after.left ≡ left_after b.left (draws_of m.draws)

-- ---- lists of draws
pub replayed-append : (b : Budget) (ds es : List GrantedDraw) → replayed b (ds ++ es) ≡ replayed (replayed b ds) es
unfolding replayed
replayed-append b [] es = refl
replayed-append b (d ∷ ds) es = replayed-append (after_draw b d) ds es

pub granted-append : (b : Budget) (ds es : List GrantedDraw) → Granted b ds → Granted (replayed b ds) es → Granted b (ds ++ es)
unfolding replayed
granted-append b [] es g h = h
granted-append b (d ∷ ds) es g h = (g.0, granted-append (after_draw b d) ds es g.1 h)

pub replayed_left : (b : Budget) (ds : List GrantedDraw) → (replayed b ds).left ≡ left_after b.left (draws_of ds)
unfolding replayed left_after take_of
replayed_left b [] = refl
replayed_left b (d ∷ ds) = replayed_left (after_draw b d) ds

-- the grants' sum
unfoldable pub grants_of : List GrantedDraw → ℕ
grants_of [] = 0
grants_of (d ∷ ds) = d.granted + grants_of ds

pub replayed_hit : (b : Budget) (ds : List GrantedDraw) → Granted b ds → (replayed b ds).hit ≡ b.hit || fell_short ds
unfolding replayed fell_short take_of
replayed_hit b [] g = rw or-false
replayed_hit b (d ∷ ds) g = replayed_hit (after_draw b d) ds g.1 ∙ simp (g.0, or_assoc)

-- ---- what a producer is made of
replays : (b : Budget) (m : Made) → m.after ≡ replayed b m.draws → Granted b m.draws → Replays b m
replays b m e g = record { after_is = e; grants = g; left_is = ap (λ r. r.left) e ∙ replayed_left b m.draws }

pub hit_is : {b : Budget} {m : Made} → Replays b m → m.after.hit ≡ b.hit || fell_short m.draws
hit_is {b} {m} r = ap (λ x. x.hit) r.after_is ∙ replayed_hit b m.draws r.grants

pub plain_replays : (ps : List Point) (b : Budget) → Replays b (without_draws ps b)
unfolding replayed
plain_replays ps b = replays b (without_draws ps b) refl tt

-- whatever the points are
one_replays : (b : Budget) (want floor : ℕ) (ps : List Point) → Replays b (with_draw b want floor (λ n. ps))
unfolding replayed take_of
one_replays b want floor ps = replays b (with_draw b want floor (λ n. ps)) (rw or-false) (refl, tt)

pub leaf_replays : (flat : Bool) (p : Point) (b : Budget) → Replays b (leaf_of flat p b)
unfolding leaf_of replayed take_of
leaf_replays flat p b = replays b (leaf_of flat p b) refl (refl, tt)

pub then_replays : (b : Budget) (a : Made) (f : Budget → Made) → Replays b a → Replays a.after (f a.after) → Replays b (and_then a f)
then_replays b a f h k =
    let n = f a.after in
    replays b (and_then a f) (k.after_is ∙ ap (λ x. replayed x n.draws) h.after_is ∙ rw replayed-append)
    (granted-append b a.draws n.draws h.grants (subst (λ x. Granted x n.draws) h.after_is k.grants))

pick_replays : {b : Budget} {x y : Made} (t : Bool) → Replays b x → Replays b y → Replays b (pick_made t x y)
pick_replays true h k = h
pick_replays false h k = k

closed_replays : {b : Budget} {m : Made} (t : Bool) → Replays b m → Replays b (closed_if t m)
closed_replays true h = record { after_is = h.after_is; grants = h.grants; left_is = h.left_is }
closed_replays false h = h

-- ---- the producers
pub split_replays : (fuel : ℕ) (tol : Float) (c : Block) (b : Budget) → Replays b (split_of fuel tol c b)
unfolding split_of
split_replays zero tol c b = leaf_replays (flat_of tol c) c.p3 b
split_replays (suc k) tol c b =
    let one = split_of k tol (first_half c) b in
    pick_replays (flat_of tol c || nat_lt b.left 2) (leaf_replays (flat_of tol c) c.p3 b)
    (then_replays b one (λ r. split_of k tol (second_half c) r) (split_replays k tol (first_half c) b) (split_replays k tol (second_half c) one.after))

-- a path's cubic with its start
abbrev pub block_of : Point → Cubic → Block
block_of p c = record { p0 = p; c1 = c.c1; c2 = c.c2; p3 = c.end }

module _ (tol : Float) where
  pub flatten_replays : (c : Block) (b : Budget) → Replays b (flatten_cubic_of tol c b)
  unfolding flatten_cubic_of
  flatten_replays c b = split_replays 16 (max_of tol tiny) c b

  pub cubics_replays : (p : Point) (cs : List Cubic) (b : Budget) → Replays b (cubics_of tol p cs b)
  unfolding cubics_of
  cubics_replays p [] b = plain_replays [] b
  cubics_replays p (c ∷ cs) b =
      let one = flatten_cubic_of tol (block_of p c) b in
      then_replays b one (λ r. cubics_of tol c.end cs r) (flatten_replays (block_of p c) b) (cubics_replays c.end cs one.after)

  pub form_replays : (f : Form) (b : Budget) → Replays b (form_points tol f b)
  unfolding form_points
  form_replays (curve start cs) b = then_replays b (without_draws (start ∷ []) b) (λ r. cubics_of tol start cs r) (plain_replays (start ∷ []) b) (cubics_replays start cs b)
  form_replays (polyline ps) b = plain_replays ps b

  pub path_replays : (p : DrawnPath) (b : Budget) → Replays b (path_points_of tol p b)
  unfolding path_points_of
  path_replays p b = closed_replays p.closed (form_replays p.form b)

-- the radius of a box's corners
abbrev pub radius_of : Float → Float → Float → Float
radius_of w h rad = min_of (min_of (max_of rad K.zero) (div binary64 w K.two)) (div binary64 h K.two)

module _ (step scale : Float) where
  pub segment_replays : (p q : Point) (b : Budget) → Replays b (segment_of step scale p q b)
  unfolding segment_of
  segment_replays p q b = one_replays b _ 1 _

  pub segments_replays : (p : Point) (ps : List Point) (b : Budget) → Replays b (segments_of step scale p ps b)
  unfolding segments_of
  segments_replays p [] b = plain_replays [] b
  segments_replays p (q ∷ qs) b =
      let one = segment_of step scale p q b in
      then_replays b one (λ r. segments_of step scale q qs r) (segment_replays p q b) (segments_replays q qs one.after)

  pub densify_replays : (ps : List Point) (b : Budget) → Replays b (densify_polyline_of step scale ps b)
  unfolding densify_polyline_of
  densify_replays [] b = plain_replays [] b
  densify_replays (p ∷ ps) b = then_replays b (without_draws (p ∷ []) b) (λ r. segments_of step scale p ps r) (plain_replays (p ∷ []) b) (segments_replays p ps b)

  pub ellipse_replays : (tol : Float) (c : Point) (rx ry : Float) (b : Budget) → Replays b (ellipse_ring_of step scale tol c rx ry b)
  unfolding ellipse_ring_of
  ellipse_replays tol c rx ry b = one_replays b _ 8 _

  pub box_replays : (tol : Float) (c : Point) (w h rad : Float) (b : Budget) → Replays b (box_ring_of step scale tol c w h rad b)
  unfolding box_ring_of
  box_replays tol c w h rad b = pick_replays (le (radius_of w h rad) K.zero) (one_replays b 4 4 _) (one_replays b _ 8 _)
