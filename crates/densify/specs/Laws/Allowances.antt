-- A producer whose draws did not fall short makes the same points and the same draws where more is left.
use Rattle.std.specs.Prelude.{◌≡◌, ℕ, zero, suc, ◌*◌, ◌/◌, ◌≤◌, Bool, true, false, not, ◌&&◌, ◌||◌, ltb, List, [], ◌∷◌, ◌++◌, nat_lt, refl, Float}
use Rattle.std.proofs.Common.{sym, ap, ◌∙◌, arith}
use Rattle.std.proofs.Math.Bool.{or_assoc}
use Rattle.std.proofs.lemmas.Bool.{false≢true}
use Rattle.std.specs.Float.Ieee.{binary64, div, le}
use borrow.Author.Tests.{ltb-true, ltb-false}
use Rattle.float.specs.Functions.{max_of}
use Rattle.elementary.specs.Constants as K
use Rattle.budget.specs.declared.Budget.{Budget}
use Rattle.budget.specs.Budget.{grant_of, take_of}
use Rattle.scene.specs.Scene.{Cubic, Form, curve, polyline, DrawnPath}
use Rattle.values.specs.declared.Point.{Point}
use Rattle.densify.specs.Densify.{GrantedDraw, Made, without_draws, with_draw, and_then, tiny, Block, flat_of, first_half, second_half, leaf_of, pick_made, split_of, flatten_cubic_of, cubics_of, form_points, closed_if, close_ring_of, path_points_of, along_of, samples_to, segment_want, segment_of, segments_of, densify_polyline_of, arc_vertices_of, round_to, ellipse_point, ellipse_ring_of, sharp_corners, rounded_corners, quarter_of, box_ring_of}
use Rattle.densify.specs.Draws.{fell_short}
use Rattle.densify.specs.Laws.Replay.{radius_of, block_of}

-- b has as much left as a or more, and is hit where a is
pub record NoLess (a b : Budget) : Type 0 where
  pub left : a.left ≤ b.left
  pub hit : b.hit ≡ a.hit

pub record SameMade (m n : Made) : Type 0 where
  pub points : n.points ≡ m.points
  pub draws : n.draws ≡ m.draws
  pub after : NoLess m.after n.after

abbrev pub Enough : List GrantedDraw → Type 0
Enough ds = fell_short ds ≡ false

-- whatever the first makes without falling short, the second makes too
abbrev pub Keeps : Made → Made → Type 0
Keeps m n = Enough m.draws → SameMade m n

abbrev pub KeepsFrom : (Budget → Made) → Type 0
KeepsFrom f = (a b : Budget) → NoLess a b → Keeps (f a) (f b)

-- ---- lists of draws
pub both_false : (x y : Bool) → x || y ≡ false → (x ≡ false) × (y ≡ false)
both_false true y h = absurd (false≢true (sym h))
both_false false y h = (refl, h)

short-append : (ds es : List GrantedDraw) → fell_short (ds ++ es) ≡ fell_short ds || fell_short es
unfolding fell_short
short-append [] es = refl
short-append (d ∷ ds) es = simp (short-append ds es, or_assoc)

pub enough_append : (ds es : List GrantedDraw) → Enough (ds ++ es) → Enough ds × Enough es
enough_append ds es h = both_false (fell_short ds) (fell_short es) (sym (short-append ds es) ∙ h)

-- such a draw was not cut, and was granted what it wanted
enough_draw : (d : GrantedDraw) → Enough (d ∷ []) → (d.cut ≡ false) × (nat_lt d.granted d.want ≡ false)
unfolding fell_short
enough_draw d h = both_false d.cut (nat_lt d.granted d.want) (both_false (d.cut || nat_lt d.granted d.want) false h).0

-- ---- what a producer is made of
module _ (a b : Budget) (n : NoLess a b) (want floor : ℕ) (h : ltb (grant_of a.left want floor) want ≡ false) where
  same_grant : grant_of b.left want floor ≡ grant_of a.left want floor
  unfolding grant_of
  same_grant = omega (arith, n.left, ltb-false (grant_of a.left want floor) want h)

  take_keeps : NoLess (take_of a want floor).budget (take_of b want floor).budget
  unfolding take_of
  take_keeps = record { left = omega (arith, n.left, same_grant); hit = rw (same_grant, n.hit) }

plain_keeps : (ps : List Point) → KeepsFrom (without_draws ps)
plain_keeps ps a b n h = record { points = refl; draws = refl; after = n }

draw_keeps : (want floor : ℕ) (f : ℕ → List Point) → KeepsFrom (λ (b : Budget). with_draw b want floor f)
unfolding take_of
draw_keeps want floor f a b n h =
    let e = (enough_draw _ h).1 in
    let same = same_grant a b n want floor e in
    record { points = ap f same; draws = rw same; after = take_keeps a b n want floor e }

-- a piece that was not cut is not cut where more is left
not_cut : (flat : Bool) (x y : ℕ) → x ≤ y → not flat && nat_lt x 2 ≡ false → not flat && nat_lt y 2 ≡ false
not_cut true x y l h = refl
not_cut false x y l h = go (nat_lt y 2) refl
  where
    go : (t : Bool) → nat_lt y 2 ≡ t → t ≡ false
    go true e = absurd (omega (arith, l, ltb-false x 2 h, ltb-true y 2 e))
    go false e = refl

leaf_keeps : (flat : Bool) (p : Point) → KeepsFrom (leaf_of flat p)
unfolding leaf_of take_of
leaf_keeps flat p a b n h =
    let e = enough_draw _ h in
    let same = same_grant a b n 1 1 e.1 in
    let cut = not_cut flat a.left b.left n.left e.0 in
    let after = take_keeps a b n 1 1 e.1 in
    record { points = refl; draws = rw (same, cut, e.0); after = record { left = after.left; hit = rw (cut, e.0, same, n.hit) } }

then_keeps : {m n : Made} {f : Budget → Made} → Keeps m n → KeepsFrom f → Keeps (and_then m f) (and_then n f)
then_keeps {m} {n} {f} k g h =
    let e = enough_append m.draws (f m.after).draws h in
    let first = k e.0 in
    let second = g m.after n.after first.after e.1 in
    record { points = rw (first.points, second.points); draws = rw (first.draws, second.draws); after = second.after }

closed_keeps : {m n : Made} (t : Bool) → Keeps m n → Keeps (closed_if t m) (closed_if t n)
closed_keeps true k h = let s = k h in record { points = rw s.points; draws = s.draws; after = s.after }
closed_keeps false k h = k h

pick_keeps : {m m' n n' : Made} (t : Bool) → Keeps m n → Keeps m' n' → Keeps (pick_made t m m') (pick_made t n n')
pick_keeps true j k h = j h
pick_keeps false j k h = k h

-- ---- the producers
-- a piece that is not flat is split, or it is cut and falls short
halves_keep : (flat : Bool) (p : Point) (a b : Budget) {m n : Made} → NoLess a b → Keeps m n
    → Keeps (pick_made (flat || nat_lt a.left 2) (leaf_of flat p a) m) (pick_made (flat || nat_lt b.left 2) (leaf_of flat p b) n)
unfolding leaf_of
halves_keep true p a b l k h = leaf_keeps true p a b l h
halves_keep false p a b {m} {n} l k h = go (nat_lt a.left 2) refl (nat_lt b.left 2) refl h
  where
    go : (t : Bool) → nat_lt a.left 2 ≡ t → (u : Bool) → nat_lt b.left 2 ≡ u → Keeps (pick_made t (leaf_of false p a) m) (pick_made u (leaf_of false p b) n)
    go true e u f h = absurd (false≢true (sym (enough_draw _ h).0 ∙ e))
    go false e true f h = absurd (omega (arith, l.left, ltb-false a.left 2 e, ltb-true b.left 2 f))
    go false e false f h = k h

split_keeps : (fuel : ℕ) (tol : Float) (c : Block) → KeepsFrom (split_of fuel tol c)
unfolding split_of
split_keeps zero tol c a b n h = leaf_keeps (flat_of tol c) c.p3 a b n h
split_keeps (suc k) tol c a b n h =
    halves_keep (flat_of tol c) c.p3 a b n
    (then_keeps {f = split_of k tol (second_half c)} (split_keeps k tol (first_half c) a b n) (split_keeps k tol (second_half c))) h

module _ (tol : Float) where
  flatten_keeps : (c : Block) → KeepsFrom (flatten_cubic_of tol c)
  unfolding flatten_cubic_of
  flatten_keeps c a b n h = split_keeps 16 (max_of tol tiny) c a b n h

  cubics_keeps : (p : Point) (cs : List Cubic) → KeepsFrom (cubics_of tol p cs)
  unfolding cubics_of
  cubics_keeps p [] a b n h = plain_keeps [] a b n h
  cubics_keeps p (c ∷ cs) a b n h = then_keeps {f = cubics_of tol c.end cs} (flatten_keeps (block_of p c) a b n) (cubics_keeps c.end cs) h

  form_keeps : (f : Form) → KeepsFrom (form_points tol f)
  unfolding form_points
  form_keeps (curve start cs) a b n h = then_keeps {f = cubics_of tol start cs} (plain_keeps (start ∷ []) a b n) (cubics_keeps start cs) h
  form_keeps (polyline ps) a b n h = plain_keeps ps a b n h

  pub path_keeps : (p : DrawnPath) → KeepsFrom (path_points_of tol p)
  unfolding path_points_of
  path_keeps p a b n h = closed_keeps p.closed (form_keeps p.form a b n) h

module _ (step scale : Float) where
  segment_keeps : (p q : Point) → KeepsFrom (segment_of step scale p q)
  unfolding segment_of
  segment_keeps p q a b n h = draw_keeps (segment_want step scale p q) 1 (λ k. samples_to (λ i. along_of p q i k) k) a b n h

  segments_keeps : (p : Point) (ps : List Point) → KeepsFrom (segments_of step scale p ps)
  unfolding segments_of
  segments_keeps p [] a b n h = plain_keeps [] a b n h
  segments_keeps p (q ∷ qs) a b n h = then_keeps {f = segments_of step scale q qs} (segment_keeps p q a b n) (segments_keeps q qs) h

  pub densify_keeps : (ps : List Point) → KeepsFrom (densify_polyline_of step scale ps)
  unfolding densify_polyline_of
  densify_keeps [] a b n h = plain_keeps [] a b n h
  densify_keeps (p ∷ ps) a b n h = then_keeps {f = segments_of step scale p ps} (plain_keeps (p ∷ []) a b n) (segments_keeps p ps) h

  pub ellipse_keeps : (tol : Float) (c : Point) (rx ry : Float) → KeepsFrom (ellipse_ring_of step scale tol c rx ry)
  unfolding ellipse_ring_of
  ellipse_keeps tol c rx ry a b n h = draw_keeps (arc_vertices_of step scale (max_of rx ry) tol) 8 (λ k. close_ring_of (round_to (ellipse_point c rx ry k) k)) a b n h

  pub box_keeps : (tol : Float) (c : Point) (w h rad : Float) → KeepsFrom (box_ring_of step scale tol c w h rad)
  unfolding box_ring_of
  box_keeps tol c w h rad a b n e =
      let hw = div binary64 w K.two in
      let hh = div binary64 h K.two in
      let r = radius_of w h rad in
      pick_keeps (le r K.zero)
      (draw_keeps 4 4 (λ k. close_ring_of (sharp_corners c hw hh)) a b n)
      (draw_keeps (quarter_of step scale r tol * 4) 8 (λ k. close_ring_of (rounded_corners c hw hh r (k / 4))) a b n) e
