-- Laws of a ring's closing point. Assumes nothing.
use Rattle.std.specs.Prelude.{◌≡◌, ℕ, suc, ◌+◌, ◌-◌, ◌<◌, ◌≤◌, Bool, true, false, cond, List, [], ◌∷◌, ◌++◌, length, get_or, take, drop, slice_index_or, refl, Float, Option, Some, None}
use Rattle.std.proofs.Common.{sym, ◌∙◌, append-nil, arith, add_assoc, length-take-le, get_or-append-add, le-leb}
use Rattle.std.proofs.Math.Numerals.{unary_clauses}
use Rattle.std.proofs.Math.ListN.{get_or-append}
use Rattle.std.specs.Float.{nan}
use Rattle.std.specs.Float.Ieee.{eq}
use Rattle.std.proofs.lemmas.Bool.{lt-leb}
use Rattle.values.specs.declared.Point.{Point}
use Rattle.densify.specs.declared.append.PointCursor.{PointCursor}
use Rattle.densify.specs.Densify.{GrantedDraw, Made, without_draws, same_point, last_of, close_ring_of}
use Rattle.densify.specs.Inner.Written.{closing, closing_in, Written}
use Rattle.values.specs.Slices.{put}
use Rattle.values.specs.Points.{flats, point_of}
use Rattle.densify.specs.Laws.Writing.{written_room, join_short, join_done, written_as}

-- ---- closing_in, by the code's tests
module _ (w : List Float) (from at : ℕ) where
  pub closing_few : at < from + 2 → closing_in w from at ≡ []
  unfolding closing_in
  closing_few h = rw (lt-leb (from + 2) at h)

  module _ (some : from + 2 ≤ at) where
    at_last : at - 2 + 1 ≡ at - 1
    at_last = omega arith

    -- the last equals the first
    pub closing_same : eq (slice_index_or w from nan) (slice_index_or w (at - 2) nan) ≡ true → eq (slice_index_or w (from + 1) nan) (slice_index_or w (at - 1) nan) ≡ true → closing_in w from at ≡ []
    unfolding closing_in closing same_point
    closing_same ex ey = rw (le-leb (from + 2) at some, at_last, ex, ey)

    -- it does not, in x or in y
    pub closing_open_x : eq (slice_index_or w from nan) (slice_index_or w (at - 2) nan) ≡ false → closing_in w from at ≡ point_of w from ∷ []
    unfolding closing_in closing same_point
    closing_open_x ex = rw (le-leb (from + 2) at some, ex)

    pub closing_open_y : eq (slice_index_or w from nan) (slice_index_or w (at - 2) nan) ≡ true → eq (slice_index_or w (from + 1) nan) (slice_index_or w (at - 1) nan) ≡ false → closing_in w from at ≡ point_of w from ∷ []
    unfolding closing_in closing same_point
    closing_open_y ex ey = rw (le-leb (from + 2) at some, at_last, ex, ey)

-- ---- points in a slice
put-value : (w : List Float) (at : ℕ) (vs : List Float) (i : ℕ) (d : Float) → at ≤ length w → i < length vs → slice_index_or (put w at vs) (at + i) d ≡ slice_index_or vs i d
unfolding put
put-value w at vs i d h g =
    let n : length (take at w) ≡ at = length-take-le at w h in
    let rest = vs ++ drop (at + length vs) w in
    let there : get_or (take at w ++ rest) (length (take at w) + i) d ≡ get_or rest i d = get_or-append-add (take at w) rest i d in
    (rw n at there) ∙ get_or-append vs (drop (at + length vs) w) d i g

point_in_lem : (w : List Float) (at : ℕ) (vs : List Float) (i j : ℕ) → at ≤ length w → i + 1 < length vs → j ≡ at + i → point_of (put w at vs) j ≡ point_of vs i
point_in_lem w at vs i j h g e = rw (e, add_assoc, put-value w at vs i nan h (omega arith), put-value w at vs (i + 1) nan h g)

-- the last of points laid flat
last_flat : (p : Point) (ps : List Point) → point_of (flats (p ∷ ps)) (length (flats ps)) ≡ last_of p ps
unfolding flats
last_flat p [] = refl
last_flat p (q ∷ qs) = simp unary_clauses (simp unary_clauses at (last_flat q qs))

-- ---- close_ring_of
-- what it adds
abbrev closer : List Point → List Point
closer [] = []
closer (p ∷ ps) = closing p (last_of p ps)

adds : (b : Bool) (ps : List Point) (p : Point) → cond b ps (ps ++ (p ∷ [])) ≡ ps ++ cond b [] (p ∷ [])
adds true ps p = sym (append-nil ps)
adds false ps p = refl

closer-added : (ps : List Point) → close_ring_of ps ≡ ps ++ closer ps
unfolding close_ring_of closing
closer-added [] = refl
closer-added (p ∷ ps) = adds (same_point p (last_of p ps)) (p ∷ ps) p

-- where the points stand, closing_in finds it
closer_in : (w : List Float) (from : ℕ) (ps : List Point) → from + length (flats ps) ≤ length w → closing_in (put w from (flats ps)) from (from + length (flats ps)) ≡ closer ps
unfolding flats closing_in
closer_in w from [] h = closing_few (put w from []) from (from + 0) (omega arith)
closer_in w from (p ∷ ps) h =
    let vs = flats (p ∷ ps) in
    let k = length (flats ps) in
    let first : point_of (put w from vs) from ≡ p = point_in_lem w from vs 0 from (omega arith) (omega arith) (omega arith) in
    let last : point_of (put w from vs) (from + suc (suc k) - 2) ≡ last_of p ps =
    point_in_lem w from vs k (from + suc (suc k) - 2) (omega arith) (omega arith) (omega arith) ∙ last_flat p ps in
    rw (le-leb (from + 2) (from + suc (suc k)) (omega arith), first, last)

pub closing_in_lem : (w : List Float) (from : ℕ) (ps : List Point) → from + length (flats ps) ≤ length w
    → close_ring_of ps ≡ ps ++ closing_in (put w from (flats ps)) from (from + length (flats ps))
closing_in_lem w from ps h = rw (closer_in w from ps h) (closer-added ps)

-- ---- a ring's points, then what closes it
module _ {w w₁ : List Float} {from : ℕ} {m : Made} {draws : List GrantedDraw} where
  pub closed_done : {d : PointCursor} → Written w w₁ from m (Some d) → {w₂ : List Float} {s : Option PointCursor} → Written w₁ w₂ d.at (without_draws (closing_in w₁ from d.at) d.budget) s
      → Written w w₂ from (record { points = close_ring_of m.points; after = m.after; draws = draws }) s
  closed_done {d} one two =
      let added = without_draws (closing_in w₁ from d.at) in
      written_as _ _ (rw (one.holds, one.next) (sym (closing_in_lem w from m.points (written_room one)))) refl (join_done one added two)

  pub closed_short : Written w w₁ from m None → Written w w₁ from (record { points = close_ring_of m.points; after = m.after; draws = draws }) None
  closed_short one = written_as _ _ (sym (closer-added m.points)) refl (join_short one (without_draws (closer m.points)))
