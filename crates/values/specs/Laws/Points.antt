-- Laws of points in a slice. Assumes nothing.
use Rattle.std.specs.Prelude.{ℕ, zero, suc, ◌+◌, ◌-◌, ◌*◌, ◌/◌, ◌≤◌, ◌≡◌, refl, List, [], ◌∷◌, ◌++◌, length, take, drop, set, Float}
use Rattle.std.proofs.Common.{ap, ◌∙◌, append_assoc, arith, length-append, length-take-le, get_or-append-add}
use Rattle.std.proofs.Math.Numerals.{unary_clauses}
use Rattle.std.proofs.Math.Seq.{get_or-append_seam}
use Rattle.std.specs.Float.{nan}
use Rattle.values.specs.declared.Point.{Point}
use Rattle.values.specs.Points.{flats, point_of, points_of}
use Rattle.values.specs.Slices.{put}
use Rattle.values.specs.Inner.Points.{points_in}
use Rattle.values.specs.Laws.Put.{put-length, pair_put, put-more}

pub flats-append : (a b : List Point) → flats (a ++ b) ≡ flats a ++ flats b
unfolding flats
flats-append [] b = refl
flats-append (p ∷ a) b = ap (λ (l : List Float). p.x ∷ p.y ∷ l) (flats-append a b)

pub flats-length : (ps : List Point) → length (flats ps) ≡ 2 * length ps
unfolding flats
flats-length [] = refl
flats-length (p ∷ ps) = omega (arith, flats-length ps)

-- the two stores of a point
pub put-point : (w : List Float) (at : ℕ) (p : Point) → at + 2 ≤ length w → set (set w at p.x) (at + 1) p.y ≡ put w at (flats (p ∷ []))
unfolding flats
put-point w at p h = pair_put w at p.x p.y h

-- a run and the two stores of one point more
pub put_next : (w : List Float) (at : ℕ) (ps : List Point) (p : Point) → at + length (flats ps) + 2 ≤ length w
    → set (set (put w at (flats ps)) (at + length (flats ps)) p.x) (at + length (flats ps) + 1) p.y ≡ put w at (flats (ps ++ (p ∷ [])))
put_next w at ps p h =
    put-point (put w at (flats ps)) (at + length (flats ps)) p (rw (put-length w at (flats ps) (omega arith)) h)
    ∙ rw flats-append (put-more w at (flats ps) (flats (p ∷ [])) (omega arith))

-- ---- points that stand in a slice
pub points-count : (w : List Float) (i n : ℕ) → length (points_of w i n) ≡ n
unfolding points_of
points-count w i zero = refl
points-count w i (suc n) = ap suc (points-count w (i + 2) n)

pub points-between : (w : List Float) (from to : ℕ) → length (points_in w from to) ≡ (to - from) / 2
unfolding points_in
points-between w from to = points-count w from ((to - from) / 2)

pub points_last : (w : List Float) (i n : ℕ) → points_of w i (suc n) ≡ points_of w i n ++ (point_of w (i + 2 * n) ∷ [])
unfolding points_of
points_last w i zero = simp unary_clauses
points_last w i (suc n) = let k : i + 2 + 2 * n ≡ i + 2 * suc n = omega arith in ap (λ (l : List Point). point_of w i ∷ l) (rw k at (points_last w (i + 2) n))

-- those that were put there
run_back : (a : List Float) (ps : List Point) (b : List Float) → points_of (a ++ (flats ps ++ b)) (length a) (length ps) ≡ ps
unfolding points_of flats
run_back a [] b = refl
run_back a (p ∷ ps) b =
    let more = p.y ∷ (flats ps ++ b) in
    let rest = run_back (a ++ (p.x ∷ p.y ∷ [])) ps b in
    rw (get_or-append_seam a p.x more nan, get_or-append-add a (p.x ∷ more) 1 nan) (ap (λ (l : List Point). p ∷ l) (rw (append_assoc, length-append) at rest))

pub points-back : (w : List Float) (at to : ℕ) (ps : List Point) → at ≤ length w → (to - at) / 2 ≡ length ps → points_in (put w at (flats ps)) at to ≡ ps
unfolding points_in put
points-back w at to ps h k =
    let n : length (take at w) ≡ at = length-take-le at w h in
    rw k (rw n at (run_back (take at w) ps (drop (at + length (flats ps)) w)))
