-- The counts and cases of rings, as `ellipse_ring` and `box_ring` meet them. Assumes nothing.
use Rattle.std.proofs.Common.{◌≡◌, ℕ, ◌*◌, ◌/◌, ◌≤◌, true, false, arith}
use lib.Ieee.{Float, binary64, div, le}
use Rattle.elementary.specs.Constants as K
use Rattle.budget.specs.declared.Budget.{Budget}
use Rattle.budget.specs.declared.Taken.{Taken}
use Rattle.budget.specs.Budget.{grant_of, take_of}
use Rattle.values.specs.declared.Point.{Point}
use Rattle.densify.specs.Densify.{with_draw, close_ring_of, sharp_corners, rounded_corners, quarter_of, box_ring_of}
use Rattle.densify.specs.Laws.Replay.{radius_of}
use Rattle.densify.specs.Laws.Counts.{arc_within}

-- ---- counts
pub granted-most : (b : Budget) (want floor : ℕ) {t : Taken} → t ≡ take_of b want floor → t.granted ≤ want
unfolding take_of grant_of
granted-most b want floor drawn = rw drawn (omega arith)

pub quarter-most : (step scale r tol : Float) → quarter_of step scale r tol ≤ 1024
unfolding quarter_of
quarter-most step scale r tol = omega (arith, arc_within step scale r tol)

-- ---- the two kinds of box
module _ (step scale tol : Float) (c : Point) (w h rad : Float) (b : Budget) {r : Float} (e : r ≡ radius_of w h rad) where
  pub box_sharp : le r K.zero ≡ true → box_ring_of step scale tol c w h rad b ≡ with_draw b 4 4 (λ n. close_ring_of (sharp_corners c (div binary64 w K.two) (div binary64 h K.two)))
  unfolding box_ring_of
  box_sharp t = rw (rw e at t)

  pub box-rounded : le r K.zero ≡ false
      → box_ring_of step scale tol c w h rad b ≡ with_draw b (quarter_of step scale r tol * 4) 8 (λ n. close_ring_of (rounded_corners c (div binary64 w K.two) (div binary64 h K.two) r (n / 4)))
  unfolding box_ring_of
  box-rounded t = rw (e, rw e at t)
