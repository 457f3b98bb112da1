-- The cases of `form_points` and `path_points_of`, as the code meets them. Assumes nothing.
use Rattle.std.proofs.Common.{◌≡◌, ℕ, ◌+◌, ◌*◌, Bool, true, false, List, [], ◌∷◌, Option, Some, None}
use native.Mathlib.Numerals.{unary_clauses}
use lib.Ieee.{Float}
use Rattle.budget.specs.declared.Budget.{Budget}
use Rattle.scene.specs.declared.readers.Path.{Path}
use Rattle.scene.specs.Scene.{point_at, points_at, cubics_at}
use Rattle.values.specs.declared.Point.{Point}
use Rattle.scene.specs.Inner.Answers.{form_by}
use Rattle.densify.specs.declared.append.PointCursor.{PointCursor}
use Rattle.densify.specs.Densify.{Made, without_draws, and_then, cubics_of, form_points, closed_if}
use Rattle.densify.specs.Inner.Written.{Written}
use Rattle.densify.specs.Laws.Writing.{join_short, join_done}
use Rattle.densify.specs.Laws.Closing.{closed_short}

module _ (l : List ℕ) (p : Path) (tol : Float) (b : Budget) where
  pub form_line : p.curve ≡ false → form_points tol (form_by l p) b ≡ without_draws (points_at l p.at p.count) b
  unfolding form_points
  form_line e = rw e

  -- a curve: its start, then its cubics
  module _ {q : Point} (e : p.curve ≡ true) (start : q ≡ point_at l (p.start + 16 * 0)) where
    abbrev cubics : Budget → Made
    cubics = cubics_of tol q (cubics_at l p.at p.count)

    form_curve : form_points tol (form_by l p) b ≡ and_then (without_draws (q ∷ []) b) cubics
    unfolding form_points
    form_curve = rw (e, simp unary_clauses at start)

    pub curve-short : {w w₁ : List Float} {at : ℕ} → Written w w₁ at (without_draws (q ∷ []) b) None → Written w w₁ at (form_points tol (form_by l p) b) None
    curve-short one = rw form_curve (join_short one cubics)

    pub curve-done : {w w₁ : List Float} {at : ℕ} {d : PointCursor} → Written w w₁ at (without_draws (q ∷ []) b) (Some d) → {w₂ : List Float} {s : Option PointCursor}
        → Written w₁ w₂ d.at (cubics_of tol q (cubics_at l p.at p.count) d.budget) s → Written w w₂ at (form_points tol (form_by l p) b) s
    curve-done one two = rw form_curve (join_done one cubics two)

-- no room for the points: none for the ring
pub path-short : {w w₁ : List Float} {at : ℕ} {m : Made} (closed : Bool) → Written w w₁ at m None → Written w w₁ at (closed_if closed m) None
path-short true one = closed_short one
path-short false one = one
