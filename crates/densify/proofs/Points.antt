-- Cubics of a payload, one at a turn of a loop. Assumes nothing.
use Rattle.std.proofs.Common.{◌≡◌, ℕ, suc, ◌+◌, ◌-◌, ◌*◌, ◌<◌, ◌≤◌, List, length, Option, Some, None, arith}
use lib.Ieee.{Float}
use Rattle.budget.specs.declared.Budget.{Budget}
use Rattle.scene.specs.Scene.{point_at, cubic_at, cubics_at}
use Rattle.values.specs.declared.Point.{Point}
use Rattle.densify.specs.declared.append.PointCursor.{PointCursor}
use Rattle.densify.specs.Densify.{Made, and_then, flatten_cubic_of, cubics_of}
use Rattle.densify.specs.Inner.Written.{Written}
use Rattle.densify.specs.Laws.Writing.{Leads, leads_next, leads_short, leads_end}

module _ (l : List ℕ) (from count i : ℕ) where
  cubics-more : (tol : Float) (p : Point) (b : Budget) → i < count
      → cubics_of tol p (cubics_at l (from + 48 * i) (count - i)) b
      ≡ and_then (flatten_cubic_of tol (record { p0 = p; c1 = point_at l (from + 16 * (3 * i)); c2 = point_at l (from + 16 * (3 * i + 1)); p3 = point_at l (from + 16 * (3 * i + 2)) }) b)
      (cubics_of tol (point_at l (from + 16 * (3 * i + 2))) (cubics_at l (from + 48 * (i + 1)) (count - (i + 1))))
  unfolding cubics_at cubic_at cubics_of
  cubics-more tol p b h =
      let n : count - i ≡ suc (count - (i + 1)) = omega arith in
      let c1 : from + 48 * i ≡ from + 16 * (3 * i) = omega arith in
      let c2 : from + 48 * i + 16 ≡ from + 16 * (3 * i + 1) = omega arith in
      let end : from + 48 * i + 32 ≡ from + 16 * (3 * i + 2) = omega arith in
      let next : from + 48 * i + 48 ≡ from + 48 * (i + 1) = omega arith in
      rw (n, c2, end, next, c1)

  -- a turn of flatten_cubics, from p on
  module _ {w w₁ : List Float} {at at₁ : ℕ} {m : Made} (tol : Float) (p : Point) (b : Budget)
      (lead : Leads w at m w₁ at₁ (cubics_of tol p (cubics_at l (from + 48 * i) (count - i)) b)) where
    module _ (c1 c2 end : Point) (h : i < count)
        (e1 : c1 ≡ point_at l (from + 16 * (3 * i))) (e2 : c2 ≡ point_at l (from + 16 * (3 * i + 1))) (e3 : end ≡ point_at l (from + 16 * (3 * i + 2))) where
      abbrev later : Budget → Made
      later = cubics_of tol end (cubics_at l (from + 48 * (i + 1)) (count - (i + 1)))

      abbrev Flattened : List Float → Option PointCursor → Type 0
      Flattened w₂ r = Written w₁ w₂ at₁ (flatten_cubic_of tol (record { p0 = p; c1 = c1; c2 = c2; p3 = end }) b) r

      cubic_turn : Leads w at m w₁ at₁ (and_then (flatten_cubic_of tol (record { p0 = p; c1 = c1; c2 = c2; p3 = end }) b) later)
      cubic_turn = rw (cubics-more tol p b h, ← e1, ← e2, ← e3) at lead

      pub cubics-short : {w₂ : List Float} → Flattened w₂ None → Written w w₂ at m None
      cubics-short one = leads_short later cubic_turn one

      pub cubics-next : {w₂ : List Float} {d : PointCursor} → Flattened w₂ (Some d) → Leads w at m w₂ d.at (cubics_of tol end (cubics_at l (from + 48 * (i + 1)) (count - (i + 1))) d.budget)
      cubics-next one = leads_next later cubic_turn one

    pub cubics_end : count ≤ i → at₁ ≤ length w₁ → Written w w₁ at m (Some (record { at = at₁; budget = b }))
    unfolding cubics_at cubics_of
    cubics_end h g = let n : count - i ≡ 0 = omega arith in leads_end (rw n at lead) g
