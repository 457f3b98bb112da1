-- Laws of points that stand in a slice, and of the loops over a polyline's segments. Assumes nothing.
use Rattle.std.specs.Prelude.{◌≡◌, ℕ, suc, ◌+◌, ◌-◌, ◌/◌, ◌<◌, ◌≤◌, List, [], ◌∷◌, length, Float, Option, Some, None}
use Rattle.std.proofs.Common.{subst}
use native.Mathlib.Omega.{arith}
use Rattle.budget.specs.declared.Budget.{Budget}
use Rattle.budget.specs.declared.Taken.{Taken}
use Rattle.budget.specs.Budget.{grant_of, take_of}
use Rattle.values.specs.declared.Point.{Point}
use Rattle.densify.specs.declared.append.PointCursor.{PointCursor}
use Rattle.densify.specs.Densify.{Made, without_draws, and_then, along_of, samples_to, segment_want, segment_of, segments_of, densify_polyline_of}
use Rattle.densify.specs.Inner.Written.{Written}
use Rattle.values.specs.Inner.Points.{points_in}
use Rattle.values.specs.Points.{point_of, points_of}
use Rattle.densify.specs.Laws.Writing.{join_short, join_done, written_as, Leads, leads_next, leads_short, leads_end}
use Rattle.densify.specs.Laws.Counts.{parts_within}

-- ---- points that stand in a slice
module _ (w : List Float) (i to : ℕ) where
  pub points_none : to < i + 2 → points_in w i to ≡ []
  unfolding points_in points_of
  points_none h = let z : (to - i) / 2 ≡ 0 = omega arith in rw z

  pub points-next : i + 2 ≤ to → points_in w i to ≡ point_of w i ∷ points_in w (i + 2) to
  unfolding points_in points_of
  points-next h = let n : (to - i) / 2 ≡ suc ((to - (i + 2)) / 2) = omega arith in rw n

-- ---- a polyline's segments, one by one
-- a segment has no more parts than `sample_segment` takes
want_within : (step scale : Float) (p q : Point) → segment_want step scale p q ≤ 100000
unfolding segment_want
want_within step scale p q = (parts_within step _).most

pub grant_within : (step scale : Float) (p q : Point) (b : Budget) {taken : Taken} → taken ≡ take_of b (segment_want step scale p q) 1 → taken.granted < 4294967295
unfolding take_of grant_of
grant_within step scale p q b drawn = rw drawn (omega (arith, want_within step scale p q))

-- the segments from the point at i on
abbrev pub onwards : Float → Float → List Float → ℕ → ℕ → Budget → Made
onwards step scale w i to b = segments_of step scale (point_of w i) (points_in w (i + 2) to) b

module _ (step scale : Float) (w : List Float) (i to : ℕ) (b : Budget) where
  pub polyline-none : to < i + 2 → densify_polyline_of step scale (points_in w i to) b ≡ without_draws [] b
  unfolding densify_polyline_of
  polyline-none h = rw (points_none w i to h)

  pub polyline-first : i + 2 ≤ to → densify_polyline_of step scale (points_in w i to) b ≡ and_then (without_draws (point_of w i ∷ []) b) (onwards step scale w i to)
  unfolding densify_polyline_of
  polyline-first h = rw (points-next w i to h)

  module _ (p : Point) where
    pub segments_none : to < i + 2 → segments_of step scale p (points_in w i to) b ≡ without_draws [] b
    unfolding segments_of
    segments_none h = rw (points_none w i to h)

    segments_next : i + 2 ≤ to → segments_of step scale p (points_in w i to) b ≡ and_then (segment_of step scale p (point_of w i) b) (onwards step scale w i to)
    unfolding segments_of
    segments_next h = rw (points-next w i to h)

    -- what a turn leaves of the budget
    pub spent-next : i + 2 ≤ to → {taken : Taken} → taken ≡ take_of b (segment_want step scale p (point_of w i)) 1
        → (segments_of step scale p (points_in w i to) b).after ≡ (onwards step scale w i to taken.budget).after
    unfolding segment_of
    spent-next h drawn = rw (segments_next h, drawn)

-- the same, written
module _ (step scale : Float) (work : List Float) (i to : ℕ) (b : Budget) where
  module _ (p : Point) {w w₁ : List Float} {at next : ℕ} {m : Made} (l : Leads w at m w₁ next (segments_of step scale p (points_in work i to) b)) where
    pub segments_end : to < i + 2 → next ≤ length w₁ → Written w w₁ at m (Some (record { at = next; budget = b }))
    segments_end h k = leads_end (rw (segments_none step scale work i to b p h) at l) k

    module _ (h : i + 2 ≤ to) (taken : Taken) (drawn : taken ≡ take_of b (segment_want step scale p (point_of work i)) 1) where
      -- a segment's samples
      abbrev Sampled : List Float → Option PointCursor → Type 0
      Sampled w₂ r = Written w₁ w₂ next (without_draws (samples_to (λ k. along_of p (point_of work i) k taken.granted) taken.granted) taken.budget) r

      turned : Leads w at m w₁ next (and_then (segment_of step scale p (point_of work i) b) (onwards step scale work i to))
      turned = subst (λ (x : Made). Leads w at m w₁ next x) (segments_next step scale work i to b p h) l

      written : {w₂ : List Float} {r : Option PointCursor} → Sampled w₂ r → Written w₁ w₂ next (segment_of step scale p (point_of work i) b) r
      unfolding segment_of
      written one = written_as _ _ (rw drawn) (rw drawn) one

      pub segment-short : {w₂ : List Float} → Sampled w₂ None → Written w w₂ at m None
      segment-short one = leads_short (onwards step scale work i to) turned (written one)

      pub segment-next : {w₂ : List Float} {d : PointCursor} → Sampled w₂ (Some d) → Leads w at m w₂ d.at (onwards step scale work i to d.budget)
      segment-next one = leads_next (onwards step scale work i to) turned (written one)

  -- the first point, and then the segments
  module _ (h : i + 2 ≤ to) {w w₁ : List Float} {at : ℕ} where
    pub polyline-short : Written w w₁ at (without_draws (point_of work i ∷ []) b) None → Written w w₁ at (densify_polyline_of step scale (points_in work i to) b) None
    polyline-short first = rw (polyline-first step scale work i to b h) (join_short first (onwards step scale work i to))

    pub polyline-done : {d : PointCursor} → Written w w₁ at (without_draws (point_of work i ∷ []) b) (Some d) → {w₂ : List Float} {s : Option PointCursor}
        → Written w₁ w₂ d.at (onwards step scale work i to d.budget) s → Written w w₂ at (densify_polyline_of step scale (points_in work i to) b) s
    polyline-done first rest = rw (polyline-first step scale work i to b h) (join_done first (onwards step scale work i to) rest)
