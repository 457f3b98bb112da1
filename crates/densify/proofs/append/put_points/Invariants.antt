use Rattle.std.proofs.Common.{◌≡◌, ℕ, ◌<◌, ◌≤◌, length}
use Rattle.values.specs.declared.Point.{Point}
use Rattle.values.specs.Inner.Points.{point_in}
use Rattle.densify.specs.Laws.Rounds.{Rounds}
use Rattle.densify.proofs.append.put_points.Given as goal

-- the first k points are written
abbrev pub invariant-loop-k : goal.invariant-loop-k
invariant-loop-k g l =
    (l.next ≤ length l.work)
    × ((f : ℕ → Point) → ((k : ℕ) (p : _) → k < l.n → goal.F-post g l.f k p → point_in p ≡ f k) → Rounds f l.initial.work l.work l.at l.budget l.next l.k)
