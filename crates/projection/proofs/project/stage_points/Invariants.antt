use Rattle.std.proofs.Common.{◌≡◌, ◌+◌, ◌*◌, Float}
use Rattle.projection.specs.Inner.Stages.{AreOf, on_y}
use Rattle.projection.specs.Laws.Passes.{Passed}
use Rattle.projection.proofs.project.stage_points.Given as goal

abbrev pub invariant-loop-k : goal.invariant-loop-k
invariant-loop-k g l =
    (h : Float → Float) → AreOf (goal.F-post g l.f) h → Passed (on_y h) l.initial.out l.from l.to l.out (l.from + 2 * l.k) × (l.made ≡ h l.last)
