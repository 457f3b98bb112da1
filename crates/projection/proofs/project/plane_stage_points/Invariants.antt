use Rattle.std.proofs.Common.{◌≡◌, ◌+◌, ◌*◌}
use Rattle.projection.specs.Inner.Stages.{plane_stage_of, plane_stage_by}
use Rattle.projection.specs.Laws.Passes.{Passed}
use Rattle.projection.proofs.project.plane_stage_points.Given as goal

abbrev pub invariant-loop-k : goal.invariant-loop-k
invariant-loop-k l = Passed (plane_stage_by l.t) l.initial.out l.from l.to l.out (l.from + 2 * l.k) × (l.g ≡ plane_stage_of l.t l.last_x l.last_y)
