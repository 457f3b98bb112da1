use Rattle.projection.specs.Laws.Passes.{five_passes}
use Rattle.projection.proofs.project.project_points.Goals as goal

pub returns : goal.returns
returns c =
    five_passes _ _ _ _ c.requires.0 c.requires.1 c.plane_stage_points.ensures c.exp_points.ensures
    (c.stage_points.ensures _ (λ v r p. p))
    (c.stage_points-2.ensures _ (λ v r p. p))
    (c.stage_points-3.ensures _ (λ v r p. p))
