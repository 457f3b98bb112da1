use Rattle.fit.specs.Laws.Projected.{projected_fit}
use Rattle.fit.proofs.fit_points.Goals as goal

pub returns : goal.returns
returns c = projected_fit _ _ _ c.project_controls.ensures.front c.fit_projected.ensures
