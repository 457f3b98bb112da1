use Rattle.fit.specs.Fit.{projected_of}
use Rattle.fit.proofs.project_control.Goals as goal

pub returns : goal.returns
unfolding projected_of
returns c = rw c.mercator_forward-m.ensures
