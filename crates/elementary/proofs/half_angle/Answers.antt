use Rattle.elementary.specs.Functions.{half_angle_of}
use Rattle.elementary.proofs.half_angle.Goals as goal

pub returns : goal.returns
unfolding half_angle_of
returns c = rw c.root.ensures
