use Rattle.elementary.specs.Functions.{hypot_of}
use Rattle.elementary.proofs.hypot.Goals as goal

pub returns : goal.returns
unfolding hypot_of
returns c = c.root.ensures
