use Rattle.elementary.specs.Functions.{tan_of}
use Rattle.elementary.proofs.tan.Goals as goal

pub returns : goal.returns
unfolding tan_of
returns c = rw (c.sin_cos-v.ensures.0, c.sin_cos-v.ensures.1)
