use Rattle.elementary.proofs.Reduction.{cosine_is}
use Rattle.elementary.proofs.cos.Goals as goal

pub returns : goal.returns
returns c = cosine_is _ _ _ _ c.reduce-p.ensures c.cosine_at.ensures
