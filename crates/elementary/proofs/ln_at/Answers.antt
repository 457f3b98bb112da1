use Rattle.elementary.specs.Functions.{ln_at}
use Rattle.elementary.proofs.ln_at.Goals as goal

pub returns : goal.returns
unfolding ln_at
returns c = rw c.logarithm_series.ensures
