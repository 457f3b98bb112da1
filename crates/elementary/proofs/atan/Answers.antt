use Rattle.std.proofs.Common.{ap, ◌∙◌}
use lib.Ieee.{neg}
use Rattle.float.specs.Laws.Tests.{taken, left}
use Rattle.elementary.specs.Functions.{atan_of}
use Rattle.elementary.proofs.atan.Goals as goal

pub returns-then-v : goal.returns-then-v
unfolding atan_of
returns-then-v c = ap neg c.atan_nonneg.ensures ∙ taken _ _ _ c.if-v.true

pub returns : goal.returns
unfolding atan_of
returns c = c.atan_nonneg-2.ensures ∙ left _ _ _ c.if-v.false
