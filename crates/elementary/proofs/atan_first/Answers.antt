use Rattle.std.proofs.Common.{ap, ◌∙◌}
use lib.Ieee.{neg}
use Rattle.float.specs.Laws.Tests.{taken, left}
use Rattle.elementary.specs.Inner.Stages.{atan_first}
use Rattle.elementary.proofs.atan_first.Goals as goal

pub returns-then-v : goal.returns-then-v
unfolding atan_first
returns-then-v c = ap neg c.half_angle.ensures ∙ taken _ _ _ c.if-v.true

pub returns : goal.returns
unfolding atan_first
returns c = c.half_angle-2.ensures ∙ left _ _ _ c.if-v.false
