use Rattle.std.proofs.Common.{ap, ◌∙◌}
use lib.Ieee.{neg}
use Rattle.float.specs.Laws.Tests.{taken, left}
use Rattle.elementary.specs.Inner.Stages.{atan_second}
use Rattle.elementary.proofs.atan_second.Goals as goal

pub returns-then-w : goal.returns-then-w
unfolding atan_second
returns-then-w c = ap neg c.half_angle.ensures ∙ taken _ _ _ c.if-w.true

pub returns : goal.returns
unfolding atan_second
returns c = c.half_angle-2.ensures ∙ left _ _ _ c.if-w.false
