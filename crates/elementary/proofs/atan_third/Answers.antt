use Rattle.std.proofs.Common.{ap, ◌∙◌}
use lib.Ieee.{Float, binary64, sub}
use Rattle.float.specs.Laws.Tests.{taken, left}
use Rattle.elementary.specs.Constants as K
use Rattle.elementary.proofs.Clamp.{clamped}
use Rattle.elementary.specs.Functions.{clamp_of}
use Rattle.elementary.specs.Inner.Stages.{atan_third}
use Rattle.elementary.proofs.atan_third.Goals as goal

pub returns-then-w : goal.returns-then-w
unfolding atan_third
returns-then-w c = c.clamp.ensures.value ∙ clamped _ _ _
    ∙ ap (λ (a : Float). clamp_of K.zero K.frac_pi2 (sub binary64 K.frac_pi2 a)) c.quadruple-a.ensures
    ∙ taken _ _ _ c.if-w.true

pub returns : goal.returns
unfolding atan_third
returns c = c.quadruple.ensures ∙ left _ _ _ c.if-w.false
