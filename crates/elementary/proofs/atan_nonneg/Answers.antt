use Rattle.std.proofs.Common.{ap, ◌∙◌}
use lib.Ieee.{Float, binary64, sub}
use Rattle.float.specs.Laws.Tests.{taken, left}
use Rattle.elementary.specs.Constants as K
use Rattle.elementary.proofs.Clamp.{clamped}
use Rattle.elementary.specs.Functions.{clamp_of, atan_nonneg}
use Rattle.elementary.proofs.atan_nonneg.Goals as goal

pub returns-then-v : goal.returns-then-v
unfolding atan_nonneg
returns-then-v c = c.clamp.ensures.value ∙ clamped _ _ _
    ∙ ap (λ (a : Float). clamp_of K.zero K.frac_pi2 (sub binary64 K.frac_pi2 a)) c.atan_small-a.ensures
    ∙ taken _ _ _ c.if-v.true

pub returns : goal.returns
unfolding atan_nonneg
returns c = c.atan_small.ensures ∙ left _ _ _ c.if-v.false
