use Rattle.std.proofs.Common.{ap, ◌∙◌}
use lib.Ieee.{Float, binary64, mul}
use Rattle.elementary.specs.Constants as K
use Rattle.elementary.proofs.Clamp.{clamped}
use Rattle.elementary.specs.Functions.{clamp_of}
use Rattle.elementary.specs.Inner.Stages.{quadrupled}
use Rattle.elementary.proofs.quadruple.Goals as goal

pub returns : goal.returns
unfolding quadrupled
returns c = c.clamp.ensures.value ∙ clamped _ _ _ ∙ ap (λ (s : Float). clamp_of K.zero K.frac_pi2 (mul binary64 K.four s)) c.arctangent_series-a.ensures
