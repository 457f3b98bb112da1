use Rattle.std.proofs.Common.{ap, ◌∙◌}
use lib.Ieee.{Float, binary64, sub}
use Rattle.float.specs.Laws.Tests.{taken, left}
use Rattle.elementary.specs.Constants as K
use Rattle.elementary.specs.Functions.{half_plane_of}
use Rattle.elementary.proofs.half_plane.Goals as goal

pub returns-then-x : goal.returns-then-x
unfolding half_plane_of
returns-then-x c = ap (λ (a : Float). sub binary64 K.pi a) c.angle-a.ensures ∙ taken _ _ _ c.if-x.true

pub returns-else-x : goal.returns-else-x
unfolding half_plane_of
returns-else-x c = c.angle-a.ensures ∙ left _ _ _ c.if-x.false
