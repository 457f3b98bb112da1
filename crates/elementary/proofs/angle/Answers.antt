use Rattle.std.proofs.Common.{ap, ◌∙◌}
use lib.Ieee.{Float, binary64, div}
use Rattle.float.specs.Functions.{abs_of}
use Rattle.float.specs.Laws.Tests.{taken, left}
use Rattle.elementary.specs.Functions.{atan_of, angle_of}
use Rattle.elementary.proofs.angle.Goals as goal

pub returns-then-x : goal.returns-then-x
unfolding angle_of
returns-then-x c = taken _ _ _ c.if-x.true

pub returns : goal.returns
unfolding angle_of
returns c = c.atan.ensures
    ∙ ap (λ (a : Float). atan_of (div binary64 a c.abs-2.result)) c.abs.ensures
    ∙ ap (λ (a : Float). atan_of (div binary64 (abs_of c.args.y) a)) c.abs-2.ensures
    ∙ left _ _ _ c.if-x.false
