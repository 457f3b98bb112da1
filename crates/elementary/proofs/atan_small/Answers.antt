use Rattle.std.proofs.Common.{ap, ◌∙◌}
use Rattle.elementary.specs.Functions.{half_angle_of, atan_small}
use Rattle.elementary.specs.Inner.Stages.{quadrupled}
use Rattle.elementary.proofs.atan_small.Goals as goal

pub returns : goal.returns
unfolding atan_small quadrupled
returns c = c.quadruple.ensures ∙ ap quadrupled (c.half_angle-w.ensures ∙ ap half_angle_of c.half_angle.ensures)
