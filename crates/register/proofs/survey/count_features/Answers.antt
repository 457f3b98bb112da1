use native.Mathlib.Omega.{arith}
use Rattle.stream.specs.Laws.Payload.{payload-length}
use Rattle.register.proofs.Surveys.{one_numbered}
use Rattle.register.proofs.survey.count_features.Goals as goal

pub loop-f-preserved : goal.loop-f-preserved
loop-f-preserved c = let w = c.in-Ok.ensures.within in one_numbered c.loop-f.invariant c.in-Ok.ensures.p_value c.in-Ok.ensures.skips_to w.more (omega (arith, payload-length c.args.s.now, w.fits))
