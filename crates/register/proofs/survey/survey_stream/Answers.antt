use native.Mathlib.Omega.{arith}
use Rattle.stream.specs.Laws.Payload.{payload-length}
use Rattle.register.proofs.Surveys.{all-agree, surveyed, lon_surveyed, other_surveyed}
use Rattle.register.proofs.survey.survey_stream.Goals as goal

pub read_declared-requires : goal.read_declared-requires
read_declared-requires c = all-agree c.loop-v.invariant c.in-Err.ensures.p_value

pub returns-in-Err : goal.returns-in-Err
returns-in-Err c = surveyed c.loop-v.invariant c.in-Err.ensures.skips_to c.in-Err.ensures.p_value c.read_declared.ensures c.count_features-f.ensures.behind

pub loop-v-preserved-then-is_lon : goal.loop-v-preserved-then-is_lon
loop-v-preserved-then-is_lon c =
    let w = c.in-Ok.ensures.within in
    lon_surveyed c.loop-v.invariant c.in-Ok.ensures.skips_to c.in-Ok.ensures.p_value c.record_geo-geo.ensures c.is_lon.ensures w.more (omega (arith, payload-length c.args.s.now, w.fits)) c.if-is_lon.true

pub loop-v-preserved : goal.loop-v-preserved
loop-v-preserved c =
    let w = c.in-Ok.ensures.within in
    other_surveyed c.loop-v.invariant c.in-Ok.ensures.skips_to c.in-Ok.ensures.p_value c.record_geo-geo.ensures c.is_lon.ensures w.more (omega (arith, payload-length c.args.s.now, w.fits)) c.if-is_lon.false
