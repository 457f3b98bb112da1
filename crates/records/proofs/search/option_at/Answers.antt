use native.Mathlib.Omega.{arith}
use Rattle.stream.specs.Laws.Payload.{payload-length}
use Rattle.records.specs.Laws.Search.{standing_less, standing_fits}
use Rattle.records.proofs.search.option_at.Goals as goal

pub overflow_add-result : goal.overflow_add-result
overflow_add-result c = let o = c.in-Ok.ensures.record_at in
    omega (arith, standing_less o, standing_fits o, payload-length c.args.s.now)
