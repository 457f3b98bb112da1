use Prim.Native.Nat.{◌≤◌}
use native.Mathlib.Omega.{arith}
use Rattle.stream.specs.Laws.Payload.{payload-length}
use Rattle.records.specs.Laws.Search.{float_within}
use Rattle.scene.proofs.options.float_option.Goals as goal

pub float_at-requires : goal.float_at-requires
float_at-requires c =
    let o = c.in_ok-p.ensures.present in
    let least : 3 ≤ c.number.result = omega (arith, c.number.ensures) in
    omega (arith, float_within least o.stands, payload-length c.args.s.now, o.behind)
