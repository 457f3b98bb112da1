use native.Mathlib.Omega.{arith}
use Rattle.stream.specs.Laws.Payload.{payload-length}
use Rattle.records.specs.Records.{option_width}
use Rattle.scene.specs.Laws.Found.{option_fits_lem}
use Rattle.scene.proofs.options.anchor.Goals as goal

pub point_from-requires : goal.point_from-requires
unfolding option_width
point_from-requires c = omega (arith, option_fits_lem c.in_ok-p.ensures.present, payload-length c.args.s.now)
