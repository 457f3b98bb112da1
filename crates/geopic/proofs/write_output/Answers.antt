use native.Mathlib.Omega.{arith}
use Rattle.std.proofs.lemmas.Result.{err_from_is_err_and}
use Rattle.geopic.specs.Laws.Calls.{begun, drawn, warning_lacks}
use Rattle.geopic.proofs.write_output.Goals as goal

pub returns-in_err-used : goal.returns-in_err-used
returns-in_err-used c =
    let failed = err_from_is_err_and c.from_residual.result c.from_residual.ensures.1 in
    rw (failed.1, failed.2) (warning_lacks c.args.s.now c.args.kinds.now c.args.tier (record { work = c.args.work.now; positions = c.args.positions.now; features = c.args.features.now; warnings = c.args.warnings.now }) c.in_err-used.ensures)

pub convert-requires : goal.convert-requires
convert-requires c =
    let start = begun c.args.s.now c.args.tier (record { work = c.args.work.now; positions = c.args.positions.now; features = c.args.features.now; warnings = c.args.warnings.now }) c.in_ok-used.ensures c.new.ensures in
    (omega (arith, c.requires.registrable), start.fits, c.requires.registrable.surveyed.places_start)

pub returns : goal.returns
returns c =
    drawn c.args.s.now c.args.tier (record { work = c.args.work.now; positions = c.args.positions.now; features = c.args.features.now; warnings = c.args.warnings.now }) c.in_ok-used.ensures c.new.ensures c.args.kinds.now c.requires.is c.projection_of.ensures c.step-step.ensures c.flatten.ensures c.convert.ensures
