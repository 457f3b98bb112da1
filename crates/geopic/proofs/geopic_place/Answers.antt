use Rattle.strokes.specs.Laws.Applying.{refused_some}
use Rattle.geopic.specs.Laws.Calls.{early-answer, early_buffers}
use Rattle.geopic.proofs.geopic_place.Goals as goal

pub returns-in-Err : goal.returns-in-Err
returns-in-Err c = let s = c.args.s.now in
    let kinds = c.args.kinds.now in
    let o = rw c.in-Err.is at c.open_stream.ensures in
    record { value = early-answer s kinds c.args.tier (record { work = c.args.work.now; positions = c.args.positions.now; features = c.args.features.now; warnings = c.args.warnings.now }) o.number (refused_some _) c.refuse.ensures; warnings_after = early_buffers s kinds c.args.tier (record { work = c.args.work.now; positions = c.args.positions.now; features = c.args.features.now; warnings = c.args.warnings.now }) o.number (refused_some _) }
