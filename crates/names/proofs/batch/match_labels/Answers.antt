use Rattle.std.proofs.Common.{ap, map, arith}
use Rattle.scene.specs.Scene.{item_at}
use Rattle.names.proofs.Walking.{batch_same, noted}
use Rattle.names.proofs.batch.match_labels.Goals as goal

pub match_records-requires : goal.match_records-requires
match_records-requires c = batch_same c.requires.0 c.match_records-w.ensures.cases.stays

pub returns : goal.returns
returns c =
    let w = c.match_records-w in
    noted c.args.more _ c.args.t.now c.args.count c.args.p w.result.end c.requires.0.table c.requires.1 w.ensures.cases
    (ap (map item_at) (w.ensures.skips_to 6 0 (omega arith) (omega arith))) c.match_records.ensures.cases
