use borrow.Author.Rules.{rules}
use native.Mathlib.Omega.{arith}
use Rattle.stream.specs.Laws.Payload.{payload-length}
use Rattle.register.proofs.GatheredBatches.{surveyed_features, batch_lost, batch_read, ready}
use Rattle.register.proofs.controls.gather_batch.Goals as goal

pub returns-then-used-eq0 : goal.returns-then-used-eq0
returns-then-used-eq0 c = let pre = c.requires in
    let d = rw c.more_of-more.ensures at c.match_labels-used.ensures in
    λ cs js h o. batch_lost _ _ _ _ _ pre.1.filling d pre.0.surveyed.places_start h c.if-used-eq0.true

pub read_batch-requires : goal.read_batch-requires
read_batch-requires c = let pre = c.requires in
    (omega (arith, pre.0.small, pre.0.surveyed.few, pre.1.counted, payload-length c.args.s.now), record { table = rw (← c.more_of-more.ensures) c.clear_known.ensures.table; spots_room = search rules; control_room = pre.2 }, pre.1.follows)

pub returns : goal.returns
returns c = let pre = c.requires in
    let d = rw c.more_of-more.ensures at c.match_labels-used.ensures in
    let o = rw (c.more_of-more.ensures, c.features_before.ensures, surveyed_features pre.0.surveyed) at c.clear_known.ensures in
    λ cs js h q. batch_read _ _ _ _ _ pre.1.filling d pre.0.surveyed.places_start h o q (c.read_batch.ensures (ready _ _ _ _ _ pre.1.filling d pre.0.surveyed.places_start h o))
