use borrow.Author.Rules.{rules}
use native.Mathlib.Omega.{arith}
use Rattle.stream.specs.Laws.Payload.{payload-length}
use Rattle.register.proofs.GatheredBatches.{left, part-start, part_on, part_end, part-total}
use Rattle.register.proofs.controls.gather_part.Goals as goal

pub loop-v-init : goal.loop-v-init
loop-v-init c = part-start _ _ c.requires.0.surveyed c.requires.0.laid_out_is c.first_cursor-c.ensures c.features_before-base.ensures

pub returns-then-f-eq0 : goal.returns-then-f-eq0
returns-then-f-eq0 c = part_end c.loop-v.invariant c.fill_batch-f.ensures c.if-f-eq0.true (search rules)

pub gather_batch-all-requires : goal.gather_batch-all-requires
gather_batch-all-requires c = let pre = c.requires in
    let d = c.fill_batch-f.ensures in
    (pre.0, record { counted = omega (arith, left c.loop-v.invariant, d.filling.enough, part-total pre.0.surveyed c.args.lons); follows = c.loop-v.invariant.follows; filling = d.filling }, record { held_room = search rules; kept-room = search rules })

pub overflow_add-base : goal.overflow_add-base
overflow_add-base c = let pre = c.requires in
    let d = c.fill_batch-f.ensures in
    omega (arith, left c.loop-v.invariant, d.filling.enough, part-total pre.0.surveyed c.args.lons, pre.0.surveyed.few, pre.0.small, payload-length c.args.s.now)

pub loop-v-preserved : goal.loop-v-preserved
loop-v-preserved c = part_on c.loop-v.invariant c.fill_batch-f.ensures _ _ _ c.gather_batch-all.ensures
