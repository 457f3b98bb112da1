use Rattle.std.proofs.Common.{refl, ◌∙◌, arith}
use Rattle.scene.specs.Laws.Found.{One, one_found, beyond}
use Rattle.names.specs.Inner.Batch.{tag_by}
use Rattle.names.proofs.Walking.{walk_start, walk_on, walk_end, batch_same, label_query, none_left, one_further}
use Rattle.names.proofs.batch.match_records.Goals as goal

pub loop-end-init : goal.loop-end-init
loop-end-init c = record { counted = omega arith; behind = λ t k m n. refl; walked = walk_start _ }

pub returns-in-Err-clause-cases : goal.returns-in-Err-clause-cases
returns-in-Err-clause-cases c =
    walk_end c.loop-end.invariant.walked (none_left c.args.kind _ c.loop-end.q c.loop-end.i (rw (c.wanted.ensures.0, c.wanted.ensures.1) at c.in-Err.ensures.key_value))

pub match_record-used-requires : goal.match_record-used-requires
match_record-used-requires c =
    let i = c.loop-end.invariant in
    let one : One c.args.s.now c.loop-end.q (tag_by c.args.kind) 0 c.in-Ok.h = one_found (rw (c.wanted.ensures.0, c.wanted.ensures.1) at c.in-Ok.ensures) in
    (label_query c.args.kind one c.requires.ending, batch_same c.requires i.walked.met.stays)

pub overflow_add-i : goal.overflow_add-i
overflow_add-i c =
    let one : One c.args.s.now c.loop-end.q (tag_by c.args.kind) 0 c.in-Ok.h = one_found (rw (c.wanted.ensures.0, c.wanted.ensures.1) at c.in-Ok.ensures) in
    omega (arith, one, c.loop-end.invariant.counted, c.requires.small)

pub loop-end-smaller : goal.loop-end-smaller
loop-end-smaller c =
    let one : One c.args.s.now c.loop-end.q (tag_by c.args.kind) 0 c.in-Ok.h = one_found (rw (c.wanted.ensures.0, c.wanted.ensures.1) at c.in-Ok.ensures) in
    omega (arith, one)

pub loop-end-preserved : goal.loop-end-preserved
loop-end-preserved c =
    let i = c.loop-end.invariant in
    let one : One c.args.s.now c.loop-end.q (tag_by c.args.kind) 0 c.in-Ok.h = one_found (rw (c.wanted.ensures.0, c.wanted.ensures.1) at c.in-Ok.ensures) in
    record {
      counted = omega (arith, one, i.counted);
      behind = λ t k m n. (i.behind t k m n) ∙ (beyond one (rw c.wanted.ensures.0 at c.in-Ok.ensures.skips_to) t k m n);
      walked = walk_on i.walked c.match_record-used.ensures (one_further c.args.s.now c.loop-end.q c.loop-end.i c.args.kind one);
    }
