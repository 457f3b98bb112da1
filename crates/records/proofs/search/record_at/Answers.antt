use mathlib.Core.Path.{sym}
use Prim.Native.Nat.{◌≤◌}
use native.Mathlib.Omega.{arith}
use Rattle.stream.specs.Inner.Payload.{room}
use Rattle.stream.specs.Laws.Payload.{left_length, rest-length, part_room}
use Rattle.records.specs.Laws.Walk.{found}
use Rattle.records.proofs.Cases.{record_none}
use Rattle.records.proofs.search.record_at.Goals as goal

pub returns-then-p-remaining : goal.returns-then-p-remaining
returns-then-p-remaining c = let a = c.args in
    record_none _ (omega (arith, left_length a.s.now a.p, rest-length a.s.now 0))

pub part_from-requires : goal.part_from-requires
part_from-requires c =
    let inside : c.args.p ≤ room c.args.s.now = omega (arith, rest-length c.args.s.now 0) in
    inside

pub next_record-requires : goal.next_record-requires
next_record-requires c =
    let inside : c.args.p ≤ room c.args.s.now = omega (arith, rest-length c.args.s.now 0) in
    part_room _ _ inside c.part_from.ensures

pub returns : goal.returns
returns c =
    let inside : c.args.p ≤ room c.args.s.now = omega (arith, rest-length c.args.s.now 0) in
    sym (found _ _ inside c.part_from.ensures c.next_record.ensures)
