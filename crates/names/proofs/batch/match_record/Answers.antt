use Rattle.std.proofs.Common.{◌≡◌, ap, arith}
use Prim.Native.Nat.{ℕ, ◌+◌}
use lib.ListN.{get_or}
use Rattle.stream.specs.Payload.{payload}
use Rattle.stream.specs.Laws.Payload.{rest-length}
use Rattle.names.specs.Inner.Batch.{slots_of, label_at}
use Rattle.names.proofs.Meeting.{length-is, considers, touches, unlabelled, met_none, met_gap, met_one}
use Rattle.names.proofs.batch.match_record.Goals as goal

pub byte-requires : goal.byte-requires
byte-requires c = (omega arith, omega (arith, c.label_at.ensures, c.requires.0.fits, rest-length c.args.s.now 0))

pub find_name-requires : goal.find_name-requires
find_name-requires c =
    let a = c.args in
    let at : a.q + c.label_at.result ≡ a.q + label_at a.kind = ap (λ (z : ℕ). a.q + z) c.label_at.ensures in
    let n : c.from-n.result ≡ get_or (payload a.s.now) (a.q + label_at a.kind) 0 = rw at at (length-is a.s.now _ c.byte.ensures c.from-n.ensures) in
    (omega (arith, at, n, c.requires.0.fits), omega (arith, n, c.requires.0.short), c.requires.1.table)

pub returns-then-n-eq0 : goal.returns-then-n-eq0
returns-then-n-eq0 c =
    let a = c.args in
    let at : a.q + c.label_at.result ≡ a.q + label_at a.kind = ap (λ (z : ℕ). a.q + z) c.label_at.ensures in
    met_none (slots_of a.t.now a.slots.now a.used) (λ i h b. unlabelled a.kind _ a.q a.i at (length-is a.s.now _ c.byte.ensures c.from-n.ensures) c.if-n-eq0.true _ b)

pub returns-in-Err : goal.returns-in-Err
returns-in-Err c =
    let a = c.args in
    let at : a.q + c.label_at.result ≡ a.q + label_at a.kind = ap (λ (z : ℕ). a.q + z) c.label_at.ensures in
    met_gap (slots_of a.t.now a.slots.now a.used) (touches a.kind _ a.q a.i at (length-is a.s.now _ c.byte.ensures c.from-n.ensures) c.if-n-eq0.false) c.in-Err.ensures

pub store_best-requires : goal.store_best-requires
store_best-requires c =
    let h = c.in-Ok.ensures.within in
    let f = c.requires.1.table.fits in
    (omega arith, c.requires.1.slots_room)

pub returns-in-Ok : goal.returns-in-Ok
returns-in-Ok c =
    let a = c.args in
    let at : a.q + c.label_at.result ≡ a.q + label_at a.kind = ap (λ (z : ℕ). a.q + z) c.label_at.ensures in
    let found = c.in-Ok.ensures in
    met_one (slots_of a.t.now a.slots.now a.used) (touches a.kind _ a.q a.i at (length-is a.s.now _ c.byte.ensures c.from-n.ensures) c.if-n-eq0.false)
    c.requires.1.table _ found.within found.is c.consider-b.result
    (considers a.kind (payload a.s.now) a.q a.i) (rw c.best_of-old.ensures at c.consider-b.ensures) c.store_best.ensures
