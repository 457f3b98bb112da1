use Rattle.std.proofs.Common.{sym, ◌∙◌, arith}
use Rattle.stream.specs.Laws.Payload.{rest-length}
use Rattle.names.proofs.Orders.{bytes_end, byte_ahead, differs, ties}
use Rattle.names.proofs.table.order_bytes.Goals as goal

pub byte-requires : goal.byte-requires
byte-requires c = (omega arith, omega (arith, rest-length c.args.s.now 0))

pub byte-requires-in-loop-i : goal.byte-requires-in-loop-i
byte-requires-in-loop-i c = (omega arith, omega (arith, rest-length c.args.s.now 0))

pub returns-then-is_ne : goal.returns-then-is_ne
returns-then-is_ne c =
    let a = c.args in
    let ahead = byte_ahead a.s.now a.p a.q a.n c.loop-i.i c.requires.0 c.requires.1 (omega arith) c.byte.ensures c.byte-in-loop-i.ensures in
    c.cmp-o.ensures ∙ differs _ _ (rw (c.is_ne.ensures, c.cmp-o.ensures) at c.if-is_ne.true) ∙ sym (c.loop-i.invariant ∙ ahead)

pub loop-i-preserved : goal.loop-i-preserved
loop-i-preserved c =
    let a = c.args in
    let ahead = byte_ahead a.s.now a.p a.q a.n c.loop-i.i c.requires.0 c.requires.1 (omega arith) c.byte.ensures c.byte-in-loop-i.ensures in
    c.loop-i.invariant ∙ ahead ∙ ties _ _ (rw (c.is_ne.ensures, c.cmp-o.ensures) at c.if-is_ne.false)

pub returns : goal.returns
returns c = let a = c.args in bytes_end a.s.now a.p a.q a.n c.loop-i.i c.requires.0 c.requires.1 (omega arith) ∙ sym c.loop-i.invariant
