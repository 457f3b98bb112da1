use mathlib.Core.Path.{◌≡◌}
use lib.ListN.{drop}
use Rattle.stream.specs.Payload.{payload}
use Rattle.records.specs.Records.{bytes_at}
use Rattle.names.specs.Inner.Table.{order_of}
use Rattle.names.proofs.table.order_bytes.Given as goal

abbrev pub invariant-loop-i : goal.invariant-loop-i
invariant-loop-i l =
    order_of (bytes_at (payload l.s) l.p l.n) (bytes_at (payload l.s) l.q l.n)
    ≡ order_of (drop l.i (bytes_at (payload l.s) l.p l.n)) (drop l.i (bytes_at (payload l.s) l.q l.n))
