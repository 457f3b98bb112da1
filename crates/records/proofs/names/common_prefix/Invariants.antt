use mathlib.Core.Path.{◌≡◌}
use Prim.Native.Nat.{◌+◌}
use lib.ListN.{drop}
use Rattle.stream.specs.Payload.{payload}
use Rattle.records.specs.Records.{bytes_at}
use Rattle.records.specs.Inner.Names.{common_prefix}
use Rattle.records.proofs.names.common_prefix.Given as goal

abbrev pub invariant-loop-i : goal.invariant-loop-i
invariant-loop-i l =
    common_prefix (bytes_at (payload l.s) l.p l.n) (bytes_at (payload l.s) l.q l.m) ≡ l.i + common_prefix (drop l.i (bytes_at (payload l.s) l.p l.n)) (drop l.i (bytes_at (payload l.s) l.q l.m))
