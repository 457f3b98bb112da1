use mathlib.Core.Path.{◌≡◌}
use lib.ListN.{drop}
use Rattle.stream.specs.Payload.{payload}
use Rattle.records.specs.Records.{bytes_at}
use Rattle.scene.specs.Labels.{same_bytes}
use Rattle.scene.proofs.names.name_is.Given as goal

abbrev pub invariant-loop-i : goal.invariant-loop-i
invariant-loop-i l = (same_bytes (bytes_at (payload l.s) l.p l.n) l.name ≡ same_bytes (drop l.i (bytes_at (payload l.s) l.p l.n)) (drop l.i l.name))
