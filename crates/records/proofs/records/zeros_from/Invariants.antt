use lib.ListN.{drop}
use mathlib.Core.Path.{◌≡◌}
use Rattle.stream.specs.Inner.Payload.{rest}
use Rattle.records.specs.Records.{all_zero}
use Rattle.records.proofs.records.zeros_from.Given as goal

abbrev pub invariant-loop-k : goal.invariant-loop-k
invariant-loop-k l = all_zero (drop l.i (rest l.part l.off)) ≡ all_zero (drop l.k (rest l.part l.off))
