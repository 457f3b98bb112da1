use mathlib.Core.Path.{◌≡◌}
use mathlib.Core.Bool.{true}
use Rattle.stream.specs.Inner.Payload.{rest}
use Rattle.records.specs.Inner.Floats.{all_within_limit}
use Rattle.records.proofs.floats.all_within_limit.Given as goal

abbrev pub invariant-loop-i : goal.invariant-loop-i
invariant-loop-i l = all_within_limit (rest l.part l.off) l.canvas l.p l.i ≡ true
