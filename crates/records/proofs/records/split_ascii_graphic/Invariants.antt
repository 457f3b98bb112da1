use mathlib.Core.Bool.{true}
use mathlib.Core.Path.{◌≡◌}
use Rattle.stream.specs.Inner.Payload.{rest}
use Rattle.records.specs.Records.{all_ascii_graphic}
use Rattle.records.proofs.records.split_ascii_graphic.Given as goal

abbrev pub invariant-loop-i : goal.invariant-loop-i
invariant-loop-i l = all_ascii_graphic (rest l.part l.off) l.p l.i ≡ true
