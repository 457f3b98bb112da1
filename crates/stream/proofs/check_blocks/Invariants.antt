use Rattle.std.proofs.Common.{◌≡◌, true}
use Rattle.stream.specs.Blocks.{all_checked}
use Rattle.stream.proofs.check_blocks.Given as goal

abbrev pub invariant-loop-i : goal.invariant-loop-i
invariant-loop-i l = all_checked l.s l.i ≡ true
