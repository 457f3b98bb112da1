use Rattle.std.proofs.Common.{◌≡◌, ◌+◌, ◌*◌, ◌%◌, ◌^◌}
use Rattle.stream.specs.Blocks.{word_sum}
use Rattle.stream.proofs.check.Given as goal

abbrev pub invariant-loop-k : goal.invariant-loop-k
invariant-loop-k l = l.sum ≡ (word_sum l.s (512 * l.i) l.k + l.i) % 2 ^ 32
