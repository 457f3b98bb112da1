use Rattle.std.proofs.Common.{◌≡◌, ◌*◌, arith}
use Rattle.stream.specs.Blocks.{word_sum, checked}
use Rattle.stream.proofs.BlockChecks.{word_sum-more}
use Rattle.stream.proofs.check.Goals as goal

pub loop-k-init : goal.loop-k-init
unfolding word_sum
loop-k-init c = omega arith

pub loop-k-preserved : goal.loop-k-preserved
loop-k-preserved c = omega (arith, word_sum-more c.args.s.now (512 * c.args.i) c.loop-k.k)

pub returns : goal.returns
unfolding checked
returns c = let e : c.loop-k.k ≡ 127 = omega arith in
    cc
