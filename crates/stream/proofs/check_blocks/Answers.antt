use Rattle.std.proofs.Common.{sym, ◌∙◌, refl, arith}
use Rattle.stream.specs.Blocks.{all_checked}
use Rattle.stream.proofs.BlockChecks as judging
use Rattle.stream.proofs.check_blocks.Goals as goal
use Rattle.stream.proofs.check_blocks.Goals.{then-s-eq0-via-then-s-eq0, then-s-eq0-via-else-s-eq0+then-s-ne0, then-s-eq0-via-else-s-eq0+else-s-ne0+then-n-gt-MAX_BLOCKS}

pub returns-then-s-eq0 : goal.returns-then-s-eq0
returns-then-s-eq0 c = elim c.then-s-eq0.branch [
  | then-s-eq0-via-then-s-eq0 w ↦ judging.empty _ w.if-s-eq0.true
  | then-s-eq0-via-else-s-eq0+then-s-ne0 w ↦ judging.ragged _ w.if-s-ne0.true
  | then-s-eq0-via-else-s-eq0+else-s-ne0+then-n-gt-MAX_BLOCKS w ↦ judging.many _ w.if-n-gt-MAX_BLOCKS.true
]

pub loop-i-init : goal.loop-i-init
unfolding all_checked
loop-i-init c = refl

pub returns-then-not-check : goal.returns-then-not-check
returns-then-not-check c = judging.wrong _ c.if-s-eq0.false c.if-s-ne0.false c.if-n-gt-MAX_BLOCKS.false c.loop-i.i c.loop-i-test.true (sym c.check.ensures ∙ c.if-not-check.true)

pub loop-i-preserved : goal.loop-i-preserved
loop-i-preserved c = judging.all_checked-more _ _ c.loop-i.invariant (sym c.check.ensures ∙ c.if-not-check.false)

pub returns : goal.returns
returns c = judging.fine _ c.if-s-eq0.false c.if-s-ne0.false c.if-n-gt-MAX_BLOCKS.false c.loop-i.i (omega arith) (omega arith) c.loop-i.invariant
