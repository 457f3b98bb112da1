use borrow.Author.Rules.{rules}
use mathlib.Core.Path.{◌≡◌, refl, sym, ap, ◌∙◌}
use native.Mathlib.Omega.{arith}
use Rattle.stream.specs.Laws.Numbers.{float_read}
use Rattle.stream.specs.Laws.Payload.{rest-length}
use Rattle.records.specs.Records.{all_to}
use Rattle.records.specs.Inner.Floats.{within_limit}
use Rattle.records.proofs.Tests.{all_to-more, all_to_fails}
use Rattle.records.proofs.floats.all_within_limit.Goals as goal

pub loop-i-init : goal.loop-i-init
unfolding all_to
loop-i-init c = search rules

pub overflow_mul-i : goal.overflow_mul-i
overflow_mul-i c = omega (arith, rest-length c.args.part.now c.args.off)

pub overflow_add-p : goal.overflow_add-p
overflow_add-p c = omega (arith, rest-length c.args.part.now c.args.off)

pub returns-then-not-is_within_limit : goal.returns-then-not-is_within_limit
returns-then-not-is_within_limit c = sym (all_to_fails _ _ c.loop-i.i c.loop-i-test.true (ap (within_limit c.args.canvas) (sym (float_read _ _ c.u64_at.ensures c.float_of.ensures)) ∙ sym c.is_within_limit.ensures ∙ c.if-not-is_within_limit.true))

pub loop-i-preserved : goal.loop-i-preserved
loop-i-preserved c = all_to-more _ _ c.loop-i.invariant (ap (within_limit c.args.canvas) (sym (float_read _ _ c.u64_at.ensures c.float_of.ensures)) ∙ sym c.is_within_limit.ensures ∙ c.if-not-is_within_limit.false)

pub returns : goal.returns
returns c = let e : c.loop-i.i ≡ c.args.n = omega arith in
    rw (← e, c.loop-i.invariant) refl
