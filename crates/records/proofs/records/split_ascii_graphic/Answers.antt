use Rattle.std.proofs.Common.{◌≡◌, refl, sym, ap, ◌∙◌, arith}
use Rattle.stream.specs.Laws.Payload.{rest-length}
use Rattle.records.specs.Records.{all_to, ascii_graphic}
use Rattle.records.proofs.Tests.{all_to_fails, all_to-more, graphic_is}
use Rattle.records.proofs.records.split_ascii_graphic.Goals as goal

pub loop-i-init : goal.loop-i-init
unfolding all_to
loop-i-init c = refl

pub overflow_add-p : goal.overflow_add-p
overflow_add-p c = omega (arith, rest-length c.args.part.now c.args.off)

pub returns-then-not-is_ascii_graphic : goal.returns-then-not-is_ascii_graphic
returns-then-not-is_ascii_graphic c = sym (all_to_fails _ _ _ c.loop-i-test.true (ap ascii_graphic (sym c.byte.ensures) ∙ sym (graphic_is c.byte.result) ∙ sym c.if-not-is_ascii_graphic.ensures.value))

pub loop-i-preserved : goal.loop-i-preserved
loop-i-preserved c = all_to-more _ _ c.loop-i.invariant (ap ascii_graphic (sym c.byte.ensures) ∙ sym (graphic_is c.byte.result) ∙ sym c.if-not-is_ascii_graphic.ensures.value)

pub returns : goal.returns
returns c = let e : c.loop-i.i ≡ c.args.n = omega arith in
    rw (← e, c.loop-i.invariant) refl
