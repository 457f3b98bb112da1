use mathlib.Core.Path.{refl, sym, ap, ◌∙◌}
use mathlib.Core.Logic.{inl, inr}
use native.Mathlib.Omega.{arith}
use mathlib.Core.List.{map}
use Rattle.scene.specs.Scene.{item_at}
use Rattle.scene.specs.Inner.Answers.{best_by}
use Rattle.scene.specs.Laws.Found.{one_found}
use Rattle.scene.specs.Laws.Items.{label_ends}
use Rattle.scene.specs.Laws.Folds.{no_item, next-item}
use Rattle.scene.proofs.labels.best_item.Goals as goal
use Rattle.scene.proofs.labels.best_item.Goals.{then-label_at_equals, else-label_at_equals}

pub returns : goal.returns
returns c = sym (no_item _ c.loop-h.i _ (ap (map item_at) c.in_default.ensures.key_value)) ∙ sym c.loop-h.invariant.1

pub overflow_add-h : goal.overflow_add-h
overflow_add-h c = omega (arith, label_ends (one_found c.in-Ok.ensures) refl)

pub label_at_equals-requires : goal.label_at_equals-requires
label_at_equals-requires c = (omega (arith, label_ends (one_found c.in-Ok.ensures) refl), c.requires)

pub overflow_add-i : goal.overflow_add-i
overflow_add-i c = omega (arith, one_found c.in-Ok.ensures, c.loop-h.invariant.0)

pub loop-h-smaller : goal.loop-h-smaller
loop-h-smaller c = omega (arith, one_found c.in-Ok.ensures)

pub loop-h-preserved : goal.loop-h-preserved
loop-h-preserved c =
    let one = one_found c.in-Ok.ensures in (
      omega (arith, one, c.loop-h.invariant.0),
      c.loop-h.invariant.1
          ∙ next-item _ _ c.loop-h.q c.loop-h.i _ one c.label_at_equals.ensures
          (elim c.if-label_at_equals.branch [ then-label_at_equals w ↦ inl (w.if-label_at_equals.true, ap best_by w.b-is ∙ w.consider_item-b.ensures) | else-label_at_equals w ↦ inr (w.if-label_at_equals.false, ap best_by w.b-is) ]),
    )
