use mathlib.Core.Path.{refl, sym, ap, ◌∙◌}
use mathlib.Core.Logic.{inl, inr}
use mathlib.Core.List.{map}
use native.Mathlib.Omega.{arith}
use Rattle.records.specs.Laws.Search.{standing_tells}
use Rattle.scene.specs.Scene.{place_at, item_at}
use Rattle.scene.specs.Inner.Answers.{best_by}
use Rattle.scene.specs.Laws.Found.{one_found, beyond, named}
use Rattle.scene.specs.Laws.Folds.{no_place, next_place}
use Rattle.scene.proofs.labels.best_place.Goals as goal
use Rattle.scene.proofs.labels.best_place.Goals.{then-name_at_equals, else-name_at_equals}

pub returns-in-Err : goal.returns-in-Err
returns-in-Err c = record {
  best_value = sym (no_place _ c.loop-h.i _ (ap (map place_at) c.in-Err.ensures.key_value)) ∙ sym c.loop-h.invariant.2;
  p_value = c.loop-h.invariant.1 ∙ ap (map item_at) (c.in-Err.ensures.skips_to 6 0 (omega arith) (omega arith));
}

pub overflow_add-h : goal.overflow_add-h
overflow_add-h c = let one = one_found c.in-Ok.ensures in omega (arith, named one (standing_tells one.stands) refl, one.fits)

pub name_at_equals-requires : goal.name_at_equals-requires
name_at_equals-requires c = let one = one_found c.in-Ok.ensures in (omega (arith, named one (standing_tells one.stands) refl, one.fits), c.requires)

pub overflow_add-i : goal.overflow_add-i
overflow_add-i c = omega (arith, one_found c.in-Ok.ensures, c.loop-h.invariant.0)

pub loop-h-smaller : goal.loop-h-smaller
loop-h-smaller c = omega (arith, one_found c.in-Ok.ensures)

pub loop-h-preserved : goal.loop-h-preserved
loop-h-preserved c =
    let one = one_found c.in-Ok.ensures in (
      omega (arith, one, c.loop-h.invariant.0),
      c.loop-h.invariant.1 ∙ ap (map item_at) (beyond one c.in-Ok.ensures.skips_to 6 0 (omega arith) (omega arith)),
      c.loop-h.invariant.2
          ∙ next_place _ _ c.loop-h.q c.loop-h.i _ one c.name_at_equals.ensures
          (elim c.if-name_at_equals.branch [ then-name_at_equals w ↦ inl (w.if-name_at_equals.true, ap best_by w.b-is ∙ w.consider_place-b.ensures) | else-name_at_equals w ↦ inr (w.if-name_at_equals.false, ap best_by w.b-is) ]),
    )
