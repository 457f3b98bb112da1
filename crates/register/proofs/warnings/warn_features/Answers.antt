use mathlib.Core.Path.{refl}
use native.Mathlib.Omega.{arith}
use Rattle.std.proofs.lemmas.Result.{err_from_is_err_and}
use Rattle.register.proofs.WarningLaws.{none_told, all_told, one_fits, one_control, none_more, one-warned}
use Rattle.register.proofs.warnings.warn_features.Goals as goal
use Rattle.register.proofs.warnings.warn_features.Goals.{then-is_kept, else-is_kept+in_ok-used}

pub loop-f-init : goal.loop-f-init
loop-f-init c = none_told _ _ _ _ _ c.requires.2 c.requires.0.sized c.requires.1

pub bounds-positions-controls : goal.bounds-positions-controls
bounds-positions-controls c = omega (arith, one_fits c.loop-f.invariant c.in-Ok.f c.in-Ok.ensures.p_value c.in-Ok.ensures.within c.is_kept.ensures c.if-is_kept.true, c.requires.1.few, c.loop-f.invariant.sized)

pub returns-in_err-used-clause-warned : goal.returns-in_err-used-clause-warned
returns-in_err-used-clause-warned c =
    let p = err_from_is_err_and c.from_residual.result c.from_residual.ensures.1 in
    rw (p.1, p.2) (none_more c.loop-f.invariant c.in-Ok.f c.in-Ok.ensures.p_value c.in-Ok.ensures.within c.is_kept.ensures c.if-is_kept.false _ _ (rw c.number.ensures at c.in_err-used.ensures) refl)

pub loop-f-preserved : goal.loop-f-preserved
loop-f-preserved c =
    let d = c.loop-f.invariant in
    let e = c.in-Ok.ensures in
    elim c.if-is_kept.branch [
      | then-is_kept w ↦ rw (w.positions-is, w.out-is, w.used-is, w.controls-is) (one_control d c.in-Ok.f e.p_value e.within c.is_kept.ensures c.requires.1.few e.length_prefixed w.if-is_kept.true)
      | else-is_kept+in_ok-used w ↦ rw (w.positions-is, w.out-is, w.used-is, w.controls-is) (one-warned d c.in-Ok.f e.p_value e.within c.is_kept.ensures w.if-is_kept.false _ _ (rw w.number.ensures at w.in_ok-used.ensures) refl)
    ]

pub returns-clause-warned : goal.returns-clause-warned
returns-clause-warned c = (all_told c.loop-f.invariant c.in_default.ensures.p_value (omega (arith, c.loop-f.invariant.few, c.requires.1.few))).0

pub returns-clause-after : goal.returns-clause-after
returns-clause-after c = let made = all_told c.loop-f.invariant c.in_default.ensures.p_value (omega (arith, c.loop-f.invariant.few, c.requires.1.few)) in (made.1, made.2)
