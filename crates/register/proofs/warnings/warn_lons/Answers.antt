use mathlib.Core.Path.{refl, ◌∙◌}
use native.Mathlib.Omega.{arith}
use Rattle.std.proofs.lemmas.Result.{err_from_is_err_and}
use Rattle.scene.specs.Laws.Rising.{variables_rising}
use Rattle.register.proofs.WarningLaws.{warning_loop, all_variables, lon_fits, lon_control, lon_shut, lon_warned}
use Rattle.register.proofs.warnings.warn_lons.Goals as goal
use Rattle.register.proofs.warnings.warn_lons.Goals.{then-is_kept, else-is_kept+in_ok-used}

pub loop-m-init : goal.loop-m-init
loop-m-init c = rw c.first_cursor-c.ensures (warning_loop _ _ _ _ c.requires.2 c.requires.0.surveyed.variables_start (variables_rising _ c.requires.0.laid_out_is) c.requires.1.left)

pub overflow_add-k : goal.overflow_add-k
overflow_add-k c = omega (arith, lon_fits c.loop-m.invariant c.in-Ok.m c.in-Ok.ensures c.is_kept.ensures c.if-is_kept.true)

pub returns-in_err-used : goal.returns-in_err-used
returns-in_err-used c =
    let p = err_from_is_err_and c.from_residual.result c.from_residual.ensures.1 in
    rw (p.1, p.2)
    (lon_shut c.loop-m.invariant c.in-Ok.m c.in-Ok.ensures c.is_kept.ensures c.requires.1.resolved_names c.if-is_kept.false (c.number.ensures ∙ c.kind_of.ensures) _ _ c.in_err-used.ensures refl)

pub loop-m-preserved : goal.loop-m-preserved
loop-m-preserved c =
    let d = c.loop-m.invariant in
    elim c.if-is_kept.branch [
      | then-is_kept w ↦ rw (w.out-is, w.used-is, w.k-is) (lon_control d c.in-Ok.m c.in-Ok.ensures c.is_kept.ensures w.if-is_kept.true)
      | else-is_kept+in_ok-used w ↦ rw (w.out-is, w.used-is, w.k-is) (lon_warned d c.in-Ok.m c.in-Ok.ensures c.is_kept.ensures c.requires.1.resolved_names w.if-is_kept.false (w.number.ensures ∙ w.kind_of.ensures) _ _ w.in_ok-used.ensures refl)
    ]

pub returns : goal.returns
returns c = all_variables c.loop-m.invariant c.in_default.ensures
