use lib.ListN.{length-take}
use native.Mathlib.Omega.{arith}
use Rattle.std.proofs.lemmas.Result.{err_from_is_err_and}
use Rattle.stream.specs.Payload.{payload}
use Rattle.scene.specs.Scene.{scene_of}
use Rattle.register.specs.Register.{register_warnings, view_warnings, half_warnings}
use Rattle.register.specs.Laws.Kept.{controls_fit}
use Rattle.register.proofs.PushedWarnings.{both_written, first_shut}
use Rattle.register.proofs.warnings.write_warnings.Goals as goal

pub returns-in_err-used : goal.returns-in_err-used
unfolding register_warnings view_warnings
returns-in_err-used c =
    let p = err_from_is_err_and c.from_residual.result c.from_residual.ensures.1 in
    rw (p.1, p.2, ← c.ignores_view_scale.ensures _ c.requires.0.surveyed.declares) (first_shut _ c.in_err-used.ensures).written

pub slice_bounds-warn_names-end : goal.slice_bounds-warn_names-end
slice_bounds-warn_names-end c = omega (arith, length-take c.args.n c.args.kept.now, controls_fit c.requires.1)

pub returns-in_err-used-2 : goal.returns-in_err-used-2
unfolding register_warnings view_warnings
returns-in_err-used-2 c =
    let p = err_from_is_err_and c.from_residual-in_err-used-2.result c.from_residual-in_err-used-2.ensures.1 in
    rw (p.1, p.2, ← c.ignores_view_scale.ensures _ c.requires.0.surveyed.declares) (both_written c.in_ok-used.ensures (first_shut _ c.in_err-used-2.ensures)).written

pub returns-in_err-used-3 : goal.returns-in_err-used-3
unfolding register_warnings view_warnings half_warnings
returns-in_err-used-3 c =
    let x = c.requires.0.surveyed.declares in
    let p = err_from_is_err_and c.from_residual-in_err-used-3.result c.from_residual-in_err-used-3.ensures.1 in
    rw (p.1, p.2, ← c.ignores_view_scale.ensures _ x, ← x.half) (both_written c.in_ok-used.ensures (both_written c.in_ok-used-2.ensures (first_shut _ c.in_err-used-3.ensures))).written

pub returns : goal.returns
unfolding register_warnings view_warnings half_warnings
returns c =
    let x = c.requires.0.surveyed.declares in
    rw (← c.ignores_view_scale.ensures _ x, ← x.half, ← c.requires.1.count) (both_written c.in_ok-used.ensures (both_written c.in_ok-used-2.ensures (both_written c.in_ok-used-3.ensures (c.warn_ignored.ensures (scene_of (payload c.args.s.now)) x)))).written
