use Rattle.std.specs.Prelude.{Some, None, [], ◌∷◌}
use Rattle.values.specs.declared.Point.{Point}
use Rattle.densify.specs.Densify.{without_draws}
use Rattle.densify.specs.Inner.Written.{Written}
use Rattle.projection.specs.Projection.{project_point}
use Rattle.densify.specs.Laws.Writing.{no_room, written_room}
use Rattle.projection.specs.Laws.Passes.{placed_is}
use Rattle.std.proofs.lemmas.Result.{err_from_is_err_and}
use Rattle.strokes.specs.Strokes.{point_of}
use Rattle.strokes.specs.Laws.Applying.{applied_refused}
use Rattle.strokes.specs.Laws.Events.{written_lacks, written_finished}
use Rattle.strokes.proofs.positions.point_feature.Goals as goal

pub returns-in_err-st : goal.returns-in_err-st
returns-in_err-st c =
    let failed = err_from_is_err_and c.from_residual.result c.from_residual.ensures.1 in
    rw (failed.1, failed.2, c.in_err-st.was) (λ w v h. applied_refused _ _)

pub returns-in_default : goal.returns-in_default
unfolding point_of
returns-in_default c =
    let s = c.args in
    let p : Point = record { x = s.x; y = s.y } in
    let none : Written s.positions.now c.put_point.new.work c.in_ok-st.st.positions (without_draws (project_point s.cx.projection p ∷ []) c.in_ok-st.st.budget) None =
    rw (placed_is s.cx.projection p c.geo-g.ensures) at c.in_default.ensures in
    rw c.in_ok-st.was (λ w v h. written_lacks _ 0 0 _ _ w h none.kept (no_room none))

pub returns : goal.returns
unfolding point_of
returns c =
    let s = c.args in
    let p : Point = record { x = s.x; y = s.y } in
    let one : Written s.positions.now c.put_point.new.work c.in_ok-st.st.positions (without_draws (project_point s.cx.projection p ∷ []) c.in_ok-st.st.budget) (Some c.in-Ok.d) =
    rw (placed_is s.cx.projection p c.geo-g.ensures) at c.in-Ok.ensures in
    rw c.in_ok-st.was (λ w v h. written_finished _ 0 0 _ _ w h (written_room one) one.holds h.left (rw one.next at c.finish.ensures))
