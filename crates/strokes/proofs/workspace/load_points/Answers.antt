use Rattle.std.specs.Prelude.{None, Ok}
use borrow.Author.Rules.{rules}
use Rattle.std.proofs.lemmas.Result.{err_from_is_err_and}
use Rattle.stream.specs.Payload.{payload}
use Rattle.scene.specs.Scene.{points_at}
use Rattle.densify.specs.Densify.{without_draws}
use Rattle.strokes.specs.Inner.Space.{Loads, Small}
use Rattle.strokes.specs.Laws.Loading.{end_in, loads_more, points_small}
use Rattle.strokes.proofs.workspace.load_points.Goals as goal

pub returns-in_err-l : goal.returns-in_err-l
returns-in_err-l c =
    let a = c.args in
    let small : Small (without_draws (points_at (payload a.s.now) a.points.at a.points.count) a.budget) = points_small _ _ _ _ (search rules) c.requires.2 in
    let failed = err_from_is_err_and c.from_residual.result c.from_residual.ensures.1 in
    rw (failed.1, failed.2) (loads_more (c.in_err-l.ensures _ _ (rw c.from.ensures at c.copy_points-d.ensures) small) _ _)

pub copy_points-d-requires-in-Some : goal.copy_points-d-requires-in-Some
copy_points-d-requires-in-Some c =
    let a = c.args in
    let small : Small (without_draws (points_at (payload a.s.now) a.points.at a.points.count) a.budget) = points_small _ _ _ _ (search rules) c.requires.2 in
    (rw c.from-in-Some.ensures (c.requires.1 _ c.in-Some.is), end_in (c.in_ok-l.ensures _ _ (rw c.from.ensures at c.copy_points-d.ensures) small))

pub returns-in-Some : goal.returns-in-Some
returns-in-Some c =
    let a = c.args in
    let l = payload a.s.now in
    let small : Small (without_draws (points_at l a.points.at a.points.count) a.budget) = points_small _ _ _ _ (search rules) c.requires.2 in
    let outline-small : Small (without_draws (points_at l c.in-Some.o.at c.in-Some.o.count) a.budget) = points_small _ _ _ _ (search rules) c.requires.2 in
    let own : Loads a.work.now c.load_own.new.work a.closed (points_at l a.points.at a.points.count) None a.budget (Ok c.in_ok-l.l) =
    c.in_ok-l.ensures _ _ (rw c.from.ensures at c.copy_points-d.ensures) small in
    rw c.in-Some.is (c.load_outline.ensures _ _ _ _ _ _ own small.few (rw c.from-in-Some.ensures at c.copy_points-d-in-Some.ensures) outline-small)

pub returns-in-None : goal.returns-in-None
returns-in-None c =
    let a = c.args in
    let small : Small (without_draws (points_at (payload a.s.now) a.points.at a.points.count) a.budget) = points_small _ _ _ _ (search rules) c.requires.2 in
    rw c.in-None.is (c.in_ok-l.ensures _ _ (rw c.from.ensures at c.copy_points-d.ensures) small)
