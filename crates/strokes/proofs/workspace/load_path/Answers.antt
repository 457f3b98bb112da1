use Rattle.std.specs.Prelude.{None, Some, Ok}
use borrow.Author.Rules.{rules}
use Rattle.std.proofs.lemmas.Result.{err_from_is_err_and}
use Rattle.stream.specs.Payload.{payload}
use Rattle.densify.specs.Densify.{path_points_of}
use Rattle.densify.specs.Inner.Written.{drawn_by}
use Rattle.strokes.specs.Inner.Space.{outline_by, LoadsPath, Small}
use Rattle.strokes.specs.Laws.Loading.{end_in, path-short, path_small}
use Rattle.strokes.proofs.workspace.load_path.Goals as goal

pub returns-in_err-l : goal.returns-in_err-l
returns-in_err-l c =
    let a = c.args in
    let l = payload a.s.now in
    let small : Small (path_points_of a.tol (drawn_by l a.path) a.budget) = path_small _ _ a.path _ (search rules) c.requires.2 in
    let failed = err_from_is_err_and c.from_residual.result c.from_residual.ensures.1 in
    rw (failed.1, failed.2) (path-short a.tol (drawn_by l a.path) a.budget (c.in_err-l.ensures _ _ c.path_points-d.ensures small) (outline_by l a.outline))

pub path_points-d-requires-in-Some : goal.path_points-d-requires-in-Some
path_points-d-requires-in-Some c =
    let a = c.args in
    let small : Small (path_points_of a.tol (drawn_by (payload a.s.now) a.path) a.budget) = path_small _ _ a.path _ (search rules) c.requires.2 in
    (c.requires.1 _ c.in-Some.is, end_in (c.in_ok-l.ensures _ _ c.path_points-d.ensures small))

pub returns-in-Some : goal.returns-in-Some
returns-in-Some c =
    let a = c.args in
    let l = payload a.s.now in
    let small : Small (path_points_of a.tol (drawn_by l a.path) a.budget) = path_small _ _ a.path _ (search rules) c.requires.2 in
    let own : LoadsPath a.work.now c.load_own.new.work a.tol (drawn_by l a.path) None a.budget (Ok c.in_ok-l.l) = c.in_ok-l.ensures _ _ c.path_points-d.ensures small in
    let whole : LoadsPath a.work.now c.load_outline.new.work a.tol (drawn_by l a.path) (Some (drawn_by l c.in-Some.o)) a.budget c.load_outline.result =
    c.load_outline.ensures _ _ _ _ _ _ own small.few (rw own.after at c.path_points-d-in-Some.ensures) (path_small _ _ c.in-Some.o _ (search rules) small.left) in
    rw c.in-Some.is whole

pub returns-in-None : goal.returns-in-None
returns-in-None c =
    let a = c.args in
    let small : Small (path_points_of a.tol (drawn_by (payload a.s.now) a.path) a.budget) = path_small _ _ a.path _ (search rules) c.requires.2 in
    let own : LoadsPath a.work.now c.load_own.new.work a.tol (drawn_by (payload a.s.now) a.path) None a.budget (Ok c.in_ok-l.l) =
    c.in_ok-l.ensures _ _ c.path_points-d.ensures small in
    rw c.in-None.is own
