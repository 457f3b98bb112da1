use borrow.Author.Tests.{not-true, not-false}
use Rattle.densify.specs.Densify.{path_points_of}
use Rattle.densify.specs.Laws.Closing.{closed_done}
use Rattle.densify.proofs.Forms.{path-short}
use Rattle.densify.proofs.Exits.{none_written}
use Rattle.densify.proofs.paths.path_points.Goals as goal

pub returns-in_err-d : goal.returns-in_err-d
unfolding path_points_of
returns-in_err-d c = rw (none_written c.from_residual.result c.from_residual.ensures.0) (path-short c.args.p.closed c.in_err-d.ensures)

pub returns-then-not-p : goal.returns-then-not-p
unfolding path_points_of
returns-then-not-p c = rw (not-true c.args.p.closed c.if-not-p.true) c.in_ok-d.ensures

pub returns : goal.returns
unfolding path_points_of
returns c = rw (not-false c.args.p.closed c.if-not-p.false) (closed_done c.in_ok-d.ensures c.close_ring.ensures)
