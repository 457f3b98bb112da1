use borrow.Author.Tests.{not-true, not-false}
use Rattle.stream.specs.Payload.{payload}
use Rattle.densify.proofs.Forms.{form_line, curve-short, curve-done}
use Rattle.densify.proofs.Exits.{none_written}
use Rattle.densify.proofs.paths.form_points.Goals as goal

pub returns-then-not-p : goal.returns-then-not-p
returns-then-not-p c = let s = c.args in
    rw (form_line (payload s.s.now) s.p s.tol s.budget (not-true _ c.if-not-p.true)) c.copy_points.ensures

pub returns-in_err-d : goal.returns-in_err-d
returns-in_err-d c = let s = c.args in
    rw (none_written c.from_residual.result c.from_residual.ensures.0) (curve-short (payload s.s.now) s.p s.tol s.budget (not-false _ c.if-not-p.false) c.point_at-start.ensures c.in_err-d.ensures)

pub returns : goal.returns
returns c = let s = c.args in
    curve-done (payload s.s.now) s.p s.tol s.budget (not-false _ c.if-not-p.false) c.point_at-start.ensures c.in_ok-d.ensures c.flatten_cubics.ensures
