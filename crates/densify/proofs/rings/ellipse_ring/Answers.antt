use Rattle.std.proofs.Common.{arith}
use Rattle.float.specs.Functions.{max_of}
use Rattle.densify.specs.Densify.{ellipse_ring_of}
use Rattle.densify.specs.Laws.Counts.{arc_within}
use Rattle.densify.specs.Laws.Closing.{closed_done, closed_short}
use Rattle.densify.proofs.Outlines.{granted-most}
use Rattle.densify.proofs.Exits.{none_written}
use Rattle.densify.proofs.rings.ellipse_ring.Goals as goal

pub ellipse_points-requires : goal.ellipse_points-requires
ellipse_points-requires c =
    let drawn = rw (c.arc_vertices.ensures, c.max.ensures) at c.take-t.ensures in
    let a = c.args in
    (omega (arith, arc_within a.step a.scale (max_of a.rx a.ry) a.tol, granted-most a.budget _ 8 drawn), c.requires)

pub returns-in_err-d : goal.returns-in_err-d
unfolding ellipse_ring_of
returns-in_err-d c =
    let drawn = rw (c.arc_vertices.ensures, c.max.ensures) at c.take-t.ensures in
    rw (none_written c.from_residual.result c.from_residual.ensures.0) (closed_short (rw drawn at c.in_err-d.ensures))

pub returns : goal.returns
unfolding ellipse_ring_of
returns c =
    let drawn = rw (c.arc_vertices.ensures, c.max.ensures) at c.take-t.ensures in
    let one = c.in_ok-d.ensures in
    closed_done (rw drawn at one) (rw one.left c.close_ring.ensures)
