use Rattle.std.proofs.Common.{arith}
use Rattle.densify.specs.Laws.Closing.{closed_done, closed_short}
use Rattle.densify.proofs.Outlines.{granted-most, quarter-most, box_sharp, box-rounded}
use Rattle.densify.proofs.Exits.{none_written}
use Rattle.densify.proofs.rings.box_ring.Goals as goal

pub returns-in_err-d : goal.returns-in_err-d
returns-in_err-d c =
    rw (none_written c.from_residual.result c.from_residual.ensures.0, box_sharp _ _ _ _ _ _ _ _ c.radius_of-r.ensures c.if-r.true) (closed_short (rw c.take-t.ensures at c.in_err-d.ensures))

pub returns-then-r : goal.returns-then-r
returns-then-r c =
    let one = c.in_ok-d.ensures in
    rw (box_sharp _ _ _ _ _ _ _ _ c.radius_of-r.ensures c.if-r.true) (closed_done (rw c.take-t.ensures at one) (rw one.left c.close_ring.ensures))

pub overflow_mul-quarter_of : goal.overflow_mul-quarter_of
overflow_mul-quarter_of c = let a = c.args in omega (arith, c.quarter_of.ensures, quarter-most a.step a.scale c.radius_of-r.result a.tol)

pub rounded_corners-requires : goal.rounded_corners-requires
rounded_corners-requires c =
    let drawn = rw c.quarter_of.ensures at c.take-t-2.ensures in
    let a = c.args in
    (omega (arith, quarter-most a.step a.scale c.radius_of-r.result a.tol, granted-most a.budget _ 8 drawn), c.requires)

pub returns-in_err-d-2 : goal.returns-in_err-d-2
returns-in_err-d-2 c =
    let drawn = rw c.quarter_of.ensures at c.take-t-2.ensures in
    rw (none_written c.from_residual-in_err-d-2.result c.from_residual-in_err-d-2.ensures.0, box-rounded _ _ _ _ _ _ _ _ c.radius_of-r.ensures c.if-r.false) (closed_short (rw drawn at c.in_err-d-2.ensures))

pub returns : goal.returns
returns c =
    let drawn = rw c.quarter_of.ensures at c.take-t-2.ensures in
    let one = c.in_ok-d-2.ensures in
    rw (box-rounded _ _ _ _ _ _ _ _ c.radius_of-r.ensures c.if-r.false) (closed_done (rw drawn at one) (rw one.left c.close_ring-2.ensures))
