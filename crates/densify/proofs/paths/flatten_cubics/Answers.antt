use Rattle.std.proofs.Common.{arith}
use Rattle.densify.specs.Laws.Writing.{next_in}
use Rattle.densify.proofs.Points.{cubics-short, cubics-next, cubics_end}
use Rattle.densify.proofs.Exits.{none_written}
use Rattle.densify.proofs.paths.flatten_cubics.Goals as goal

pub returns-in_err-done : goal.returns-in_err-done
returns-in_err-done c =
    rw (none_written c.from_residual.result c.from_residual.ensures.0)
    (cubics-short _ _ _ _ _ _ _ c.loop-i.invariant.1 _ _ _ c.loop-i-test.true c.point_at-c1.ensures c.point_at-c2.ensures c.point_at-end.ensures c.in_err-done.ensures)

pub loop-i-preserved : goal.loop-i-preserved
loop-i-preserved c = (
  next_in c.in_ok-done.ensures,
  cubics-next _ _ _ _ _ _ _ c.loop-i.invariant.1 _ _ _ c.loop-i-test.true c.point_at-c1.ensures c.point_at-c2.ensures c.point_at-end.ensures c.in_ok-done.ensures,
)

pub returns : goal.returns
returns c = cubics_end _ _ _ _ _ _ _ c.loop-i.invariant.1 (omega arith) c.loop-i.invariant.0
