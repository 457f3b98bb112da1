use Rattle.densify.specs.Densify.{rounded_corners}
use Rattle.densify.specs.Laws.Rounds.{runs_short, runs_done}
use Rattle.densify.proofs.Exits.{none_written}
use Rattle.densify.proofs.rings.rounded_corners.Goals as goal

pub returns-in_err-d : goal.returns-in_err-d
unfolding rounded_corners
returns-in_err-d c = rw (none_written c.from_residual.result c.from_residual.ensures.0) (runs_short _ _ c.in_err-d.ensures)

pub returns-in_err-d-2 : goal.returns-in_err-d-2
unfolding rounded_corners
returns-in_err-d-2 c = rw (none_written c.from_residual-in_err-d-2.result c.from_residual-in_err-d-2.ensures.0) (runs_done _ _ c.in_ok-d.ensures (runs_short _ _ c.in_err-d-2.ensures))

pub returns-in_err-d-3 : goal.returns-in_err-d-3
unfolding rounded_corners
returns-in_err-d-3 c =
    rw (none_written c.from_residual-in_err-d-3.result c.from_residual-in_err-d-3.ensures.0) (runs_done _ _ c.in_ok-d.ensures (runs_done _ _ c.in_ok-d-2.ensures (runs_short _ _ c.in_err-d-3.ensures)))

pub returns : goal.returns
unfolding rounded_corners
returns c = runs_done _ _ c.in_ok-d.ensures (runs_done _ _ c.in_ok-d-2.ensures (runs_done _ _ c.in_ok-d-3.ensures c.corner-4.ensures))
