use Rattle.densify.specs.Laws.Writing.{written_none}
use Rattle.strokes.proofs.workspace.close_if.Goals as goal

pub returns-then-closed : goal.returns-then-closed
returns-then-closed c = rw c.if-closed.true c.close_ring.ensures

pub returns-else-closed : goal.returns-else-closed
returns-else-closed c = let a = c.args in
    rw c.if-closed.false (written_none a.work.now a.own.at a.own.budget c.requires)
