use Rattle.std.proofs.Common.{◌≡◌, ◌+◌, ◌≤◌, [], ◌∷◌, arith}
use Rattle.densify.specs.Inner.Written.{closing_in}
use Rattle.values.specs.Points.{point_of}
use Rattle.densify.specs.Laws.Writing.{written_none}
use Rattle.densify.specs.Laws.Closing.{closing_few, closing_same, closing_open_x, closing_open_y}
use Rattle.densify.proofs.append.close_ring.Goals as goal
use Rattle.densify.proofs.append.close_ring.Goals.{else-x-work-via-then-x-work+else-y-work, else-x-work-via-else-x-work}

pub returns-then-at-from-lt2 : goal.returns-then-at-from-lt2
returns-then-at-from-lt2 c = rw (closing_few c.args.work.now c.args.from c.args.at (omega arith)) (written_none _ _ _ (omega arith))

pub returns-then-y-work : goal.returns-then-y-work
returns-then-y-work c = rw (closing_same c.args.work.now c.args.from c.args.at (omega arith) c.if-x-work.true c.if-y-work.true) (written_none _ _ _ (omega arith))

pub returns : goal.returns
returns c = let w = c.args.work.now in
    let from = c.args.from in
    let at = c.args.at in
    let some : from + 2 ≤ at = omega arith in
    let ends : closing_in w from at ≡ point_of w from ∷ [] =
    elim c.else-x-work.branch [
      | else-x-work-via-then-x-work+else-y-work t ↦ closing_open_y w from at some t.if-x-work.true t.if-y-work.false
      | else-x-work-via-else-x-work t ↦ closing_open_x w from at some t.if-x-work.false
    ] in
    rw ends c.put_point.ensures
