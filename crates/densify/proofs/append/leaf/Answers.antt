use Rattle.std.proofs.Common.{◌≡◌, not, ◌&&◌, ◌||◌, ltb, refl, arith}
use Rattle.densify.specs.Densify.{leaf_of}
use Rattle.densify.specs.Laws.Writing.{written_as}
use Rattle.densify.proofs.append.leaf.Goals as goal
use Rattle.densify.proofs.append.leaf.Goals.{then-not-flat, else-not-flat, then-budget, else-budget}

pub returns : goal.returns
unfolding leaf_of
returns c =
    let cut : c.if-not-flat.cut ≡ not c.args.flat && ltb c.args.budget.left 2 =
    elim c.if-not-flat.branch [ then-not-flat w ↦ grind arith | else-not-flat w ↦ grind arith ] in
    let marked : c.if-budget.marked ≡ c.args.budget.hit || (not c.args.flat && ltb c.args.budget.left 2) =
    elim c.if-budget.branch [ then-budget w ↦ grind arith | else-budget w ↦ grind arith ] in
    written_as _ _ refl (rw (c.take.ensures, marked)) c.put_point.ensures
