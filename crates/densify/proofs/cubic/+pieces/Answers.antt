use Rattle.std.proofs.Common.{◌≡◌, ◌+◌, ◌-◌, sym, ◌∙◌}
use Rattle.densify.specs.Densify.{second_half, flat_of, leaf_of, split_of}
use Rattle.densify.specs.Inner.Written.{block_in}
use Rattle.densify.specs.Laws.Writing.{join_short, join_done}
use Rattle.densify.proofs.Splits.{ends_deep, ends_flat, ends_left, halved}
use Rattle.densify.proofs.Exits.{none_written}
use Rattle.densify.proofs.cubic.+pieces.Goals as goal
use Rattle.densify.proofs.cubic.+pieces.Goals.{then-depth-ge-DEPTH-via-then-depth-ge-DEPTH, then-depth-ge-DEPTH-via-else-depth-ge-DEPTH+then-flat, then-depth-ge-DEPTH-via-else-depth-ge-DEPTH+else-flat+then-budget-lt2}

pub returns-then-depth-ge-DEPTH : goal.returns-then-depth-ge-DEPTH
returns-then-depth-ge-DEPTH t c =
    let a = c.args in
    let b = block_in a.b in
    let f = c.is_flat-flat.ensures in
    let ends : split_of (16 - a.depth) a.tol b a.budget ≡ leaf_of (flat_of a.tol b) b.p3 a.budget =
    elim c.then-depth-ge-DEPTH.branch [
      | then-depth-ge-DEPTH-via-then-depth-ge-DEPTH w ↦ ends_deep a.tol b a.budget a.depth w.if-depth-ge-DEPTH.true
      | then-depth-ge-DEPTH-via-else-depth-ge-DEPTH+then-flat w ↦ ends_flat a.tol b a.budget (16 - a.depth) (sym f ∙ w.if-flat.true)
      | then-depth-ge-DEPTH-via-else-depth-ge-DEPTH+else-flat+then-budget-lt2 w ↦ ends_left a.tol b a.budget (16 - a.depth) (sym f ∙ w.if-flat.false) w.if-budget-lt2.true
    ] in
    rw (ends, ← f) c.leaf.ensures

pub returns-in_err-one : goal.returns-in_err-one
returns-in_err-one t c =
    let a = c.args in
    let both = halved a.tol (block_in a.b) a.budget a.depth c.if-depth-ge-DEPTH.false (sym c.is_flat-flat.ensures ∙ c.if-flat.false) c.if-budget-lt2.false in
    rw (none_written c.from_residual.result c.from_residual.ensures.0, both) (join_short (rw c.halves.ensures.0 at c.in_err-one.ensures) (split_of (16 - (a.depth + 1)) a.tol (second_half (block_in a.b))))

pub returns : goal.returns
returns t c =
    let a = c.args in
    let both = halved a.tol (block_in a.b) a.budget a.depth c.if-depth-ge-DEPTH.false (sym c.is_flat-flat.ensures ∙ c.if-flat.false) c.if-budget-lt2.false in
    rw both (join_done (rw c.halves.ensures.0 at c.in_ok-one.ensures) (split_of (16 - (a.depth + 1)) a.tol (second_half (block_in a.b))) (rw c.halves.ensures.1 at c.pieces-2.ensures))
