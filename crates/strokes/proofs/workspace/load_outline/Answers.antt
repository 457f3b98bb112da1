use native.Mathlib.Omega.{arith}
use Rattle.densify.specs.Laws.Closing.{closed_done}
use Rattle.strokes.specs.Laws.Loading.{outline_short, closing-short, outline_full, outline_loaded}
use Rattle.strokes.proofs.workspace.load_outline.Goals as goal

pub returns-in_default : goal.returns-in_default
returns-in_default c w w₁ closed ps b m own few one small = outline_short own m (rw c.in_default.is at one)

pub returns-in_default-close_ring : goal.returns-in_default-close_ring
returns-in_default-close_ring c w w₁ closed ps b m own few one small =
    closing-short own m (closed_done (rw c.in-Ok.is at one) c.in_default-close_ring.ensures)

pub returns-then-work-ring-lt2 : goal.returns-then-work-ring-lt2
returns-then-work-ring-lt2 c w w₁ closed ps b m own few one small =
    outline_full own m (closed_done (rw c.in-Ok.is at one) c.in-Ok-close_ring.ensures) (omega arith)

pub returns : goal.returns
returns c w w₁ closed ps b m own few one small =
    let there = rw c.in-Ok.is at one in
    outline_loaded own m (closed_done there c.in-Ok-close_ring.ensures) few small there.left (omega arith)
