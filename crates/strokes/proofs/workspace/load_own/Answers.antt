use native.Mathlib.Omega.{arith}
use Rattle.strokes.specs.Laws.Loading.{own_short, ring-short, own_full, own_loaded}
use Rattle.strokes.proofs.workspace.load_own.Goals as goal

pub returns-in_default : goal.returns-in_default
returns-in_default c w m one small = own_short _ (rw c.in_default.is at one)

pub returns-in_default-close_if : goal.returns-in_default-close_if
returns-in_default-close_if c w m one small = ring-short _ (rw c.in-Ok.is at one) c.in_default-close_if.ensures

pub returns-then-work-ring-lt2 : goal.returns-then-work-ring-lt2
returns-then-work-ring-lt2 c w m one small = own_full _ (rw c.in-Ok.is at one) c.in-Ok-close_if.ensures (omega arith)

pub returns : goal.returns
returns c w m one small = own_loaded _ (rw c.in-Ok.is at one) c.in-Ok-close_if.ensures small (omega arith)
