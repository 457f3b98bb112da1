use Rattle.std.proofs.Common.{◌+◌, ◌-◌, ◌*◌, ◌≤◌, length}
use Rattle.stream.specs.Payload.{payload}
use Rattle.scene.specs.Scene.{cubics_at}
use Rattle.densify.specs.Densify.{cubics_of}
use Rattle.values.specs.Inner.Points.{point_in}
use Rattle.densify.specs.Laws.Writing.{Leads}
use Rattle.densify.proofs.paths.flatten_cubics.Given as goal

-- the first i cubics are written, and the last of them ended at `p0`
abbrev pub invariant-loop-i : goal.invariant-loop-i
invariant-loop-i l =
    (l.done.at ≤ length l.work)
    × Leads l.initial.work l.at (cubics_of l.tol (point_in l.initial.p0) (cubics_at (payload l.s) l.from l.count) l.initial.done.budget) l.work l.done.at
    (cubics_of l.tol (point_in l.p0) (cubics_at (payload l.s) (l.from + 48 * l.i) (l.count - l.i)) l.done.budget)
