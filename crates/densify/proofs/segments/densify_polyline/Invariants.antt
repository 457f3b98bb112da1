use Rattle.std.proofs.Common.{◌+◌, ◌*◌, ◌≤◌, length}
use Rattle.densify.specs.Densify.{segments_of}
use Rattle.values.specs.Inner.Points.{point_in, points_in}
use Rattle.densify.specs.Laws.Writing.{Leads}
use Rattle.densify.proofs.segments.densify_polyline.Given as goal

-- what is written since the loop began, with what is left, is all segments
abbrev pub invariant-loop-k : goal.invariant-loop-k
invariant-loop-k l =
    (l.done.at ≤ length l.out)
    × Leads l.initial.out l.initial.done.at (segments_of l.step l.scale (point_in l.initial.a) (points_in l.work (l.from + 2) l.to) l.initial.done.budget)
    l.out l.done.at (segments_of l.step l.scale (point_in l.a) (points_in l.work (l.from + 2 * l.k) l.to) l.done.budget)
