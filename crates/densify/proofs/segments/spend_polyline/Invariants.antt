use Rattle.std.proofs.Common.{◌≡◌, ◌+◌, ◌*◌}
use Rattle.densify.specs.Densify.{segments_of}
use Rattle.values.specs.Inner.Points.{point_in, points_in}
use Rattle.densify.proofs.segments.spend_polyline.Given as goal

-- the segments from here leave what all of them leave
abbrev pub invariant-loop-k : goal.invariant-loop-k
invariant-loop-k l =
    (segments_of l.step l.scale (point_in l.initial.a) (points_in l.work (l.from + 2) l.to) l.initial.left).after
    ≡ (segments_of l.step l.scale (point_in l.a) (points_in l.work (l.from + 2 * l.k) l.to) l.left).after
