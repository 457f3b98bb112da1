use Rattle.std.proofs.Common.{◌≡◌, ◌+◌, ◌*◌, ◌<◌, ◌≤◌, ◌∙◌, arith}
use Rattle.values.specs.Inner.Points.{point_in}
use Rattle.densify.specs.Laws.Segments.{polyline-none, polyline-first, segments_none, spent-next}
use Rattle.densify.proofs.segments.spend_polyline.Goals as goal

pub returns-then-to-from-lt2 : goal.returns-then-to-from-lt2
returns-then-to-from-lt2 c = let h : c.args.to < c.args.from + 2 = omega arith in
    rw polyline-none

pub loop-k-preserved : goal.loop-k-preserved
loop-k-preserved c =
    let drawn = rw c.segment_want.ensures at c.take.ensures in
    let i = c.args.from + 2 * c.loop-k.k in
    let e : i + 2 ≡ c.args.from + 2 * (c.loop-k.k + 1) = omega arith in
    c.loop-k.invariant ∙ rw e at (spent-next c.args.step c.args.scale c.args.work.now i c.args.to c.loop-k.left (point_in c.loop-k.a) (omega arith) drawn)

pub returns : goal.returns
returns c = let s = c.args in
    let h : s.from + 2 ≤ s.to = omega arith in
    let e : s.to < s.from + 2 * c.loop-k.k + 2 = omega arith in
    rw (polyline-first, c.loop-k.invariant, segments_none)
