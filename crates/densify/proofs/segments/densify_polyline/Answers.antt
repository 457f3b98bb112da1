use Rattle.std.proofs.Common.{◌≡◌, ◌+◌, ◌*◌, ◌<◌, arith}
use Rattle.densify.specs.Laws.Writing.{written_none, next_in}
use Rattle.densify.specs.Laws.Segments.{grant_within, polyline-none, segments_end, segment-short, segment-next, polyline-short, polyline-done}
use Rattle.densify.proofs.Exits.{none_written}
use Rattle.densify.proofs.segments.densify_polyline.Goals as goal

pub returns-then-to-from-lt2 : goal.returns-then-to-from-lt2
returns-then-to-from-lt2 c = let h : c.args.to < c.args.from + 2 = omega arith in
    rw polyline-none (written_none _ _ _ c.requires.2)

pub returns-in_err-done : goal.returns-in_err-done
returns-in_err-done c = rw (none_written c.from_residual.result c.from_residual.ensures.0) (polyline-short _ _ _ _ _ _ (omega arith) c.in_err-done.ensures)

pub sample_segment-requires : goal.sample_segment-requires
sample_segment-requires c = (grant_within _ _ _ _ _ (rw c.segment_want.ensures at c.take-t.ensures), c.loop-k.invariant.0)

pub returns-in_err-done-2 : goal.returns-in_err-done-2
returns-in_err-done-2 c =
    let drawn = rw c.segment_want.ensures at c.take-t.ensures in
    rw (none_written c.from_residual-in_err-done-2.result c.from_residual-in_err-done-2.ensures.0)
    (polyline-done _ _ _ _ _ _ (omega arith) c.in_ok-done.ensures (segment-short _ _ _ _ _ _ _ c.loop-k.invariant.1 (omega arith) _ drawn c.in_err-done-2.ensures))

pub loop-k-preserved : goal.loop-k-preserved
loop-k-preserved c =
    let drawn = rw c.segment_want.ensures at c.take-t.ensures in
    let i = c.args.from + 2 * c.loop-k.k in
    let e : i + 2 ≡ c.args.from + 2 * (c.loop-k.k + 1) = omega arith in
    (next_in c.in_ok-done-2.ensures, rw e at (segment-next _ _ _ _ _ _ _ c.loop-k.invariant.1 (omega arith) _ drawn c.in_ok-done-2.ensures))

pub returns : goal.returns
returns c =
    polyline-done _ _ _ _ _ _ (omega arith) c.in_ok-done.ensures
    (segments_end _ _ _ _ _ _ _ c.loop-k.invariant.1 (omega arith) c.loop-k.invariant.0)
