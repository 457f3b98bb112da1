use Prim.Native.Nat.{◌+◌, ◌-◌, ◌≤◌}
use native.Mathlib.Omega.{arith}
use lib.ListN.{length}
use Rattle.std.specs.Prelude.{Some, None}
use borrow.Rule.Slice.PartMut.{put_mid}
use Rattle.values.specs.Inner.Points.{points_in}
use Rattle.values.specs.Laws.Points.{flats-length}
use Rattle.geojson.specs.Inner.Features.{geometry_of}
use Rattle.densify.specs.Inner.Written.{Written}
use Rattle.densify.specs.Laws.Writing.{next_in}
use Rattle.strokes.specs.Inner.Space.{most, longest, behind_at}
use Rattle.strokes.specs.Laws.Positions.{tail_written, stroke_points, stroke_made, stroke_some, stroke_few, stroke_lacks, stroke_finished}
use Rattle.strokes.proofs.positions.stroke.Goals as goal

pub returns-in_default : goal.returns-in_default
returns-in_default c w v h =
    let a = c.args in
    let q = a.positions.now in
    let at = a.st.positions in
    let none : Written q (put_mid at (length q - at) q c.densify_polyline.new.out) at (stroke_points a.cx (points_in a.work.now a.from a.to) a.st.budget) None =
    tail_written q at c.requires.positions None c.in_default.ensures in
    stroke_lacks _ _ _ _ _ w h none

pub project_and_close-closed-requires : goal.project_and_close-closed-requires
project_and_close-closed-requires c =
    let a = c.args in
    let q = a.positions.now in
    let at = a.st.positions in
    let ps = points_in a.work.now a.from a.to in
    let whole : Written q (put_mid at (length q - at) q c.densify_polyline.new.out) at (stroke_points a.cx ps a.st.budget) (Some (behind_at at c.in-Ok.d)) =
    tail_written q at c.requires.positions (Some c.in-Ok.d) c.in-Ok.ensures in
    (omega (arith, whole.next, flats-length (stroke_points a.cx ps a.st.budget).points, stroke_some a.cx a.work.now a.from a.to a.st.budget c.requires.some), next_in whole)

pub overflow_sub-closed : goal.overflow_sub-closed
overflow_sub-closed c =
    let a = c.args in
    let q = a.positions.now in
    let at = a.st.positions in
    let ps = points_in a.work.now a.from a.to in
    let whole : Written q (put_mid at (length q - at) q c.densify_polyline.new.out) at (stroke_points a.cx ps a.st.budget) (Some (behind_at at c.in-Ok.d)) =
    tail_written q at c.requires.positions (Some c.in-Ok.d) c.in-Ok.ensures in
    omega (arith, (c.project_and_close-closed.ensures _ _ whole).next)

pub overflow_cast-closed : goal.overflow_cast-closed
overflow_cast-closed c =
    let a = c.args in
    let q = a.positions.now in
    let at = a.st.positions in
    let ps = points_in a.work.now a.from a.to in
    let g = geometry_of a.geometry in
    let whole : Written q (put_mid at (length q - at) q c.densify_polyline.new.out) at (stroke_points a.cx ps a.st.budget) (Some (behind_at at c.in-Ok.d)) =
    tail_written q at c.requires.positions (Some c.in-Ok.d) c.in-Ok.ensures in
    let few : length (stroke_made a.cx g ps a.st.budget).points ≤ most + longest = stroke_few a.cx _ _ _ _ g c.requires.few c.requires.left in
    omega (arith, (c.project_and_close-closed.ensures _ _ whole).next, flats-length (stroke_made a.cx g ps a.st.budget).points)

pub returns : goal.returns
returns c w v h =
    let a = c.args in
    let q = a.positions.now in
    let at = a.st.positions in
    let ps = points_in a.work.now a.from a.to in
    let whole : Written q (put_mid at (length q - at) q c.densify_polyline.new.out) at (stroke_points a.cx ps a.st.budget) (Some (behind_at at c.in-Ok.d)) =
    tail_written q at c.requires.positions (Some c.in-Ok.d) c.in-Ok.ensures in
    stroke_finished _ _ _ _ _ w h (c.project_and_close-closed.ensures _ _ whole) c.finish.ensures
