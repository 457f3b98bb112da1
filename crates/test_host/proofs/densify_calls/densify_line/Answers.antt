use Rattle.std.proofs.Common.{sym, le_of_eq}
use Rattle.std.proofs.lemmas.List.{length-map}
use Rattle.projection.specs.Projection.{projection_of, project_point}
use Rattle.densify.specs.Laws.Writing.{still_short, mapped_written}
use Rattle.test_host.proofs.densify_calls.densify_line.Goals as goal
use Rattle.test_host.proofs.densify_calls.densify_line.Goals.{in-Ok, in_default}

pub returns : goal.returns
returns c =
    let made = c.densify_polyline-d.ensures in
    rw c.into.ensures.0 (elim c.match-d.branch [
      | in-Ok w ↦
          rw (w.d-is, w.out-is) (mapped_written (project_point (projection_of c.args.reg)) (rw w.in-Ok.is at made) (rw w.projection_of.ensures at w.project_points.ensures))
      | in_default w ↦ rw (w.d-is, w.out-is, w.in_default.is) (still_short (rw w.in_default.is at made) _ (le_of_eq (sym (length-map _ _))))
    ])
