use Rattle.std.specs.Prelude.{Some}
use mathlib.Core.Path.{ap, ◌∙◌}
use Rattle.scene.proofs.Starts.{curve_starts, polyline_starts}
use Rattle.scene.proofs.labels.first_start.Goals as goal
use Rattle.scene.proofs.labels.first_start.Goals.{else-not-c-via-then-not-c+else-c-eq0, else-not-c-via-else-not-c}

pub returns : goal.returns
returns c =
    let o = c.in-Ok in
    ap Some c.point_from.ensures
    ∙ elim c.else-not-c.branch [
      | else-not-c-via-then-not-c+else-c-eq0 w ↦ polyline_starts _ c.args.p o.c o.ensures.role_value w.if-not-c.true w.if-c-eq0.false o.ensures.path_within.first
      | else-not-c-via-else-not-c w ↦ curve_starts _ c.args.p o.c o.ensures.role_value w.if-not-c.false
    ]
