use Rattle.std.proofs.Common.{◌≡◌, ◌+◌, ◌*◌, sym, ap₂, ◌∙◌, arith, get_or}
use Rattle.std.specs.Float.{nan}
use Rattle.projection.specs.Inner.Stages.{plane_stage_of}
use Rattle.values.specs.Points.{point_of}
use Rattle.projection.specs.Laws.Passes.{pass_start, pass_end, pass_none, pass_turn, plane_is}
use Rattle.projection.proofs.project.plane_stage_points.Goals as goal
use Rattle.projection.proofs.project.plane_stage_points.Goals.{then-not-same_values, else-not-same_values}

pub returns-then-to-from-lt2 : goal.returns-then-to-from-lt2
returns-then-to-from-lt2 c = pass_none _ _ _ _ c.requires.0 c.requires.1 (omega arith)

pub loop-k-init : goal.loop-k-init
loop-k-init c = (pass_start _ _ _ _ (omega arith) c.requires.0 c.requires.1, c.plane_stage-g.ensures)

pub loop-k-preserved : goal.loop-k-preserved
loop-k-preserved c =
    let l = c.loop-k in
    let i = c.args.from + 2 * l.k in
    let made-is : c.if-not-same_values.g ≡ plane_stage_of c.args.t (get_or l.out i nan) (get_or l.out (i + 1) nan) = elim c.if-not-same_values.branch [
      | then-not-same_values w ↦ w.g-is ∙ w.plane_stage-g-then-not-same_values.ensures
      | else-not-same_values w ↦ w.g-is ∙ l.invariant.1 ∙ (let e = c.same_values.ensures.ax_value w.if-not-same_values.false in ap₂ (plane_stage_of _) (sym e.0) (sym e.1))
    ] in
    (pass_turn l.invariant.0 (omega arith) (omega arith) _ (plane_is _ (point_of l.out i) made-is), made-is)

pub returns : goal.returns
returns c = pass_end c.loop-k.invariant.0 (omega arith)
