use Rattle.std.proofs.Common.{◌≡◌, ◌+◌, ◌*◌, sym, ap, ◌∙◌, arith, get_or}
use Rattle.std.specs.Float.{nan}
use Rattle.projection.specs.Laws.Passes.{pass_start, pass_end, pass_none, pass_turn_y}
use Rattle.projection.proofs.project.stage_points.Goals as goal
use Rattle.projection.proofs.project.stage_points.Goals.{then-not-same_value, else-not-same_value}

pub returns-then-to-from-lt2 : goal.returns-then-to-from-lt2
returns-then-to-from-lt2 g c = λ h a. pass_none _ _ _ _ c.requires.within.0 c.requires.within.1 (omega arith)

pub loop-k-init : goal.loop-k-init
loop-k-init g c = λ h a. (pass_start _ _ _ _ (omega arith) c.requires.within.0 c.requires.within.1, a _ _ c.f-made.ensures)

pub loop-k-preserved : goal.loop-k-preserved
loop-k-preserved g c = λ h a.
    let l = c.loop-k in
    let i = c.args.from + 2 * l.k in
    let made-is : c.if-not-same_value.made ≡ h (get_or l.out (i + 1) nan) = elim c.if-not-same_value.branch [
      | then-not-same_value w ↦ w.made-is ∙ a _ _ w.f-made-then-not-same_value.ensures
      | else-not-same_value w ↦ w.made-is ∙ (l.invariant h a).1 ∙ ap h (sym (c.same_value.ensures.0 w.if-not-same_value.false))
    ] in
    (pass_turn_y h (l.invariant h a).0 (omega arith) (omega arith) _ made-is, made-is)

pub returns : goal.returns
returns g c = λ h a. pass_end (c.loop-k.invariant h a).0 (omega arith)
