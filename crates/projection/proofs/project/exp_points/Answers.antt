use Rattle.std.proofs.Common.{◌≡◌, ◌+◌, ◌-◌, ◌*◌, ◌/◌, refl, sym, ap, ◌∙◌, arith, get_or, ℕ, List, Float}
use Rattle.std.specs.Float.{nan, binary64}
use Rattle.std.specs.Float.Ieee.{div, of_bits}
use Rattle.elementary.specs.Laws.Exponential.{exp_nan}
use Rattle.geodesy.specs.Inner.Stages.{exp_ordinate_of}
use Rattle.projection.specs.Laws.Passes.{pass_start, pass_end, pass_turn_y, pass_turn_both}
use Rattle.projection.proofs.project.exp_points.Goals as goal
use Rattle.projection.proofs.project.exp_points.Goals.{then-not-same_values, else-not-same_values, then-not-same_value, else-not-same_value}

-- of a NaN
none : div binary64 (of_bits binary64 0) (of_bits binary64 0) ≡ exp_ordinate_of (div binary64 (of_bits binary64 0) (of_bits binary64 0))
unfolding exp_ordinate_of div of_bits
none = exp_nan nan refl

pub loop-k-init : goal.loop-k-init
loop-k-init c = (pass_start _ _ _ _ (omega arith) c.requires.0 c.requires.1, none)

pub loop-k-preserved : goal.loop-k-preserved
loop-k-preserved c =
    let l = c.loop-k in
    let i = c.args.from + 4 * l.k in
    let e = c.if-not-same_values.e in
    let at : (k : ℕ) → List Float → Float = λ k r. get_or r k nan in
    let made-is : (get_or e 0 nan ≡ exp_ordinate_of (get_or l.out (i + 1) nan)) × (get_or e 1 nan ≡ exp_ordinate_of (get_or l.out (i + 3) nan)) = elim c.if-not-same_values.branch [
      | then-not-same_values w ↦ (ap (at 0) (w.e-is ∙ w.exp_ordinate_both-e.ensures), ap (at 1) (w.e-is ∙ w.exp_ordinate_both-e.ensures))
      | else-not-same_values w ↦
          let same = c.same_values.ensures.ax_value w.if-not-same_values.false in
          (ap (at 0) w.e-is ∙ l.invariant.1 ∙ ap exp_ordinate_of (sym same.0), ap (at 1) w.e-is ∙ l.invariant.1 ∙ ap exp_ordinate_of (sym same.1))
    ] in
    (pass_turn_both exp_ordinate_of l.invariant.0 (omega arith) (omega arith) _ _ made-is.0 made-is.1, made-is.1)

pub returns-after-not-same_value : goal.returns-after-not-same_value
returns-after-not-same_value c =
    let l = c.loop-k in
    let n : l.k ≡ (c.args.to - c.args.from) / 4 = omega arith in
    let i = c.args.from + 4 * ((c.args.to - c.args.from) / 4) in
    let passed = rw n at l.invariant.0 in
    let last-is : c.if-not-same_value.made ≡ exp_ordinate_of (get_or l.out (i + 1) nan) = elim c.if-not-same_value.branch [
      | then-not-same_value w ↦ w.made-is ∙ w.exp_ordinate-made.ensures
      | else-not-same_value w ↦ w.made-is ∙ l.invariant.1 ∙ ap exp_ordinate_of (sym (c.same_value.ensures.0 w.if-not-same_value.false))
    ] in
    pass_end (pass_turn_y exp_ordinate_of {j = i + 2} passed refl (omega arith) _ last-is) (omega arith)

pub returns-else-to-i-ge2 : goal.returns-else-to-i-ge2
returns-else-to-i-ge2 c = pass_end c.loop-k.invariant.0 (omega arith)
