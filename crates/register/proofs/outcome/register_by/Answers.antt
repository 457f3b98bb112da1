use mathlib.Core.Path.{◌≡◌, sym, ap, ◌∙◌}
use lib.ListN.{length}
use native.Mathlib.Omega.{arith}
use Rattle.std.specs.Prelude.{None}
use Rattle.std.proofs.lemmas.Result.{err_from_is_err_and}
use Rattle.values.specs.declared.refusal.Refusal.TheVariants.{NoAnchor}
use Rattle.register.specs.Laws.Outcomes.{none_of, one_of, by_fit, by_one, no_anchor, by_anchor}
use Rattle.register.proofs.outcome.register_by.Goals as goal

pub returns-in_err-anchor-in-empty : goal.returns-in_err-anchor-in-empty
returns-in_err-anchor-in-empty c = λ sc x w e.
    let absent : c.args.d.anchor ≡ None = c.in_err-anchor-in-empty.ensures.ok_part in
    let same = rw absent at c.in_err-anchor-in-empty.ensures.value in
    let which : c.in_err-anchor-in-empty.field-0.0 ≡ NoAnchor = cc in
    let p = err_from_is_err_and c.from_residual.result c.from_residual.ensures.1 in
    rw (p.1, p.2, which) (no_anchor w (e ∙ none_of _ c.in-empty.len_below) (sym x.anchor ∙ absent))

pub returns-in_ok-anchor-in-empty : goal.returns-in_ok-anchor-in-empty
returns-in_ok-anchor-in-empty c = λ sc x w e. c.declare.ensures sc x ∙ by_anchor w _ (e ∙ none_of _ c.in-empty.len_below) (sym x.anchor ∙ c.in_ok-anchor-in-empty.ensures.ok_part)

pub returns-in-len1 : goal.returns-in-len1
returns-in-len1 c = λ sc x w e. c.declare-in-len1.ensures sc x ∙ by_one w _ (e ∙ one_of _ _ c.in-len1.len_at_least c.in-len1.len_below)

pub returns-in_default : goal.returns-in_default
returns-in_default c = λ sc x w e.
    let long = ap length e in
    c.fit_controls.ensures ∙ rw (← e) (by_fit w (omega arith) (omega arith))
