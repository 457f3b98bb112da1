use borrow.Author.Rules.{rules}
use mathlib.Core.Path.{◌≡◌, sym, ◌∙◌}
use mathlib.Core.Bool.{true, false}
use Rattle.register.specs.Laws.Outcomes.{over, all-kept, passed, not-mercator, beyond_limits, beyond_limits_anchor, too_many}
use Rattle.register.proofs.outcome.register.Goals as goal

pub returns-then-not-d-clause-value : goal.returns-then-not-d-clause-value
returns-then-not-d-clause-value c =
    let m : c.args.v.declared.mercator ≡ false = search rules in
    not-mercator _ (sym c.requires.0.surveyed.declares.mercator ∙ m)

pub returns-then-not-g-clause-value : goal.returns-then-not-g-clause-value
returns-then-not-g-clause-value c =
    let m : c.args.v.declared.mercator ≡ true = search rules in
    let w : c.gather-g.result.within ≡ false = search rules in
    beyond_limits _ (sym c.requires.0.surveyed.declares.mercator ∙ m) (sym c.gather-g.ensures.within ∙ w)

pub returns-then-not-is_anchor_within_limits-clause-value : goal.returns-then-not-is_anchor_within_limits-clause-value
returns-then-not-is_anchor_within_limits-clause-value c =
    let d = c.requires.0.surveyed.declares in
    let m : c.args.v.declared.mercator ≡ true = search rules in
    let w : c.gather-g.result.within ≡ true = search rules in
    beyond_limits_anchor _ (sym d.mercator ∙ m) (sym c.gather-g.ensures.within ∙ w) (rw (← d.anchor) (sym c.is_anchor_within_limits.ensures ∙ c.if-not-is_anchor_within_limits.true))

pub returns-then-g-gt-MAX_CONTROLS-clause-value : goal.returns-then-g-gt-MAX_CONTROLS-clause-value
returns-then-g-gt-MAX_CONTROLS-clause-value c =
    let m : c.args.v.declared.mercator ≡ true = search rules in
    let w : c.gather-g.result.within ≡ true = search rules in
    too_many (passed c.requires.0.surveyed.declares c.gather-g.ensures m w c.is_anchor_within_limits.ensures c.if-not-is_anchor_within_limits.false)
    (over c.gather-g.ensures c.if-g-gt-MAX_CONTROLS.true)

pub returns-clause-value : goal.returns-clause-value
returns-clause-value c =
    let d = c.requires.0.surveyed.declares in
    let m : c.args.v.declared.mercator ≡ true = search rules in
    let w : c.gather-g.result.within ≡ true = search rules in
    c.register_by.ensures _ d (passed d c.gather-g.ensures m w c.is_anchor_within_limits.ensures c.if-not-is_anchor_within_limits.false)
    (sym (all-kept c.gather-g.ensures c.if-g-gt-MAX_CONTROLS.false))
