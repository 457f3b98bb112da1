use mathlib.Core.Path.{sym, ap, ◌∙◌}
use native.Mathlib.Omega.{arith}
use Rattle.records.specs.Laws.Records.{size_of, stands}
use Rattle.records.specs.Laws.Walk.{got_role, got_room}
use Rattle.records.proofs.Steps.{rescale-is, choice_low, choice_is, feature-is, place_is, item-is, points_had, points-is, path-is, points_within}
use Rattle.records.proofs.order.step.Goals as goal

pub returns-then-option-st-clause-leads_to : goal.returns-then-option-st-clause-leads_to
returns-then-option-st-clause-leads_to c = choice_low _ _ c.args.st c.in-Option.is c.if-option-st.true

pub variable-requires : goal.variable-requires
variable-requires c = let e = c.requires.1.got in
    (c.requires.0, omega (arith, got_room c.args.s.now c.args.p e, (stands _ e).size, ap size_of c.in-Variable.is))

pub returns-then-has_role-clause-leads_to : goal.returns-then-has_role-clause-leads_to
returns-then-has_role-clause-leads_to c = points_had _ _ c.args.st c.in-Points.is (sym c.has_role.ensures ∙ c.if-has_role.true)

pub overflow_add-st-in-Points : goal.overflow_add-st-in-Points
overflow_add-st-in-Points c = omega (arith, got_role _ c.requires.1.got c.in-Points.is)

pub returns-in-Rescale-clause-leads_to : goal.returns-in-Rescale-clause-leads_to
returns-in-Rescale-clause-leads_to c = rescale-is _ _ c.args.st c.in-Rescale.is c.then_some.ensures

pub returns-else-option-st-clause-leads_to : goal.returns-else-option-st-clause-leads_to
returns-else-option-st-clause-leads_to c = choice_is _ _ c.args.st c.in-Option.is c.if-option-st.false c.tag.ensures

pub returns-in-Feature-clause-leads_to : goal.returns-in-Feature-clause-leads_to
returns-in-Feature-clause-leads_to c = feature-is _ _ c.args.st c.in-Feature.is c.tag-in-Feature.ensures

pub returns-in-Place-clause-leads_to : goal.returns-in-Place-clause-leads_to
returns-in-Place-clause-leads_to c = place_is _ _ c.args.st c.in-Place.is c.tag-in-Place.ensures

pub returns-in-Item-clause-leads_to : goal.returns-in-Item-clause-leads_to
returns-in-Item-clause-leads_to c = item-is _ _ c.args.st c.in-Item.is c.tag-in-Item.ensures

pub returns-else-has_role-clause-leads_to : goal.returns-else-has_role-clause-leads_to
returns-else-has_role-clause-leads_to c = points-is _ _ c.args.st c.in-Points.is (sym c.has_role.ensures ∙ c.if-has_role.false) c.then_some-in-Points.ensures

pub returns-else-has_role-clause-step_within : goal.returns-else-has_role-clause-step_within
returns-else-has_role-clause-step_within c = points_within _ c.args.st _ c.requires.0 (got_role _ c.requires.1.got c.in-Points.is) (sym c.has_role.ensures ∙ c.if-has_role.false) c.then_some-in-Points.ensures

pub returns-in-Path-clause-leads_to : goal.returns-in-Path-clause-leads_to
returns-in-Path-clause-leads_to c = path-is _ _ c.args.st c.in-Path.is c.then_some-in-Path.ensures
