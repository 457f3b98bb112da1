use Rattle.std.proofs.Common.{sym, ◌∙◌}
use Rattle.records.proofs.Steps.{variable-low, variable-is}
use Rattle.records.proofs.order.variable.Goals as goal

pub returns-then-not-name_before-clause-leads_to : goal.returns-then-not-name_before-clause-leads_to
returns-then-not-name_before-clause-leads_to c = variable-low _ c.args.p c.args.st c.from-len.ensures (sym c.name_before.ensures ∙ c.if-not-name_before.true)

pub returns-clause-leads_to : goal.returns-clause-leads_to
returns-clause-leads_to c = variable-is _ c.args.p c.args.st c.from-len.ensures (sym c.name_before.ensures ∙ c.if-not-name_before.false) c.tag.ensures
