use borrow.Author.Rules.{rules}
use Rattle.records.proofs.Cases.{width_anchor, width_frame, width_other}
use Rattle.records.proofs.records.option_width.Goals as goal

pub returns-then-option : goal.returns-then-option
returns-then-option c = (width_frame _ c.if-option.true, search rules, search rules)

pub returns-then-option-2 : goal.returns-then-option-2
returns-then-option-2 c = (width_anchor _ c.if-option-2.true, search rules, search rules)

pub returns : goal.returns
returns c = (width_other _ c.if-option.false c.if-option-2.false, search rules, search rules)
