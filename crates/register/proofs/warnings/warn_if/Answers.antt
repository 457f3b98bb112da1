use Rattle.register.proofs.PushedWarnings.{none_written, one_written}
use Rattle.register.proofs.warnings.warn_if.Goals as goal

pub returns-then-due : goal.returns-then-due
returns-then-due c = rw c.if-due.true (one_written c.requires (rw c.number.ensures at c.push_warning.ensures))

pub returns-else-due : goal.returns-else-due
returns-else-due c = rw c.if-due.false (none_written c.requires)
