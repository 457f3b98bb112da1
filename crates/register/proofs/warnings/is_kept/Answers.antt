use mathlib.Core.Path.{◌∙◌}
use borrow.Author.Tests.{le-ltb}
use Rattle.register.proofs.KeptNumbers.{none_first, one-first}
use Rattle.register.proofs.warnings.is_kept.Goals as goal

pub returns-then-k-kept : goal.returns-then-k-kept
returns-then-k-kept c = one-first _ _ _ c.if-k-kept.true

pub returns-else-k-kept : goal.returns-else-k-kept
returns-else-k-kept c = le-ltb _ _ c.if-k-kept.false ∙ none_first _ _ _ c.if-k-kept.false
