use Rattle.std.proofs.Common.{sym, ◌∙◌}
use Rattle.float.specs.Functions.{max_of}
use Rattle.float.specs.Laws.Tests.{taken, left}
use Rattle.float.proofs.max.Goals as goal

pub returns-then-is_nan : goal.returns-then-is_nan
unfolding max_of
returns-then-is_nan c = taken _ _ _ (sym c.is_nan.ensures.value ∙ c.if-is_nan.true)

pub returns-then-x-y : goal.returns-then-x-y
unfolding max_of
returns-then-x-y c = taken _ _ _ c.if-x-y.true ∙ left _ _ _ (sym c.is_nan.ensures.value ∙ c.if-is_nan.false)

pub returns-else-x-y : goal.returns-else-x-y
unfolding max_of
returns-else-x-y c = left _ _ _ c.if-x-y.false ∙ left _ _ _ (sym c.is_nan.ensures.value ∙ c.if-is_nan.false)
