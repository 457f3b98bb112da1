use Rattle.std.proofs.Common.{sym, ◌∙◌}
use Rattle.float.specs.Functions.{min_of}
use Rattle.float.specs.Laws.Tests.{taken, left}
use Rattle.float.proofs.min.Goals as goal

pub returns-then-is_nan : goal.returns-then-is_nan
unfolding min_of
returns-then-is_nan c = taken _ _ _ (sym c.is_nan.ensures.value ∙ c.if-is_nan.true)

pub returns-then-y-x : goal.returns-then-y-x
unfolding min_of
returns-then-y-x c = taken _ _ _ c.if-y-x.true ∙ left _ _ _ (sym c.is_nan.ensures.value ∙ c.if-is_nan.false)

pub returns-else-y-x : goal.returns-else-y-x
unfolding min_of
returns-else-y-x c = left _ _ _ c.if-y-x.false ∙ left _ _ _ (sym c.is_nan.ensures.value ∙ c.if-is_nan.false)
