use Rattle.std.proofs.Common.{ap, sym, ◌∙◌}
use lib.Ieee.{neg}
use Rattle.float.specs.Laws.Tests.{taken, left}
use Rattle.elementary.specs.Functions.{atan2_of}
use Rattle.elementary.proofs.atan2.Goals as goal

pub returns-then-is_nan : goal.returns-then-is_nan
unfolding atan2_of
returns-then-is_nan c = taken _ _ _ (sym c.is_nan.ensures.value ∙ c.if-is_nan.true)

pub returns-then-y : goal.returns-then-y
unfolding atan2_of
returns-then-y c = ap neg c.half_plane-b.ensures ∙ taken _ _ _ c.if-y.true ∙ left _ _ _ (sym c.is_nan.ensures.value ∙ c.if-is_nan.false)

pub returns-else-y : goal.returns-else-y
unfolding atan2_of
returns-else-y c = c.half_plane-b.ensures ∙ left _ _ _ c.if-y.false ∙ left _ _ _ (sym c.is_nan.ensures.value ∙ c.if-is_nan.false)
