use Rattle.std.proofs.Common.{sym, ap, ◌∙◌, get_or, List, Float}
use Rattle.std.specs.Float.{nan}
use Rattle.elementary.proofs.Clamp.{clamped}
use Rattle.elementary.proofs.Exponential.{of_nan, small, made}
use Rattle.elementary.proofs.exp.Goals as goal

pub returns-then-is_nan : goal.returns-then-is_nan
returns-then-is_nan c = of_nan _ (sym c.is_nan.ensures.value ∙ c.if-is_nan.true)

pub two_to-requires : goal.two_to-requires
two_to-requires c = small _ _ _ (c.clamp-w.ensures.value ∙ clamped _ _ _) c.round-k.ensures (sym c.is_nan.ensures.value ∙ c.if-is_nan.false)

pub returns : goal.returns
returns c =
    made _ _ _ (c.clamp-w.ensures.value ∙ clamped _ _ _) c.round-k.ensures
    (ap (λ (r : List Float). get_or r 0 nan) c.exponential_series.ensures) c.two_to.ensures
