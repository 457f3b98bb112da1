use Rattle.std.proofs.Common.{sym, ap, ap₂, ◌∙◌, [], ◌∷◌, get_or, List, Float}
use Rattle.std.specs.Float.{nan}
use Rattle.elementary.proofs.Clamp.{clamped}
use Rattle.elementary.proofs.Exponential.{of_nan, small, made}
use Rattle.elementary.proofs.exp_both.Goals as goal

abbrev two : Float → Float → List Float
two a b = a ∷ b ∷ []

pub returns-then-is_nan : goal.returns-then-is_nan
returns-then-is_nan c = ap₂ two (of_nan _ (sym c.is_nan.ensures.value ∙ c.if-is_nan.true)) c.exp.ensures

pub returns-then-is_nan-2 : goal.returns-then-is_nan-2
returns-then-is_nan-2 c = ap₂ two c.exp-then-is_nan-2.ensures (of_nan _ (sym c.is_nan-2.ensures.value ∙ c.if-is_nan-2.true))

pub two_to-requires : goal.two_to-requires
two_to-requires c = small _ _ _ (c.clamp-a.ensures.value ∙ clamped _ _ _) c.round-k.ensures (sym c.is_nan.ensures.value ∙ c.if-is_nan.false)

pub two_to-requires-2 : goal.two_to-requires-2
two_to-requires-2 c = small _ _ _ (c.clamp-b.ensures.value ∙ clamped _ _ _) c.round-l.ensures (sym c.is_nan-2.ensures.value ∙ c.if-is_nan-2.false)

pub returns : goal.returns
returns c =
    ap₂ two
    (made _ _ _ (c.clamp-a.ensures.value ∙ clamped _ _ _) c.round-k.ensures (ap (λ (r : List Float). get_or r 0 nan) c.exponential_series.ensures) c.two_to.ensures)
    (made _ _ _ (c.clamp-b.ensures.value ∙ clamped _ _ _) c.round-l.ensures (ap (λ (r : List Float). get_or r 1 nan) c.exponential_series.ensures) c.two_to-2.ensures)
