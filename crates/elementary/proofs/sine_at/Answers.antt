use Rattle.std.proofs.Common.{ap, ◌∙◌}
use lib.Ieee.{neg}
use Rattle.elementary.specs.Functions.{sine_at}
use Rattle.elementary.proofs.Quarters.{first, second, third, fourth}
use Rattle.elementary.proofs.sine_at.Goals as goal

pub returns-then-q : goal.returns-then-q
unfolding sine_at
returns-then-q c = c.sine_series.ensures ∙ first _ _ _ _ _ c.if-q.true

pub returns-then-q-2 : goal.returns-then-q-2
unfolding sine_at
returns-then-q-2 c = c.cosine_series.ensures ∙ second _ _ _ _ _ c.if-q.false c.if-q-2.true

pub returns-then-q-3 : goal.returns-then-q-3
unfolding sine_at
returns-then-q-3 c = ap neg c.sine_series-then-q-3.ensures ∙ third _ _ _ _ _ c.if-q.false c.if-q-2.false c.if-q-3.true

pub returns : goal.returns
unfolding sine_at
returns c = ap neg c.cosine_series-2.ensures ∙ fourth _ _ _ _ _ c.if-q.false c.if-q-2.false c.if-q-3.false
