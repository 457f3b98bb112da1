use Rattle.std.proofs.Common.{sym, ◌∙◌}
use Rattle.elementary.proofs.Logarithm.{ln_below, ln_zero, ln_above, ln_end}
use Rattle.elementary.proofs.ln.Goals as goal

pub returns-then-v : goal.returns-then-v
returns-then-v c = ln_below c.args.v c.if-v.true

pub returns-then-v-2 : goal.returns-then-v-2
returns-then-v-2 c = ln_zero c.args.v c.if-v-2.true

pub ln_positive-requires : goal.ln_positive-requires
ln_positive-requires c = ln_above c.args.v c.if-v.false c.if-v-2.false (sym c.is_finite.ensures ∙ c.if-is_finite.true)

pub returns : goal.returns
returns c = ln_end c.args.v c.if-v.false (sym c.is_finite.ensures ∙ c.if-is_finite.false)
