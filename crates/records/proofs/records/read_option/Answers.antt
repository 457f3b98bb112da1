use mathlib.Core.Path.{sym, ◌∙◌}
use native.Mathlib.Omega.{arith}
use Rattle.records.proofs.Cases.{choice_bad, choice_cut, choice_is}
use Rattle.records.proofs.records.read_option.Goals as goal

pub returns-then-remaining-lt2 : goal.returns-then-remaining-lt2
returns-then-remaining-lt2 c = choice_cut _ (omega arith)

pub returns-then-not-option_fits : goal.returns-then-not-option_fits
returns-then-not-option_fits c = choice_bad _ c.byte-option.ensures (sym c.option_fits.ensures ∙ c.if-not-option_fits.true)

pub returns : goal.returns
returns c = choice_is _ (omega arith) c.byte-option.ensures (sym c.option_fits.ensures ∙ c.if-not-option_fits.false) c.option_width.ensures.0
