use native.Mathlib.Omega.{arith}
use Rattle.records.proofs.Cases.{choice_frame, choice_high, choice_low, choice_other, choice_short}
use Rattle.records.proofs.records.option_fits.Goals as goal

pub returns-then-option : goal.returns-then-option
returns-then-option c = choice_low _ _ (omega arith)

pub returns-then-option-2 : goal.returns-then-option-2
returns-then-option-2 c = choice_high _ _ (omega arith)

pub returns-then-remaining-option_width : goal.returns-then-remaining-option_width
returns-then-remaining-option_width c = choice_short _ _ (omega arith)

pub returns-then-option-3 : goal.returns-then-option-3
returns-then-option-3 c = choice_other _ _ (omega arith) (omega arith) (omega arith)

pub returns : goal.returns
returns c = choice_frame _ _ (omega arith) (omega arith) (omega arith) c.byte.ensures
