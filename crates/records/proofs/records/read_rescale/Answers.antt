use native.Mathlib.Omega.{arith}
use Rattle.records.proofs.Cases.{rescale-is, rescale-short}
use Rattle.records.proofs.records.read_rescale.Goals as goal

pub returns-then-remaining-lt9 : goal.returns-then-remaining-lt9
returns-then-remaining-lt9 c = rescale-short _ (omega arith)

pub returns : goal.returns
returns c = rescale-is _ (omega arith)
