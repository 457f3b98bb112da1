use mathlib.Core.Path.{◌∙◌}
use native.Mathlib.Omega.{arith}
use Rattle.records.proofs.Cases.{counted_cut, counted_is}
use Rattle.records.proofs.records.count_at.Goals as goal

pub returns-then-len-p : goal.returns-then-len-p
returns-then-len-p c = counted_cut _ _ _ (omega arith)

pub returns : goal.returns
returns c = c.then_some.ensures ∙ counted_is _ _ _ (omega arith) c.u16_at-count.ensures c.from.ensures c.remaining-len.ensures
