use native.Mathlib.Omega.{arith}
use Rattle.records.proofs.Cases.{label_none, label_some}
use Rattle.records.proofs.records.is_label.Goals as goal

pub returns-then-byte-eq0 : goal.returns-then-byte-eq0
returns-then-byte-eq0 c = label_none _ _ (omega arith) (omega arith)

pub returns : goal.returns
returns c = label_some _ _ (omega arith) c.is_name.ensures
