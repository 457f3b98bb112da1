use native.Mathlib.Omega.{arith}
use Rattle.records.proofs.Cases.{named_cut, named-is, named_long, named_none, named-short}
use Rattle.records.proofs.records.is_name.Goals as goal

pub returns-then-p-len : goal.returns-then-p-len
returns-then-p-len c = named_cut _ _ (omega arith)

pub returns-then-n-lt1 : goal.returns-then-n-lt1
returns-then-n-lt1 c = named_none _ _ (omega arith)

pub returns-then-n-gt-MAX_NAME : goal.returns-then-n-gt-MAX_NAME
returns-then-n-gt-MAX_NAME c = named_long _ _ (omega arith)

pub returns-then-len-p : goal.returns-then-len-p
returns-then-len-p c = named-short _ _ (omega arith)

pub returns : goal.returns
returns c = named-is _ _ (omega arith) c.byte.ensures c.from-n.ensures (omega arith) (omega arith) (omega arith) c.all_ascii_graphic.ensures
