use native.Mathlib.Omega.{arith}
use Rattle.records.proofs.Cases.{begins_cut, begins_flags, begins_is, begins_kind}
use Rattle.records.proofs.records.item_begins.Goals as goal

pub returns-then-remaining-lt4 : goal.returns-then-remaining-lt4
returns-then-remaining-lt4 c = begins_cut _ (omega arith)

pub returns-then-byte : goal.returns-then-byte
returns-then-byte c = begins_kind _ (omega arith)

pub returns-then-byte-ge32 : goal.returns-then-byte-ge32
returns-then-byte-ge32 c = begins_flags _ (omega arith)

pub returns : goal.returns
returns c = begins_is _ (omega arith) (omega arith) (omega arith) c.is_label.ensures
