use Rattle.std.proofs.Common.{arith}
use Rattle.names.proofs.Noting.{held_over, held_again, held_full, held_fresh}
use Rattle.names.proofs.batch.store_best.Goals as goal

pub returns-then-e-ge-NO_SLOT : goal.returns-then-e-ge-NO_SLOT
returns-then-e-ge-NO_SLOT c = held_over _ _ _ _ _ c.if-e-ge-NO_SLOT.true

pub returns-then-e-ge-MARK : goal.returns-then-e-ge-MARK
returns-then-e-ge-MARK c = rw c.in-Some.is (held_again _ _ _ _ _ c.requires.1 c.if-e-ge-MARK.true (omega arith))

pub returns-then-used-ge-SLOTS : goal.returns-then-used-ge-SLOTS
returns-then-used-ge-SLOTS c = rw c.in-Some.is (held_full _ _ _ _ _ c.requires.1 c.requires.0 (omega arith) (omega arith))

pub returns : goal.returns
returns c = rw c.in-Some.is (held_fresh _ _ _ _ _ c.requires.1 c.requires.0 (omega arith) (omega arith))
