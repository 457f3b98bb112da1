use Rattle.std.proofs.Common.{arith}
use Rattle.stream.specs.Laws.Payload.{rest-length}
use Rattle.records.specs.Laws.Names.{name-length, name-at}
use Rattle.records.proofs.Prefixes.{first_ended, second_ended, by_next}
use Rattle.records.proofs.names.name_before.Goals as goal
use Rattle.records.proofs.names.name_before.Goals.{else-i-n-via-then-i-n+else-i-m, else-i-n-via-else-i-n}

pub byte-requires : goal.byte-requires
byte-requires c = (omega arith, omega (arith, rest-length c.args.s.now 0))

pub byte-requires-then-i-m : goal.byte-requires-then-i-m
byte-requires-then-i-m c = (omega arith, omega (arith, rest-length c.args.s.now 0))

pub returns-then-i-m : goal.returns-then-i-m
returns-then-i-m c = by_next _ _ (name-length _ _ _ c.requires.0) (name-length _ _ _ c.requires.1) c.common_prefix-i.ensures.0 (omega arith) (omega arith) (name-at _ _ _ (omega arith) c.byte.ensures) (name-at _ _ _ (omega arith) c.byte-then-i-m.ensures)

pub returns : goal.returns
returns c = elim c.else-i-n.branch [
  | else-i-n-via-then-i-n+else-i-m w ↦ second_ended _ _ (name-length _ _ _ c.requires.0) (name-length _ _ _ c.requires.1) c.common_prefix-i.ensures.0 w.if-i-m.false (omega arith)
  | else-i-n-via-else-i-n w ↦ first_ended _ _ (name-length _ _ _ c.requires.0) (name-length _ _ _ c.requires.1) c.common_prefix-i.ensures.0 (omega arith)
]
