use native.Mathlib.Omega.{arith}
use Rattle.stream.specs.Laws.Payload.{rest-length}
use Rattle.records.specs.Laws.Names.{name-length, name-at}
use Rattle.records.proofs.Prefixes.{either_ends, bytes_differ, bytes-agree}
use Rattle.records.proofs.names.common_prefix.Goals as goal

pub byte-requires : goal.byte-requires
byte-requires c = (omega arith, omega (arith, rest-length c.args.s.now 0))

pub byte-requires-in-loop-i : goal.byte-requires-in-loop-i
byte-requires-in-loop-i c = (omega arith, omega (arith, rest-length c.args.s.now 0))

pub returns-then-byte : goal.returns-then-byte
returns-then-byte c = (
  bytes_differ _ _ (name-length _ _ _ c.requires.0) (name-length _ _ _ c.requires.1) c.loop-i.invariant (omega arith) (omega arith) (name-at _ _ _ (omega arith) c.byte.ensures) (name-at _ _ _ (omega arith) c.byte-in-loop-i.ensures) c.if-byte.true,
  omega arith,
)

pub loop-i-preserved : goal.loop-i-preserved
loop-i-preserved c =
    bytes-agree _ _ (name-length _ _ _ c.requires.0) (name-length _ _ _ c.requires.1) c.loop-i.invariant (omega arith) (omega arith) (name-at _ _ _ (omega arith) c.byte.ensures) (name-at _ _ _ (omega arith) c.byte-in-loop-i.ensures) c.if-byte.false

pub returns : goal.returns
returns c = (either_ends _ _ (name-length _ _ _ c.requires.0) (name-length _ _ _ c.requires.1) c.loop-i.invariant (omega arith) (omega arith), omega arith)
