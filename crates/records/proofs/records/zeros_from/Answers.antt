use native.Mathlib.Omega.{arith}
use mathlib.Core.Path.{◌∙◌, refl, sym}
use Rattle.records.proofs.Tests.{byte_fails, byte_turn, zero-done}
use Rattle.records.proofs.records.zeros_from.Goals as goal

pub returns-then-byte-ne0 : goal.returns-then-byte-ne0
returns-then-byte-ne0 c = byte_fails _ c.loop-k.k (omega arith) (omega arith) ∙ sym c.loop-k.invariant

pub loop-k-preserved : goal.loop-k-preserved
loop-k-preserved c = c.loop-k.invariant ∙ byte_turn _ c.loop-k.k _ refl (omega arith) (omega arith)

pub returns : goal.returns
returns c = zero-done _ c.loop-k.k (omega arith) ∙ sym c.loop-k.invariant
