-- `root::second_half` meets its contract, by the law of the second half. Assumes nothing.
use Prim.Native.Nat.{◌*◌}
use native.Mathlib.Omega.{arith}
use lib.Dec.{ltb}
use Rattle.root.proofs.Halves.{bit_le, q, have, q_le, need_le, have_lt, second}
use Rattle.root.proofs.second_half.Goals as goal

pub overflow_mul-over : goal.overflow_mul-over
overflow_mul-over c = omega (arith, have_lt c.requires, c.requires)

pub overflow_mul-over-2 : goal.overflow_mul-over-2
overflow_mul-over-2 c = omega (arith, need_le c.requires)

pub overflow_add-result : goal.overflow_add-result
overflow_add-result c = omega (arith, q_le c.requires, c.requires)

pub overflow_sub-result : goal.overflow_sub-result
overflow_sub-result c = omega (arith, bit_le (ltb (have c.requires) (q c.requires * q c.requires)), c.requires)

pub returns : goal.returns
returns c = second c.requires
