use mathlib.Core.Path.{refl}
use Prim.Native.Nat.{◌%◌, ◌^◌, ◌<◌}
use native.Mathlib.Omega.{arith}
use Rattle.float.proofs.Decomposing.{enough, shift_le, decompose_low, decompose_normal}
use Rattle.float.proofs.decompose.Goals as goal

pub overflow_sub-z : goal.overflow_sub-z
overflow_sub-z c =
    let some : 0 < c.args.b % 2 ^ 52 = omega arith in
    let below : c.args.b % 2 ^ 52 < 2 ^ 52 = omega arith in
    enough (c.args.b % 2 ^ 52) (some) (below)

pub overflow_cast-z : goal.overflow_cast-z
overflow_cast-z c =
    let some : 0 < c.args.b % 2 ^ 52 = omega arith in
    let below : c.args.b % 2 ^ 52 < 2 ^ 52 = omega arith in
    omega (arith, shift_le (c.args.b % 2 ^ 52) (some) (below))

pub overflow_shl-result : goal.overflow_shl-result
overflow_shl-result c =
    let some : 0 < c.args.b % 2 ^ 52 = omega arith in
    let below : c.args.b % 2 ^ 52 < 2 ^ 52 = omega arith in
    omega (arith, shift_le (c.args.b % 2 ^ 52) (some) (below))

pub overflow_sub-result : goal.overflow_sub-result
overflow_sub-result c =
    let some : 0 < c.args.b % 2 ^ 52 = omega arith in
    let below : c.args.b % 2 ^ 52 < 2 ^ 52 = omega arith in
    omega (arith, shift_le (c.args.b % 2 ^ 52) (some) (below))

pub returns-then-f-eq0 : goal.returns-then-f-eq0
returns-then-f-eq0 c =
    let some : 0 < c.args.b % 2 ^ 52 = omega arith in
    let below : c.args.b % 2 ^ 52 < 2 ^ 52 = omega arith in
    decompose_low (c.args.b % 2 ^ 52) (some) (below) c.args.b c.if-f-eq0.true refl

pub returns : goal.returns
returns c = decompose_normal c.args.b c.requires.1 c.if-f-eq0.false
