use mathlib.Core.Path.{sym, subst, ap, ◌∙◌}
use mathlib.Core.Bool.{not}
use Prim.Native.Nat.{ℕ, ◌+◌, ◌-◌, ◌%◌, ◌^◌, ◌<◌}
use native.Mathlib.Nat.{mod-le}
use native.Mathlib.Omega.{arith}
use lib.Dec.{T}
use lib.Ieee.{binary64, of_bits, nan_bits}
use Rattle.float.proofs.Fractions.{cleared_reads, cleared_no_nan}
use Rattle.float.proofs.whole.clear_fraction.Goals as goal

pub overflow_sub-result : goal.overflow_sub-result
overflow_sub-result c = mod-le (c.args.b + c.args.h) c.unit-u.result

pub float_from_bits-result : goal.float_from_bits-result
float_from_bits-result c =
    let wide : c.args.b < 2 ^ 64 = omega arith in
    let b = c.args.b in
    let h = c.args.h in
    subst (λ (u : ℕ). T (not (nan_bits binary64 (b + h - (b + h) % u)))) (sym c.unit-u.ensures.is) (cleared_no_nan b c.requires.0 (wide) h c.requires.1)

pub returns : goal.returns
returns c =
    let wide : c.args.b < 2 ^ 64 = omega arith in
    let b = c.args.b in
    let h = c.args.h in
    ap (λ (u : ℕ). of_bits binary64 (b + h - (b + h) % u)) c.unit-u.ensures.is ∙ cleared_reads b c.requires.0 (wide) h c.requires.1
