use mathlib.Core.Path.{◌≡◌, sym, ◌∙◌}
use mathlib.Core.Bool.{true}
use Prim.Native.Nat.{◌-◌}
use native.Mathlib.Omega.{arith}
use lib.Pow.{pow_pos}
use lib.Ieee.{binary64, fits, to_bits}
use Rattle.float.specs.Inner.Fraction.{HasFraction, field_of}
use Rattle.float.specs.Laws.Whole.{trunc_by_rule}
use Rattle.float.proofs.Fractions.{nan_own, wide, large_own, small_trunc, zero_no_nan, trunc_cleared}
use Rattle.float.proofs.whole.trunc.Goals as goal

pub returns-then-is_nan : goal.returns-then-is_nan
returns-then-is_nan c = nan_own trunc_by_rule c.args.x (sym c.is_nan.ensures.value ∙ c.if-is_nan.true)

pub returns-then-f-ge-FIELD_WHOLE : goal.returns-then-f-ge-FIELD_WHOLE
returns-then-f-ge-FIELD_WHOLE c =
    let held : fits binary64 c.args.x ≡ true = c.well_formed.0.1 in
    large_own c.args.x (held) trunc_by_rule c.if-f-ge-FIELD_WHOLE.true

pub overflow_mul-result : goal.overflow_mul-result
overflow_mul-result c =
    let held : fits binary64 c.args.x ≡ true = c.well_formed.0.1 in
    omega (arith, wide c.args.x (held))

pub float_from_bits-result : goal.float_from_bits-result
float_from_bits-result c =
    let held : fits binary64 c.args.x ≡ true = c.well_formed.0.1 in
    zero_no_nan c.args.x (held)

pub returns-then-f-lt-FIELD_ONE : goal.returns-then-f-lt-FIELD_ONE
returns-then-f-lt-FIELD_ONE c =
    let held : fits binary64 c.args.x ≡ true = c.well_formed.0.1 in
    small_trunc c.args.x (held) c.if-f-lt-FIELD_ONE.true

pub clear_fraction-requires : goal.clear_fraction-requires
clear_fraction-requires c =
    let fraction : HasFraction (to_bits binary64 c.args.x) = record { low = c.if-f-lt-FIELD_ONE.false; high = c.if-f-ge-FIELD_WHOLE.false } in
    (fraction, pow_pos (1075 - field_of (to_bits binary64 c.args.x)))

pub returns : goal.returns
returns c =
    let held : fits binary64 c.args.x ≡ true = c.well_formed.0.1 in
    let fraction : HasFraction (to_bits binary64 c.args.x) = record { low = c.if-f-lt-FIELD_ONE.false; high = c.if-f-ge-FIELD_WHOLE.false } in
    trunc_cleared c.args.x (held) (fraction) c.clear_fraction.result c.clear_fraction.ensures
