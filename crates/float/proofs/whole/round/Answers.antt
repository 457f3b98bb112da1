use mathlib.Core.Path.{◌≡◌, sym, ◌∙◌}
use mathlib.Core.Bool.{true}
use Prim.Native.Nat.{◌-◌}
use native.Mathlib.Omega.{arith}
use lib.Pow.{pow_pos}
use lib.Ieee.{binary64, fits, to_bits}
use Rattle.float.specs.Inner.Fraction.{HasFraction, field_of}
use Rattle.float.specs.Laws.Whole.{round_by_rule}
use Rattle.float.proofs.Fractions.{nan_own, wide, large_own, small_round, half_round, zero_no_nan, one_no_nan, round_cleared}
use Rattle.float.proofs.whole.round.Goals as goal

pub returns-then-is_nan : goal.returns-then-is_nan
returns-then-is_nan c = nan_own round_by_rule c.args.x (sym c.is_nan.ensures.value ∙ c.if-is_nan.true)

pub returns-then-f-ge-FIELD_WHOLE : goal.returns-then-f-ge-FIELD_WHOLE
returns-then-f-ge-FIELD_WHOLE c =
    let held : fits binary64 c.args.x ≡ true = c.well_formed.0.1 in
    large_own c.args.x (held) round_by_rule c.if-f-ge-FIELD_WHOLE.true

pub overflow_mul-s : goal.overflow_mul-s
overflow_mul-s c =
    let held : fits binary64 c.args.x ≡ true = c.well_formed.0.1 in
    omega (arith, wide c.args.x (held))

pub float_from_bits-result : goal.float_from_bits-result
float_from_bits-result c =
    let held : fits binary64 c.args.x ≡ true = c.well_formed.0.1 in
    zero_no_nan c.args.x (held)

pub returns-then-f-lt-FIELD_HALF : goal.returns-then-f-lt-FIELD_HALF
returns-then-f-lt-FIELD_HALF c =
    let held : fits binary64 c.args.x ≡ true = c.well_formed.0.1 in
    small_round c.args.x (held) c.if-f-lt-FIELD_HALF.true

pub overflow_add-result : goal.overflow_add-result
overflow_add-result c =
    let held : fits binary64 c.args.x ≡ true = c.well_formed.0.1 in
    omega (arith, wide c.args.x (held))

pub float_from_bits-result-then-f-eq-FIELD_HALF : goal.float_from_bits-result-then-f-eq-FIELD_HALF
float_from_bits-result-then-f-eq-FIELD_HALF c =
    let held : fits binary64 c.args.x ≡ true = c.well_formed.0.1 in
    one_no_nan c.args.x (held)

pub returns-then-f-eq-FIELD_HALF : goal.returns-then-f-eq-FIELD_HALF
returns-then-f-eq-FIELD_HALF c =
    let held : fits binary64 c.args.x ≡ true = c.well_formed.0.1 in
    half_round c.args.x (held) c.if-f-eq-FIELD_HALF.true

pub half-requires : goal.half-requires
half-requires c =
    let fraction : HasFraction (to_bits binary64 c.args.x) = record { low = omega arith; high = c.if-f-ge-FIELD_WHOLE.false } in
    fraction

pub clear_fraction-requires : goal.clear_fraction-requires
clear_fraction-requires c =
    let fraction : HasFraction (to_bits binary64 c.args.x) = record { low = omega arith; high = c.if-f-ge-FIELD_WHOLE.false } in
    (fraction, omega (arith, c.half.ensures, pow_pos (1075 - field_of (to_bits binary64 c.args.x))))

pub returns : goal.returns
returns c =
    let held : fits binary64 c.args.x ≡ true = c.well_formed.0.1 in
    let fraction : HasFraction (to_bits binary64 c.args.x) = record { low = omega arith; high = c.if-f-ge-FIELD_WHOLE.false } in
    round_cleared c.args.x (held) (fraction) c.clear_fraction.result
    c.half.result c.half.ensures c.clear_fraction.ensures
