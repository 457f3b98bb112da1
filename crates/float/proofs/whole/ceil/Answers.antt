use mathlib.Core.Path.{◌≡◌, ◌∙◌}
use mathlib.Core.Bool.{true}
use lib.Ieee.{binary64, fits, to_bits}
use Rattle.float.specs.Inner.Fraction.{HasFraction}
use Rattle.float.specs.Laws.Whole.{ceil_by_rule}
use Rattle.float.proofs.Fractions.{above_number, large_own, small_ceil, ceil_cleared, up_to_zero}
use Rattle.float.proofs.whole.ceil.Goals as goal

pub float_to_bits-b : goal.float_to_bits-b
float_to_bits-b c = above_number c.args.x c.if-x.true

pub returns-then-f-ge-FIELD_WHOLE : goal.returns-then-f-ge-FIELD_WHOLE
returns-then-f-ge-FIELD_WHOLE c =
    let held : fits binary64 c.args.x ≡ true = c.well_formed.0.1 in
    large_own c.args.x (held) ceil_by_rule c.if-f-ge-FIELD_WHOLE.true

pub returns-then-f-lt-FIELD_ONE : goal.returns-then-f-lt-FIELD_ONE
returns-then-f-lt-FIELD_ONE c =
    let held : fits binary64 c.args.x ≡ true = c.well_formed.0.1 in
    small_ceil c.args.x (held) c.if-x.true c.if-f-lt-FIELD_ONE.true

pub unit-u-requires : goal.unit-u-requires
unit-u-requires c =
    let fraction : HasFraction (to_bits binary64 c.args.x) = record { low = c.if-f-lt-FIELD_ONE.false; high = c.if-f-ge-FIELD_WHOLE.false } in
    fraction

pub returns-then-x : goal.returns-then-x
returns-then-x c =
    let held : fits binary64 c.args.x ≡ true = c.well_formed.0.1 in
    let fraction : HasFraction (to_bits binary64 c.args.x) = record { low = c.if-f-lt-FIELD_ONE.false; high = c.if-f-ge-FIELD_WHOLE.false } in
    ceil_cleared c.args.x (held) (fraction) c.clear_fraction.result
    c.unit-u.result c.if-x.true c.unit-u.ensures.is c.clear_fraction.ensures

pub returns : goal.returns
returns c = c.trunc.ensures ∙ up_to_zero c.args.x c.if-x.false
