-- What each function answers, for every f64. A value is `nan`, an infinity, or `fin s m e`: the number m * 2 ^ e,
-- negative where s is true. m * 2 ^ e is the fraction m * up e / down e.
use Rattle.std.specs.Prelude.{Bool, true, false, ℕ, ◌+◌, ◌-◌, ◌*◌, ◌/◌, Float}
use Rattle.std.specs.Float.{nan, inf, fin, binary64}
use Rattle.std.specs.Float.Ieee.{up, down, round, is_nan, add, rem, lt, of_bits}

-- `if`, as a function of the test's answer and both arms
abbrev pub pick : Bool → Float → Float → Float
pick true x y = x
pick false x y = y

-- f64::abs
unfoldable pub abs_of : Float → Float
abs_of nan = nan
abs_of (inf s) = inf false
abs_of (fin s m e) = fin false m e

-- f64::max and f64::min: a NaN loses to the other operand. Where both compare equal, as 0.0 and -0.0 do, x comes back.
unfoldable pub max_of : Float → Float → Float
max_of x y = pick (is_nan x) y (pick (lt x y) y x)

unfoldable pub min_of : Float → Float → Float
min_of x y = pick (is_nan x) y (pick (lt y x) y x)

-- The whole number w with the sign s. `round` is exact there: w comes from a value of the format, so it has at most 53
-- digits before its zeros (`Laws.Whole`).
abbrev pub whole_at : Bool → ℕ → Float
whole_at s w = round binary64 s w 1

-- f64::trunc: the whole part, with the argument's sign
unfoldable pub trunc_of : Float → Float
trunc_of nan = nan
trunc_of (inf s) = inf s
trunc_of (fin s m e) = whole_at s (m * up e / down e)

-- f64::ceil: the least whole number that is not below the argument; -0.0 for an argument from -1 up to -0.0, -1 left
-- out
unfoldable pub ceil_of : Float → Float
ceil_of nan = nan
ceil_of (inf s) = inf s
ceil_of (fin true m e) = whole_at true (m * up e / down e)
ceil_of (fin false m e) = whole_at false ((m * up e + (down e - 1)) / down e)

-- f64::round: the nearest whole number, halves away from zero, with the argument's sign
unfoldable pub round_of : Float → Float
round_of nan = nan
round_of (inf s) = inf s
round_of (fin s m e) = whole_at s ((2 * (m * up e) + down e) / (2 * down e))

-- `%`, plus 360 where that is negative: f64::rem_euclid(360.0) as document 01 has it
unfoldable pub rem_euclid360_of : Float → Float
rem_euclid360_of x =
    let r = rem binary64 x (of_bits binary64 0x4076800000000000) in
    pick (lt r (of_bits binary64 0)) (add binary64 r (of_bits binary64 0x4076800000000000)) r
