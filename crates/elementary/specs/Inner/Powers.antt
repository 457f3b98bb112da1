-- What the power of two asks of its exponent.
use Rattle.std.specs.Prelude.{ℕ, ◌≤◌, Bool, Float}
use Rattle.std.specs.Float.Ieee.Exact.{HasValue}

-- k is a whole number, at most 1010 in size: so 2 ^ k is a value of the format, and no subnormal one
pub record Small (k : Float) : Type 0 where
  pub minus : Bool
  pub size : ℕ
  pub whole : HasValue k minus size 1
  pub most : size ≤ 1010
