-- A finite pattern with digits on both sides of the point, as the functions that clear its fraction see it.
use Rattle.std.specs.Prelude.{◌≡◌, Bool, ℕ, ◌+◌, ◌-◌, ◌/◌, ◌%◌, ◌^◌, ◌≤◌, ◌<◌, leb}

-- the sign, the exponent's field, and the 53 digits with the leading one that the pattern leaves out
abbrev pub sign_of : ℕ → Bool
sign_of b = leb (2 ^ 63) b

abbrev pub field_of : ℕ → ℕ
field_of b = b / 2 ^ 52 % 2048

abbrev pub digits_of : ℕ → ℕ
digits_of b = 2 ^ 52 + b % 2 ^ 52

-- what one weighs among the digits: the value's size is digits_of b / unit_of b
abbrev pub unit_of : ℕ → ℕ
unit_of b = 2 ^ (1075 - field_of b)

-- the value is at least 1 and below 2 ^ 52 in size
pub record HasFraction (b : ℕ) : Type 0 where
  pub low : 1023 ≤ field_of b
  pub high : field_of b < 1075

pub record IsUnit (b u : ℕ) : Type 0 where
  pub is : u ≡ unit_of b
  pub least : 2 ≤ u
  pub most : u ≤ 2 ^ 52
