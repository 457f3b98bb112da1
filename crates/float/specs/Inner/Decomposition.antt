-- A finite pattern above zero, taken apart.
use Rattle.std.specs.Prelude.{◌≡◌, ℕ, zero, suc, ◌+◌, ◌*◌, ◌/◌, ◌%◌, ◌^◌, ◌≤◌, ◌<◌}

-- the value of a finite pattern with the exponent's field f and the digits t, in units of the format's smallest value,
-- 2 ^ -1074
abbrev pub units_at : ℕ → ℕ → ℕ
units_at zero t = t
units_at (suc k) t = (2 ^ 52 + t) * 2 ^ k

-- the pattern b stands for m * 2 ^ e in units of 2 ^ -2150, and m has all of its 53 digits in use
pub record Decomposition (b m e : ℕ) : Type 0 where
  pub value : units_at (b / 2 ^ 52) (b % 2 ^ 52) * 2 ^ 1076 ≡ m * 2 ^ e
  pub full : 2 ^ 52 ≤ m
  pub small : m < 2 ^ 53
  pub low : 1024 ≤ e
  pub high : e ≤ 3121
