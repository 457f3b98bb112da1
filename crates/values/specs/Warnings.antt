-- Document 01's warnings, by their number and what they are about.
use Rattle.std.specs.Prelude.{ℕ}

-- `index` is 0 where none applies
pub record Warning : Type 0 where
  pub kind : ℕ
  pub index : ℕ
