-- What an answer of `check_blocks` stands for: document 01's number, and how many blocks it counts.
use Rattle.std.specs.Prelude.{◌≡◌, ℕ, ◌/◌, cond, List, Result, Ok, Err, length, ◌==◌}
use Rattle.values.specs.declared.refusal.Refusal.{Refusal}
use Rattle.values.specs.Inner.Refusals.{number_by}
use Rattle.stream.specs.Conditions.{first_of}
use Rattle.stream.specs.Blocks.{of_blocks}

abbrev pub count_by : Result ℕ Refusal → ℕ
count_by (Ok n) = n
count_by (Err r) = 0

-- the first of conditions 1 and 2 that holds, and all blocks where none does
pub record BlocksChecked (s : List ℕ) (r : Result ℕ Refusal) : Type 0 where
  pub number : number_by r ≡ first_of (of_blocks s)
  pub count : count_by r ≡ cond (number_by r == 0) (length s / 512) 0
