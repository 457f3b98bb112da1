-- Conditions with their numbers. A stream is refused by the first that holds, in the order of checking, which is not
-- the order of the numbers.
use Rattle.std.specs.Prelude.{◌≡◌, ℕ, Bool, false, cond, List, [], ◌∷◌}

-- its number, and whether it holds
abbrev pub Condition : Type 0
Condition = ℕ × Bool

-- the number of the first that holds; 0 where none does
unfoldable pub first_of : List Condition → ℕ
first_of [] = 0
first_of (c ∷ cs) = cond c.1 c.0 (first_of cs)

abbrev pub NoneHolds : List Condition → Type 0
NoneHolds [] = Unit {0}
NoneHolds (c ∷ cs) = (c.1 ≡ false) × NoneHolds cs
