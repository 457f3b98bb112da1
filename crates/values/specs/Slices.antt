-- Slices as lists.
use Rattle.std.specs.Prelude.{ℕ, ◌+◌, List, ◌++◌, length, take, drop}

-- w with vs in the place of what stood there from `at` on
unfoldable pub put : {A : Type 0} → List A → ℕ → List A → List A
put w at vs = take at w ++ (vs ++ drop (at + length vs) w)
