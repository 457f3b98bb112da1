-- The blocks of a stream: 512 bytes each, 127 words and a word that checks them. Conditions 1 and 2.
use Rattle.std.specs.Prelude.{ℕ, zero, suc, ◌+◌, ◌*◌, ◌/◌, ◌%◌, ◌^◌, Bool, true, not, ◌&&◌, List, [], ◌∷◌, length, ◌==◌, nat_le}
use Rattle.stream.specs.Numbers.{u32_at}
use Rattle.stream.specs.Conditions.{Condition}

-- condition 1: not empty, whole blocks, not too many
unfoldable pub sized : List ℕ → Bool
sized s = nat_le 1 (length s) && (length s % 512 == 0 && nat_le (length s / 512) 65536)

-- the sum of the n words from p on
unfoldable pub word_sum : List ℕ → ℕ → ℕ → ℕ
word_sum s p zero = 0
word_sum s p (suc n) = word_sum s p n + u32_at s (p + 4 * n)

-- block i: its last word is the sum of the others and i, wrapped
unfoldable pub checked : List ℕ → ℕ → Bool
checked s i = (word_sum s (512 * i) 127 + i) % 2 ^ 32 == u32_at s (512 * i + 508)

-- condition 2 for the first n blocks
unfoldable pub all_checked : List ℕ → ℕ → Bool
all_checked s zero = true
all_checked s (suc n) = all_checked s n && checked s n

unfoldable pub of_blocks : List ℕ → List Condition
of_blocks s = (1, not (sized s)) ∷ (2, not (all_checked s (length s / 512))) ∷ []
