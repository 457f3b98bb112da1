-- What is known of a whole root between the halves of its digits.
use Rattle.std.specs.Prelude.{◌≡◌, ◌⊎◌, ℕ, ◌+◌, ◌*◌, ◌^◌, ◌≤◌, ◌<◌}

-- ---- a guess
-- low and low + rise are the whole roots of i * 2 ^ 48 and of (i + 1) * 2 ^ 48
abbrev pub IsChord : ℕ → ℕ → ℕ → Type 0
IsChord i low rise =
    (low * low ≤ i * 2 ^ 48)
    × (i * 2 ^ 48 < (low + 1) * (low + 1))
    × ((low + rise) * (low + rise) ≤ (i + 1) * 2 ^ 48)
    × ((i + 1) * 2 ^ 48 < (low + rise + 1) * (low + rise + 1))

-- g is not above the root of m, and so near it that the mean of g and m / g is less than one above it
pub record NearRoot (m g : ℕ) : Type 0 where
  pub least : 2 ^ 26 ≤ g
  pub above : g * g ≤ m
  pub below : m ≤ g * g + (2 ^ 40 + 2 ^ 31)

-- ---- a half of the digits
-- n is a square and what is left, too little for the next square: `root` is the whole root of n
pub record IsRemainder (n root rem : ℕ) : Type 0 where
  pub is : n ≡ root * root + rem
  pub little : rem ≤ 2 * root

-- 27 digits were worked out of an exact root of n, which ends there, and 54 of any other
abbrev pub Ends : ℕ → ℕ → ℕ → Type 0
Ends n root worked = ((worked ≡ 27) × (root * root ≡ n)) ⊎ ((worked ≡ 54) × (root * root ≡ n → ⊥))
