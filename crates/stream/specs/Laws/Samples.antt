-- Known streams: blocks of one byte repeated, whose sums and checks show at a glance.
use Rattle.std.specs.Prelude.{◌≡◌, ℕ, List, [], ◌∷◌, ◌++◌, replicate, refl}
use Rattle.stream.specs.Numbers.{u16_at, u32_at, u64_at}
use Rattle.stream.specs.Blocks.{sized, word_sum, checked, all_checked, of_blocks}
use Rattle.stream.specs.Conditions.{first_of}
use Rattle.stream.specs.Payload.{payloads, payload}

-- 127 * 0x01010101 + 0 is 0x7f7f7f7f
abbrev first : List ℕ
first = replicate 508 1 ++ replicate 4 127

-- 127 * 0x03030303 + 1 is 0x17e7e7e7e
abbrev second : List ℕ
second = replicate 508 3 ++ replicate 4 126

-- the sum without the index: 0x17e7e7e7d
abbrev unindexed : List ℕ
unindexed = replicate 508 3 ++ (125 ∷ replicate 3 126)

known :
    (first_of (of_blocks (first ++ second)) ≡ 0)
    × (first_of (of_blocks (first ++ unindexed)) ≡ 2)
    × (first_of (of_blocks (second ++ first)) ≡ 2)
    × (first_of (of_blocks []) ≡ 1)
    × (first_of (of_blocks (replicate 511 0)) ≡ 1)
    × (first_of (of_blocks (replicate 513 0)) ≡ 1)
    -- the border of the two payloads, at 508
    × (u16_at (payload (first ++ second)) 507 ≡ 0x0301)
    × (u32_at (payload (first ++ second)) 505 ≡ 0x03010101)
    × (u64_at (payload (first ++ second)) 506 ≡ 0x0303030303030101)
unfolding first_of of_blocks sized all_checked checked word_sum payload payloads u16_at u32_at u64_at
known = (refl, refl, refl, refl, refl, refl, refl, refl, refl)
