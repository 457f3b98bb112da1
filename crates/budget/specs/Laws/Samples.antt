-- Rows 1 to 3 of document 01's table.
use Rattle.std.specs.Prelude.{◌≡◌, refl, true, false}
use Rattle.budget.specs.Budget.{fresh, grant_of, take_of}

taken :
    -- 1: left 5, wanted 9, floor 8: 8, left 0, short
    (take_of (fresh 5) 9 8 ≡ record { granted = 8; budget = record { left = 0; hit = true } })
    -- 2: left 9, wanted 9, floor 8: 9, left 0
    × (take_of (fresh 9) 9 8 ≡ record { granted = 9; budget = record { left = 0; hit = false } })
    -- 3: left 0, wanted 1, floor 1: 1
    × (take_of (fresh 0) 1 1 ≡ record { granted = 1; budget = record { left = 0; hit = false } })
unfolding take_of grant_of
taken = (refl, refl, refl)
