-- Document 02, vi: the table of a byte for each kind that the host lends, and condition 20. Entries: 0 geographic, 1 screen, 2 not drawn.
use Rattle.std.specs.Prelude.{ℕ, Bool, false, not, ◌||◌, List, [], ◌∷◌, length, get_or, eqb, ltb}
use Rattle.stream.specs.Conditions.{Condition}

-- the entry of a kind, by its position in KINDS; a kind that has none is not drawn
unfoldable pub entry_of : List ℕ → ℕ → ℕ
entry_of kinds k = get_or kinds k 2

-- of an item by its hidden flag and the entry of its kind: an entry of 2 is as if hidden
unfoldable pub not_drawn : Bool → ℕ → Bool
not_drawn hidden e = hidden || eqb e 2

-- of an item by its screen class and the entry of its kind
unfoldable pub on_screen : Bool → ℕ → Bool
on_screen class e = class || eqb e 1

-- ---- condition 20: the table is not 11 bytes, an entry is above 2, or the entry for block, which is kind 10, is not 2
unfoldable pub any_above : List ℕ → Bool
any_above [] = false
any_above (e ∷ es) = ltb 2 e || any_above es

unfoldable pub unusable : List ℕ → Bool
unusable kinds = not (eqb (length kinds) 11) || (any_above kinds || not (eqb (entry_of kinds 10) 2))

unfoldable pub of_kind_table : List ℕ → List Condition
of_kind_table kinds = (20, unusable kinds) ∷ []

-- ---- the built-in table: text and dot on the screen, block not drawn, the rest geographic
unfoldable pub built_in : List ℕ
built_in = 0 ∷ 0 ∷ 0 ∷ 0 ∷ 0 ∷ 0 ∷ 0 ∷ 1 ∷ 1 ∷ 0 ∷ 2 ∷ []
