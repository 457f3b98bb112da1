-- The table's entries one by one, condition 20, and the built-in table beside the rule that stood in its place. Assumes nothing.
use Rattle.std.specs.Prelude.{ℕ, zero, suc, ◌+◌, ◌<◌, ◌≤◌, ◌≡◌, true, false, ◌||◌, cond, List, [], ◌∷◌, length, get_or, eqb, ltb}
use Rattle.std.specs.List.{list_any}
use Rattle.std.proofs.Common.{refl, arith, eq-eqb, ne_eqb}
use Rattle.stream.specs.Conditions.{first_of}
use Rattle.stream.specs.Laws.Conditions.{Numbered}
use Rattle.kind_table.specs.KindTable.{entry_of, any_above, unusable, of_kind_table, built_in}

pub table_numbered : (kinds : List ℕ) → Numbered (of_kind_table kinds)
unfolding of_kind_table
table_numbered kinds = (omega arith, tt)

-- ---- an entry, where there is one and where there is none
pub entry_within : (kinds : List ℕ) (k : ℕ) → k < length kinds → get_or kinds k 0 ≡ entry_of kinds k
unfolding entry_of
entry_within [] k h = absurd (omega arith)
entry_within (e ∷ es) zero h = refl
entry_within (e ∷ es) (suc k) h = entry_within es k (omega arith)

pub entry_none : (kinds : List ℕ) (k : ℕ) → length kinds ≤ k → 2 ≡ entry_of kinds k
unfolding entry_of
entry_none [] k h = refl
entry_none (e ∷ es) zero h = absurd (omega arith)
entry_none (e ∷ es) (suc k) h = entry_none es k (omega arith)

-- ---- std's test of all entries
pub any_above_listed : (kinds : List ℕ) → list_any (ltb 2) kinds ≡ any_above kinds
unfolding any_above
any_above_listed [] = refl
any_above_listed (e ∷ es) = rw (any_above_listed es)

-- ---- condition 20, test by test
module _ (kinds : List ℕ) where
  pub refused_table : unusable kinds ≡ true → first_of (of_kind_table kinds) ≡ 20
  unfolding first_of of_kind_table
  refused_table h = rw h

  pub other_length : (length kinds ≡ 11 → ⊥) → 20 ≡ first_of (of_kind_table kinds)
  unfolding first_of of_kind_table unusable
  other_length h = rw (ne_eqb (length kinds) 11 h) refl

  module _ (eleven : length kinds ≡ 11) where
    pub entry_above : any_above kinds ≡ true → 20 ≡ first_of (of_kind_table kinds)
    unfolding first_of of_kind_table unusable
    entry_above h = rw (eq-eqb (length kinds) 11 eleven, h) refl

    module _ (within : any_above kinds ≡ false) where
      pub block-drawn : (entry_of kinds 10 ≡ 2 → ⊥) → 20 ≡ first_of (of_kind_table kinds)
      unfolding first_of of_kind_table unusable
      block-drawn h = rw (eq-eqb (length kinds) 11 eleven, within, ne_eqb (entry_of kinds 10) 2 h) refl

      pub is_usable : entry_of kinds 10 ≡ 2 → 0 ≡ first_of (of_kind_table kinds)
      unfolding first_of of_kind_table unusable
      is_usable h = rw (eq-eqb (length kinds) 11 eleven, within, eq-eqb (entry_of kinds 10) 2 h) refl

-- ---- the built-in table: it can be used, and its entries are the rule that stood in its place
pub built_in_usable : unusable built_in ≡ false
unfolding unusable any_above entry_of built_in
built_in_usable = refl

-- block was not drawn, text and dot were on the screen
abbrev fixed_rule : ℕ → ℕ
fixed_rule k = cond (eqb k 10) 2 (cond (eqb k 7 || eqb k 8) 1 0)

-- what a rule says of the n kinds from k on
abbrev entries_from : (ℕ → ℕ) → ℕ → ℕ → List ℕ
entries_from rule k zero = []
entries_from rule k (suc n) = rule k ∷ entries_from rule (suc k) n

entry_at : (rule : ℕ → ℕ) (j k n i : ℕ) → i < n → j ≡ k + i → get_or (entries_from rule k n) i 2 ≡ rule j
entry_at rule j k zero i h e = absurd (omega arith)
entry_at rule j k (suc n) zero h e = let same : k ≡ j = omega arith in rw same
entry_at rule j k (suc n) (suc i) h e = entry_at rule j (suc k) n i (omega arith) (omega arith)

pub built_in_rule : (k : ℕ) → k ≤ 10 → entry_of built_in k ≡ fixed_rule k
unfolding entry_of built_in
built_in_rule k h = entry_at fixed_rule k 0 11 k (omega arith) (omega arith)
