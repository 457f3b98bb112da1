-- The values of an item: one whose bit is set lies within them, behind those of lower bits.
use Rattle.std.specs.Prelude.{◌≡◌, refl, Bool, true, cond, ℕ, zero, suc, ◌+◌, ◌/◌, ◌%◌, ◌≤◌, ◌<◌, leb}
use Rattle.std.proofs.Common.{⊎_elim, eq-or-lt_of_le, le_of_suc-le-suc, arith}
use borrow.Author.Tests.{eqb-true, leb-true}
use Rattle.records.specs.Records.{all_to, values_width}
use Rattle.records.specs.Laws.Tests.{and_left, and_right}
use Rattle.scene.specs.Scene.{bit}

-- the place of bit k's value, tested for each presence byte
fits : ℕ → ℕ → Bool
fits k m = cond (bit m k) (leb (values_width (m % k) + 8) (values_width m)) true

tested : (all_to (fits 2) 32 ≡ true) × (all_to (fits 4) 32 ≡ true) × (all_to (fits 8) 32 ≡ true) × (all_to (fits 16) 32 ≡ true)
unfolding all_to fits bit values_width
tested = (refl, refl, refl, refl)

pub all-at : (f : ℕ → Bool) (n m : ℕ) → all_to f n ≡ true → m < n → f m ≡ true
unfolding all_to
all-at f zero m e h = absurd (omega arith)
all-at f (suc n) m e h =
    ⊎_elim (λ (x : m ≡ n). rw x (and_right (all_to f n) _ e)) (λ (x : m < n). all-at f n m (and_left _ _ e) x) (eq-or-lt_of_le (le_of_suc-le-suc h))

module _ (m : ℕ) (h : m < 32) where
  behind : (k : ℕ) → all_to (fits k) 32 ≡ true → bit m k ≡ true → values_width (m % k) + 8 ≤ values_width m
  unfolding fits
  behind k e b = leb-true _ _ (rw b at (all-at (fits k) 32 m e h))

  pub at_within : bit m 1 ≡ true → 16 ≤ values_width m
  unfolding bit values_width
  at_within e = omega (arith, eqb-true (m / 1 % 2) 1 e)

  pub w_within : bit m 2 ≡ true → values_width (m % 2) + 8 ≤ values_width m
  w_within = behind 2 tested.0

  pub h_within : bit m 4 ≡ true → values_width (m % 4) + 8 ≤ values_width m
  h_within = behind 4 tested.1

  pub r_within : bit m 8 ≡ true → values_width (m % 8) + 8 ≤ values_width m
  r_within = behind 8 tested.2

  pub rad_within : bit m 16 ≡ true → values_width (m % 16) + 8 ≤ values_width m
  rad_within = behind 16 tested.3
