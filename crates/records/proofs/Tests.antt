-- Tests: every number below n, and a list of zeros.
use mathlib.Core.Path.{◌≡◌, refl, sym, ◌∙◌}
use mathlib.Core.List.{List, [], ◌∷◌}
use mathlib.Core.Bool.{Bool, true, false, and-false}
use mathlib.Core.Logic.{⊎_elim}
use Prim.Native.Nat.{ℕ, zero, suc, ◌+◌, ◌-◌, ◌≤◌, ◌<◌}
use native.Mathlib.Nat.{eq-or-lt_of_le}
use native.Mathlib.Numerals.{add-one}
use native.Mathlib.Omega.{arith}
use lib.ListN.{length, get_or, drop, drop_of_length-le}
use lib.Seq.{drop-cons}
use lib.Dec.{eqb}
use borrow.Author.Tests.{eq-eqb, ne_eqb, eqb-true}
use Rattle.stream.specs.Numbers.{u16_at, u32_at, u64_at}
use Rattle.std.specs.Char.{is_ascii_graphic}
use Rattle.std.specs.List.{list_all}
use Rattle.std.proofs.Common.{ap, take, length-drop, get_or-drop}
use Rattle.std.proofs.lemmas.List.Folds.{list_all_more}
use Rattle.records.specs.Records.{all_to, all_zero, ascii_graphic}
use Rattle.records.specs.Laws.Tests.{and_left, and_right}

-- ---- every number below n
pub all_to-more : (f : ℕ → Bool) (k : ℕ) → all_to f k ≡ true → f k ≡ true → all_to f (k + 1) ≡ true
unfolding all_to
all_to-more f k a b = rw (add-one, a, b) refl

le_of_suc : {i n : ℕ} → i < suc n → i ≤ n
le_of_suc h = omega arith

pub all_to_fails : (f : ℕ → Bool) (n i : ℕ) → i < n → f i ≡ false → all_to f n ≡ false
unfolding all_to
all_to_fails f zero i h e = absurd (omega arith)
all_to_fails f (suc n) i h e =
    ⊎_elim (λ (eq : i ≡ n). rw (← eq, e, and-false) refl) (λ (lt : i < n). rw (all_to_fails f n i lt e) refl) (eq-or-lt_of_le (le_of_suc h))

pub all_to_same : (f g : ℕ → Bool) (n : ℕ) → ((k : ℕ) → k < n → f k ≡ g k) → all_to f n ≡ all_to g n
unfolding all_to
all_to_same f g zero e = refl
all_to_same f g (suc n) e = rw (all_to_same f g n (λ k h. e k (omega arith)), e n (omega arith)) refl

-- n elements of a list, from p on
listed : (f : ℕ → Bool) (l : List ℕ) (p n : ℕ) → p + n ≤ length l → list_all f (take n (drop p l)) ≡ all_to (λ i. f (get_or l (p + i) 0)) n
unfolding all_to
listed f l p zero h = refl
listed f l p (suc n) h =
    let here : n < length (drop p l) = omega (arith, length-drop p l) in
    ap (λ (k : ℕ). list_all f (take k (drop p l))) (sym (add-one n)) ∙ list_all_more f (drop p l) n 0 here ∙ rw (listed f l p n (omega arith), get_or-drop) refl

-- as a slice has them
pub all_listed : (f : ℕ → Bool) (l : List ℕ) (p n : ℕ) → p + n ≤ length l → list_all f (take (p + n - p) (drop p l)) ≡ all_to (λ i. f (get_or l (p + i) 0)) n
all_listed f l p n h = let e : p + n - p ≡ n = omega arith in rw e (listed f l p n h)

-- std's test of a byte
pub graphic_is : (x : ℕ) → is_ascii_graphic x ≡ ascii_graphic x
unfolding ascii_graphic
graphic_is x = refl

-- ---- zeros
zero-at : (l : List ℕ) (i : ℕ) → all_zero l ≡ true → get_or l i 0 ≡ 0
unfolding all_zero
zero-at [] i h = refl
zero-at (x ∷ l) zero h = eqb-true x 0 (and_left (eqb x 0) (all_zero l) h)
zero-at (x ∷ l) (suc i) h = zero-at l i (and_right (eqb x 0) (all_zero l) h)

-- a test is false if a true one is absurd
refuted : (b : Bool) → (b ≡ true → ⊥) → false ≡ b
refuted true h = absurd (h refl)
refuted false h = refl

module _ (l : List ℕ) (i : ℕ) where
  word-zero : all_zero l ≡ true → u32_at l i ≡ 0
  unfolding u32_at u16_at
  word-zero h = rw (zero-at l i h, zero-at l (i + 1) h, zero-at l (i + 2) h, zero-at l (i + 2 + 1) h) refl

  pub byte_fails : i < length l → (get_or l i 0 ≡ 0 → ⊥) → false ≡ all_zero (drop i l)
  unfolding all_zero
  byte_fails h e = rw (drop-cons l i 0 h, ne_eqb (get_or l i 0) 0 e) refl

  pub zero-done : length l ≤ i → true ≡ all_zero (drop i l)
  unfolding all_zero
  zero-done h = rw (drop_of_length-le l h) refl

  -- zeros may be left out
  pub byte_turn : (j : ℕ) → i + 1 ≡ j → i < length l → get_or l i 0 ≡ 0 → all_zero (drop i l) ≡ all_zero (drop j l)
  unfolding all_zero
  byte_turn j q h e = rw (← q, drop-cons l i 0 h, eq-eqb (get_or l i 0) 0 e, add-one) refl

word_turn : (l : List ℕ) (i j : ℕ) → i + 4 ≡ j → j ≤ length l → u32_at l i ≡ 0 → all_zero (drop i l) ≡ all_zero (drop j l)
unfolding u32_at u16_at
word_turn l i j q h e =
    byte_turn l i (i + 1) refl (omega arith) (omega arith)
    ∙ byte_turn l (i + 1) (i + 2) (omega arith) (omega arith) (omega arith)
    ∙ byte_turn l (i + 2) (i + 2 + 1) refl (omega arith) (omega arith)
    ∙ byte_turn l (i + 2 + 1) j (omega arith) (omega arith) (omega arith)

module _ (l : List ℕ) (i : ℕ) where
  pub long_fails : (u64_at l i ≡ 0 → ⊥) → false ≡ all_zero l
  unfolding u64_at
  long_fails e = refuted (all_zero l) (λ h. e (rw (word-zero l i h, word-zero l (i + 4) h) refl))

  pub long_turn : {j : ℕ} → i + 8 ≡ j → j ≤ length l → u64_at l i ≡ 0 → all_zero (drop i l) ≡ all_zero (drop j l)
  unfolding u64_at
  long_turn {j} q h e = word_turn l i (i + 4) refl (omega arith) (omega arith) ∙ word_turn l (i + 4) j (omega arith) (omega arith) (omega arith)
