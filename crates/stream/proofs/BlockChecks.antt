-- The checks one block further, and what is found of a stream, case by case.
use Rattle.std.proofs.Common.{◌≡◌, ℕ, zero, suc, ◌+◌, ◌*◌, ◌/◌, ◌%◌, ◌<◌, ◌≤◌, true, false, List, Ok, Err, length, refl, ⊎_elim, eq-or-lt_of_le, add-one, arith, eq-eqb, ne_eqb, le-leb}
use mathlib.Core.Bool.{and-false}
use borrow.Author.Tests.{lt-leb}
use Rattle.stream.specs.Numbers.{u32_at}
use Rattle.stream.specs.Conditions.{first_of}
use Rattle.stream.specs.Blocks.{word_sum, checked, all_checked, sized, of_blocks}
use Rattle.stream.specs.Inner.Blocks.{BlocksChecked}
use Rattle.values.specs.declared.refusal.Refusal.TheVariants.{Size, Check}

pub word_sum-more : (s : List ℕ) (p k : ℕ) → word_sum s p (k + 1) ≡ word_sum s p k + u32_at s (p + 4 * k)
unfolding word_sum
word_sum-more s p k = rw add-one

pub all_checked-more : (s : List ℕ) (k : ℕ) → all_checked s k ≡ true → checked s k ≡ true → all_checked s (k + 1) ≡ true
unfolding all_checked
all_checked-more s k a b = rw (add-one, a, b)

le_of_suc : {i n : ℕ} → i < suc n → i ≤ n
le_of_suc h = omega arith

all_checked_fails : (s : List ℕ) (i n : ℕ) → i < n → checked s i ≡ false → all_checked s n ≡ false
unfolding all_checked
all_checked_fails s i zero h e = absurd (omega arith)
all_checked_fails s i (suc n) h e =
    ⊎_elim (λ (eq : i ≡ n). rw (← eq, e, and-false)) (λ (lt : i < n). rw (all_checked_fails s i n lt e)) (eq-or-lt_of_le (le_of_suc h))

module _ (s : List ℕ) where
  not-sized : sized s ≡ false → BlocksChecked s (Err Size)
  unfolding of_blocks first_of
  not-sized e = record { number = rw e; count = refl }

  pub empty : length s ≡ 0 → BlocksChecked s (Err Size)
  unfolding sized
  empty h = not-sized (let k : length s < 1 = omega arith in simp (lt-leb 1 (length s) k))

  pub ragged : (length s % 512 ≡ 0 → ⊥) → BlocksChecked s (Err Size)
  unfolding sized
  ragged h = not-sized (simp (ne_eqb (length s % 512) 0 h, and-false))

  pub many : 65536 < length s / 512 → BlocksChecked s (Err Size)
  unfolding sized
  many h = not-sized (simp (lt-leb (length s / 512) 65536 h, and-false))

  module _ (h : length s ≡ 0 → ⊥) (e : length s % 512 ≡ 0) (l : length s / 512 ≤ 65536) where
    is-sized : sized s ≡ true
    unfolding sized
    is-sized = let k : 1 ≤ length s = omega arith in simp (le-leb 1 (length s) k, eq-eqb (length s % 512) 0 e, le-leb (length s / 512) 65536 l)

    pub wrong : (i : ℕ) → i < length s / 512 → checked s i ≡ false → BlocksChecked s (Err Check)
    unfolding of_blocks first_of
    wrong i k f = record { number = rw (is-sized, all_checked_fails s i (length s / 512) k f); count = refl }

    pub fine : (i : ℕ) → i ≤ length s / 512 → length s / 512 ≤ i → all_checked s i ≡ true → BlocksChecked s (Ok (length s / 512))
    unfolding of_blocks first_of
    fine i a b t =
        let q : i ≡ length s / 512 = omega arith in
        record { number = rw (is-sized, rw q at t); count = refl }
