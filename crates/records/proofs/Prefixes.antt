-- Two names, by the bytes that they begin with alike.
use mathlib.Core.Path.{◌≡◌, refl, sym, ◌∙◌}
use mathlib.Core.List.{List, [], ◌∷◌}
use mathlib.Core.Bool.{false, or-false}
use Prim.Native.Nat.{ℕ, suc, ◌+◌, ◌≤◌, ◌<◌, min}
use native.Mathlib.Decide.{dec_lt, ℕ_discrete}
use native.Mathlib.Numerals.{add-one}
use native.Mathlib.Omega.{arith}
use lib.ListN.{length, get_or, drop, drop_of_length-le}
use lib.Seq.{drop-cons}
use lib.Dec.{ltb}
use borrow.Author.Tests.{lt-ltb, le-ltb, eq-eqb, ne_eqb}
use Rattle.records.specs.Layout.{before}
use Rattle.records.specs.Inner.Names.{common_prefix}

-- ---- the first i bytes agree
common_none : (a : List ℕ) → common_prefix a [] ≡ 0
unfolding common_prefix
common_none [] = refl
common_none (x ∷ xs) = refl

module _ (a b : List ℕ) {n m : ℕ} (la : length a ≡ n) (lb : length b ≡ m) {i : ℕ} (so : common_prefix a b ≡ i + common_prefix (drop i a) (drop i b)) where
  first_ends : n ≤ i → i ≡ common_prefix a b
  unfolding common_prefix
  first_ends h = sym (so ∙ rw (drop_of_length-le a {i = i} (omega arith)) (omega arith))

  second-ends : m ≤ i → i ≡ common_prefix a b
  second-ends h = sym (so ∙ rw (drop_of_length-le b {i = i} (omega arith), common_none) (omega arith))

  pub either_ends : {e : ℕ} → i ≡ e → e ≡ min n m → e ≡ common_prefix a b
  either_ends h k =
      elim (dec_lt i n) [
        | yes l ↦ sym h ∙ second-ends (omega arith)
        | no l ↦ sym h ∙ first_ends (omega arith)
      ]

  module _ (h : i < n) (k : i < m) {x y : ℕ} (ex : x ≡ get_or a i 0) (ey : y ≡ get_or b i 0) where
    pub bytes_differ : (x ≡ y → ⊥) → i ≡ common_prefix a b
    unfolding common_prefix
    bytes_differ d = sym (so ∙ rw (drop-cons a i 0 (omega arith), drop-cons b i 0 (omega arith), ne_eqb (get_or a i 0) (get_or b i 0) (λ e. d (omega arith))) (omega arith))

    pub bytes-agree : x ≡ y → common_prefix a b ≡ (i + 1) + common_prefix (drop (i + 1) a) (drop (i + 1) b)
    unfolding common_prefix
    bytes-agree e = so ∙ rw (drop-cons a i 0 (omega arith), drop-cons b i 0 (omega arith), eq-eqb (get_or a i 0) (get_or b i 0) (omega arith), add-one) (omega arith)

-- ---- the order of names is that of what follows the bytes that they begin with alike
common_nil : (b : List ℕ) → common_prefix [] b ≡ 0
unfolding common_prefix
common_nil b = refl

module _ (x y : ℕ) (xs ys : List ℕ) where
  common_more : x ≡ y → common_prefix (x ∷ xs) (y ∷ ys) ≡ suc (common_prefix xs ys)
  unfolding common_prefix
  common_more e = rw (eq-eqb x y e) refl

  common_apart : (x ≡ y → ⊥) → common_prefix (x ∷ xs) (y ∷ ys) ≡ 0
  unfolding common_prefix
  common_apart e = rw (ne_eqb x y e) refl

  before_same : x ≡ y → before (x ∷ xs) (y ∷ ys) ≡ before xs ys
  unfolding before
  before_same e = rw (eq-eqb x y e, le-ltb x y (omega arith)) refl

before-rest : (a b : List ℕ) → before a b ≡ before (drop (common_prefix a b) a) (drop (common_prefix a b) b)
before-rest [] b = rw (common_nil b) refl
before-rest (x ∷ xs) [] = rw (common_none (x ∷ xs)) refl
before-rest (x ∷ xs) (y ∷ ys) =
    elim (ℕ_discrete x y) [
      | yes e ↦ rw (common_more x y xs ys e) (before_same x y xs ys e ∙ before-rest xs ys)
      | no e ↦ rw (common_apart x y xs ys e) refl
    ]

-- and there they differ
rest_differs : (a b : List ℕ) → common_prefix a b < length a → common_prefix a b < length b → get_or a (common_prefix a b) 0 ≡ get_or b (common_prefix a b) 0 → ⊥
rest_differs [] b h k d = absurd (omega arith)
rest_differs (x ∷ xs) [] h k d = absurd (omega arith)
rest_differs (x ∷ xs) (y ∷ ys) h k d =
    elim (ℕ_discrete x y) [
      | yes e ↦
          let c = common_more x y xs ys e in
          rest_differs xs ys (omega (arith, c)) (omega (arith, c)) (rw c at d)
      | no e ↦ e (rw (common_apart x y xs ys e) at d)
    ]

none_after : (l : List ℕ) → before l [] ≡ false
unfolding before
none_after [] = refl
none_after (x ∷ xs) = refl

module _ (a b : List ℕ) {n m : ℕ} (la : length a ≡ n) (lb : length b ≡ m) {i : ℕ} (is : i ≡ common_prefix a b) where
  so : before a b ≡ before (drop i a) (drop i b)
  so = rw is (before-rest a b)

  ended : m ≤ i → false ≡ before a b
  ended h = sym (so ∙ rw (drop_of_length-le b {i = i} (omega arith)) (none_after (drop i a)))

  pub second_ended : m ≤ i → i ≤ n → ltb n m ≡ before a b
  second_ended h k = rw (le-ltb n m (omega arith)) (ended h)

  pub first_ended : i ≡ n → ltb n m ≡ before a b
  unfolding before
  first_ended h =
      elim (dec_lt i m) [
        | yes k ↦ rw (lt-ltb n m (omega arith)) (sym (so ∙ rw (drop_of_length-le a {i = i} (omega arith), drop-cons b i 0 (omega arith)) refl))
        | no k ↦ second_ended (omega arith) (omega arith)
      ]

  module _ (h : i < n) (k : i < m) {x y : ℕ} (ex : x ≡ get_or a i 0) (ey : y ≡ get_or b i 0) where
    apart : get_or a i 0 ≡ get_or b i 0 → ⊥
    apart = rw is (rest_differs a b (omega arith) (omega arith))

    pub by_next : ltb x y ≡ before a b
    unfolding before
    by_next = sym (so ∙ rw (drop-cons a i 0 (omega arith), drop-cons b i 0 (omega arith), ne_eqb (get_or a i 0) (get_or b i 0) apart, ex, ey) (or-false (ltb (get_or a i 0) (get_or b i 0))))
