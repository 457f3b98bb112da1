-- The order of names, by their lengths and then by their bytes, is total.
use Rattle.std.specs.Prelude.{◌≡◌, refl, true, false, List, [], ◌∷◌, ℕ, ◌<◌, length}
use Rattle.std.proofs.Common.{sym, ap, ◌∙◌, true≢false, arith, eq-eqb, ne_eqb}
use Rattle.std.proofs.Math.Decide.{dec_lt}
use Rattle.std.specs.declared.cmp.Ordering.{Ordering}
use Rattle.std.specs.declared.cmp.Ordering.TheVariants.{Less, Equal, Greater}
use Rattle.std.specs.Ordering.{MatchOrdering, nat_cmp, ordering_then}
use Rattle.std.specs.Cmp.{ranks, one_rank}
use Rattle.std.specs.Cmp.Lexicographic.{slice_cmp}
use Rattle.records.specs.Layout.{before}
use Rattle.scene.specs.Labels.{same_bytes}
use Rattle.scene.specs.Laws.Names.{same_lengths}
use Rattle.scene.specs.Laws.Rising.{before_less, before-next, before-not_same, before_itself, before_trans}
use Rattle.names.specs.Inner.Table.{key_of}

pub same_itself : (a : List ℕ) → same_bytes a a ≡ true
unfolding same_bytes
same_itself [] = refl
same_itself (x ∷ xs) = rw (eq-eqb x x refl, same_itself xs) refl

-- `before` is the order that std gives to lists
pub ranked : (a b : List ℕ) → MatchOrdering (slice_cmp nat_cmp a b) (before a b ≡ true) (a ≡ b) (before b a ≡ true)
unfolding before
ranked [] [] = refl
ranked [] (y ∷ ys) = refl
ranked (x ∷ xs) [] = refl
ranked (x ∷ xs) (y ∷ ys) = next (nat_cmp x y) (slice_cmp nat_cmp xs ys) (ranks x y) (ranked xs ys)
  where
    next : (r s : Ordering) → MatchOrdering r (x < y) (x ≡ y) (y < x) → MatchOrdering s (before xs ys ≡ true) (xs ≡ ys) (before ys xs ≡ true)
        → MatchOrdering (ordering_then r s) (before (x ∷ xs) (y ∷ ys) ≡ true) (x ∷ xs ≡ y ∷ ys) (before (y ∷ ys) (x ∷ xs) ≡ true)
    next Less s h k = before_less x y xs ys h
    next Equal Less h k = before-next x y xs ys h k
    next Equal Equal h k = rw (h, k) refl
    next Equal Greater h k = before-next y x ys xs (sym h) k
    next Greater s h k = before_less y x ys xs h

pub rank_is : (a b : List ℕ) (r : Ordering) → MatchOrdering r (before a b ≡ true) (a ≡ b) (before b a ≡ true) → slice_cmp nat_cmp a b ≡ r
rank_is a b r h =
    one_rank (λ a b. before a b ≡ true) (λ a k. true≢false (sym k ∙ before_itself a)) before_trans a b (slice_cmp nat_cmp a b) r (ranked a b) h

-- keys have the same bytes where names have
pub same_keys : (a b : List ℕ) → same_bytes (key_of a) (key_of b) ≡ same_bytes a b
unfolding same_bytes
same_keys a b =
    elim (dec_lt (length a) (length b)) [
      | yes h ↦ differ (λ e. omega arith)
      | no h ↦
          elim (dec_lt (length b) (length a)) [
            | yes k ↦ differ (λ e. omega arith)
            | no k ↦ rw (eq-eqb (length a) (length b) (omega arith)) refl
          ]
    ]
  where
    differ : (length a ≡ length b → ⊥) → same_bytes (key_of a) (key_of b) ≡ same_bytes a b
    differ d = rw (ne_eqb (length a) (length b) d, same_lengths a b d) refl

pub key_else : (a b : List ℕ) → same_bytes a b ≡ false → before (key_of a) (key_of b) ≡ false → before (key_of b) (key_of a) ≡ true
key_else a b h k = by (slice_cmp nat_cmp (key_of a) (key_of b)) (ranked (key_of a) (key_of b))
  where
    by : (r : Ordering) → MatchOrdering r (before (key_of a) (key_of b) ≡ true) (key_of a ≡ key_of b) (before (key_of b) (key_of a) ≡ true) → before (key_of b) (key_of a) ≡ true
    by Less m = absurd (true≢false (sym m ∙ k))
    by Equal m = absurd (true≢false (sym (same_itself (key_of b)) ∙ (ap (λ (z : List ℕ). same_bytes z (key_of b)) (sym m) ∙ (same_keys a b ∙ h))))
    by Greater m = m

-- a name that comes before another has not the same bytes
pub key_not_same : (a b : List ℕ) → before (key_of a) (key_of b) ≡ true → (same_bytes a b ≡ false) × (same_bytes b a ≡ false)
key_not_same a b h =
    let d = before-not_same (key_of a) (key_of b) h in
    (sym (same_keys a b) ∙ d.0, sym (same_keys b a) ∙ d.1)
