-- The order of two names: by their lengths, by their first bytes, and one byte further.
use mathlib.Core.Path.{◌≡◌, refl, sym, ap, ◌∙◌}
use mathlib.Core.Bool.{true, false, true≢false}
use mathlib.Core.List.{List, [], ◌∷◌, ◌++◌}
use Prim.Native.Nat.{ℕ, ◌+◌, ◌≤◌, ◌<◌}
use native.Mathlib.Numerals.{add-one}
use native.Mathlib.Omega.{arith}
use Rattle.std.specs.declared.cmp.Ordering.{Ordering}
use Rattle.std.specs.declared.cmp.Ordering.TheVariants.{Less, Equal, Greater}
use Rattle.std.specs.Ordering.{MatchOrdering, nat_cmp, ordering_then, is_ne}
use Rattle.std.specs.Cmp.{nat_cmp_is}
use Rattle.std.specs.Cmp.Lexicographic.{slice_cmp}
use lib.ListN.{length, get_or, drop, length-drop, length-append, drop_of_length-le}
use lib.Seq.{drop-cons}
use Rattle.stream.specs.Payload.{payload}
use Rattle.stream.specs.Inner.Payload.{room, rest}
use Rattle.records.specs.Layout.{before}
use Rattle.records.specs.Records.{bytes_at}
use Rattle.records.specs.Laws.Names.{name-length, name-at}
use Rattle.names.specs.Inner.Table.{key_of, order_of}
use Rattle.names.specs.Laws.Order.{ranked, rank_is}

-- ---- what it is
pub order_less : (a b : List ℕ) → before (key_of a) (key_of b) ≡ true → Less ≡ order_of a b
unfolding order_of
order_less a b h = sym (rank_is (key_of a) (key_of b) Less h)

pub order_more : (a b : List ℕ) → before (key_of b) (key_of a) ≡ true → Greater ≡ order_of a b
unfolding order_of
order_more a b h = sym (rank_is (key_of a) (key_of b) Greater h)

-- ---- what it tells
behind_head : (x y : ℕ) (xs ys : List ℕ) → x ∷ xs ≡ y ∷ ys → xs ≡ ys
behind_head x y xs ys e = ap (drop 1) e

module _ (a b : List ℕ) where
  pub told : {r : Ordering} → r ≡ order_of a b → MatchOrdering r (before (key_of a) (key_of b) ≡ true) (a ≡ b) (before (key_of b) (key_of a) ≡ true)
  unfolding order_of
  told {r} e = by r (rw e (ranked (key_of a) (key_of b)))
    where
      by : (r : Ordering) → MatchOrdering r (before (key_of a) (key_of b) ≡ true) (key_of a ≡ key_of b) (before (key_of b) (key_of a) ≡ true)
          → MatchOrdering r (before (key_of a) (key_of b) ≡ true) (a ≡ b) (before (key_of b) (key_of a) ≡ true)
      by Less m = m
      by Equal m = behind_head (length a) (length b) a b m
      by Greater m = m

-- ---- names of one length
module _ (a b : List ℕ) (e : length a ≡ length b) where
  level : order_of a b ≡ slice_cmp nat_cmp a b
  unfolding order_of
  level = let t : nat_cmp (length a) (length b) ≡ Equal = sym (nat_cmp_is (length a) (length b) Equal e) in rw t

  pub level_less : before a b ≡ true → Less ≡ order_of a b
  level_less h = sym (level ∙ rank_is a b Less h)

  pub level_more : before b a ≡ true → Greater ≡ order_of a b
  level_more h = sym (level ∙ rank_is a b Greater h)

same_front : (c xs ys : List ℕ) → slice_cmp nat_cmp (c ++ xs) (c ++ ys) ≡ slice_cmp nat_cmp xs ys
same_front [] xs ys = refl
same_front (x ∷ c) xs ys = let t : nat_cmp x x ≡ Equal = sym (nat_cmp_is x x Equal refl) in rw t (same_front c xs ys)

pub order_front : (c xs ys : List ℕ) → length xs ≡ length ys → order_of (c ++ xs) (c ++ ys) ≡ order_of xs ys
order_front c xs ys e = level (c ++ xs) (c ++ ys) (simp length-append (omega arith)) ∙ same_front c xs ys ∙ sym (level xs ys e)

-- ---- the first that differs decides
pub differs : (o r : Ordering) → is_ne o ≡ true → o ≡ ordering_then o r
differs Less r h = refl
differs Equal r h = absurd (true≢false (sym h))
differs Greater r h = refl

pub ties : (o r : Ordering) → is_ne o ≡ false → ordering_then o r ≡ r
ties Less r h = absurd (true≢false h)
ties Equal r h = refl
ties Greater r h = absurd (true≢false h)

-- ---- two parts of a payload, from byte i on, by the values that the code has
module _ (s : List ℕ) (p q n i : ℕ) (u : p + n ≤ room s) (v : q + n ≤ room s) where
  abbrev A : List ℕ
  A = bytes_at (payload s) p n

  abbrev B : List ℕ
  B = bytes_at (payload s) q n

  len_a : length A ≡ n
  len_a = name-length s p n u

  len_b : length B ≡ n
  len_b = name-length s q n v

  rests : (k : ℕ) → length (drop k A) ≡ length (drop k B)
  rests k = simp length-drop (omega (arith, len_a, len_b))

  pub bytes_end : n ≤ i → Equal ≡ order_of (drop i A) (drop i B)
  unfolding order_of
  bytes_end h = rw (drop_of_length-le A {i = i} (omega (arith, len_a)), drop_of_length-le B {i = i} (omega (arith, len_b))) refl

  module _ (h : i < n) {x y : ℕ} (ex : x ≡ get_or (rest s 0) (p + i) 0) (ey : y ≡ get_or (rest s 0) (q + i) 0) where
    from-a : drop i A ≡ x ∷ drop (i + 1) A
    from-a = rw (name-at s p n h ex, add-one) (drop-cons A i 0 (omega (arith, len_a)))

    from-b : drop i B ≡ y ∷ drop (i + 1) B
    from-b = rw (name-at s q n h ey, add-one) (drop-cons B i 0 (omega (arith, len_b)))

    pub byte_ahead : order_of (drop i A) (drop i B) ≡ ordering_then (nat_cmp x y) (order_of (drop (i + 1) A) (drop (i + 1) B))
    byte_ahead = level _ _ (rests i) ∙ rw (from-a, from-b) (ap (ordering_then (nat_cmp x y)) (sym (level _ _ (rests (i + 1)))))
