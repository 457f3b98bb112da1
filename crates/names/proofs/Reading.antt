-- Names by the number of their length and first bytes.
use mathlib.Core.Path.{◌≡◌, refl, sym, ap, ◌∙◌}
use mathlib.Core.Bool.{true, true≢false}
use mathlib.Core.Logic.{◌⊎◌, inl, inr}
use mathlib.Core.List.{List, [], ◌∷◌, ◌++◌}
use Prim.Native.Nat.{ℕ, zero, suc, ◌+◌, ◌-◌, ◌*◌, ◌/◌, ◌%◌, ◌^◌, ◌≤◌, ◌<◌}
use native.Mathlib.Decide.{dec_lt}
use native.Mathlib.Nat.{zero-add, suc-add}
use native.Mathlib.Numerals.{add-one}
use native.Mathlib.Omega.{arith}
use Rattle.std.specs.declared.cmp.Ordering.{Ordering}
use Rattle.std.specs.declared.cmp.Ordering.TheVariants.{Less, Equal, Greater}
use Rattle.std.specs.Ordering.{MatchOrdering, nat_cmp, is_ne}
use Rattle.std.specs.Cmp.{ranks}
use lib.ListN.{length, get_or, take, drop, length-take, length-drop, take-append-drop, drop_of_length-le, get_or-eq_default}
use lib.Seq.{drop-cons, get_or-take, get_or-drop, take-add, take-take, take-nil, drop-drop}
use Rattle.std.specs.Int.{swap_bytes, w64}
use Rattle.stream.specs.Numbers.{u16_at, u32_at, u64_at}
use Rattle.stream.specs.Laws.Numbers.{Bytes}
use Rattle.records.specs.Layout.{before}
use Rattle.records.specs.Records.{bytes_at}
use Rattle.records.specs.Laws.Names.{part_length}
use Rattle.scene.specs.Laws.Rising.{before_less}
use Rattle.names.specs.Inner.Words.{be16_at, be32_at, be64_at, word_of, front_of}
use Rattle.names.specs.Inner.Table.{name_at, order_of, NameFits}
use Rattle.names.proofs.Numbers.{be_of, Small, be_less, be_before, be_same, be_append, be_cut}
use Rattle.names.proofs.Orders.{order_less, order_more, level_less, level_more, order_front}

-- a number without the spare bits
pub front_is : (n : ℕ) {u v k : ℕ} → u ≡ v → k ≡ 8 * (7 - n) → u / 2 ^ k ≡ front_of v n
front_is n e f = rw (e, f) refl

-- ---- eight bytes in the other order
pub swapped : (l : List ℕ) (p : ℕ) → Bytes l → {x : ℕ} → x ≡ u64_at l p → swap_bytes w64 x ≡ be64_at l p
unfolding u64_at u32_at u16_at be64_at be32_at be16_at
swapped l p b {x} e = omega (arith, e, b p, b (p + 1), b (p + 2), b (p + 2 + 1), b (p + 4), b (p + 4 + 1), b (p + 4 + 2), b (p + 4 + 2 + 1))

-- ---- a number by its list
one_more : (l : List ℕ) (p k : ℕ) → p < length l → take (suc k) (drop p l) ≡ get_or l p 0 ∷ take k (drop (p + 1) l)
one_more l p k h = rw (drop-cons l p 0 h, add-one) refl

front_size : (l : List ℕ) (p k : ℕ) → p + k ≤ length l → length (take k (drop p l)) ≡ k
front_size l p k h = simp (length-take, length-drop) (omega arith)

small_all : (a : List ℕ) → Bytes a → Small a
small_all [] h = tt
small_all (x ∷ xs) h = (h 0, small_all xs (λ i. h (suc i)))

module _ (l : List ℕ) (b : Bytes l) where
  bytes_take : (p k : ℕ) → Small (take k (drop p l))
  bytes_take p k = small_all (take k (drop p l)) each
    where
      each : Bytes (take k (drop p l))
      each i =
          elim (dec_lt i k) [
            | yes h ↦ rw (get_or-take k (drop p l) i 0 h, get_or-drop p l i 0) (b (p + i))
            | no h ↦ let e = length-take k (drop p l) in rw (get_or-eq_default (take k (drop p l)) 0 {n = i} (omega arith)) (omega arith)
          ]

  module _ (p : ℕ) (h : p + 8 ≤ length l) where
    at : (i j : ℕ) → i ≡ j → get_or l i 0 ≡ get_or l j 0
    at i j e = ap (λ (z : ℕ). get_or l z 0) e

    -- the number of the seven bytes behind the first
    abbrev seven : ℕ
    seven = 281474976710656 * get_or l (p + 1) 0 + 4294967296 * be16_at l (p + 2) + be32_at l (p + 4)

    seven_less : seven < 72057594037927936
    unfolding be32_at be16_at
    seven_less = omega (arith, b (p + 1), b (p + 2), b (p + 2 + 1), b (p + 4), b (p + 4 + 1), b (p + 4 + 2), b (p + 4 + 2 + 1))

    eight_is : be64_at l p ≡ 72057594037927936 * get_or l p 0 + seven
    unfolding be64_at be32_at be16_at
    eight_is = omega arith

    word-is : (v : ℕ) → word_of l p v ≡ 72057594037927936 * v + seven
    unfolding word_of
    word-is v = rw eight_is (cut (get_or l p 0) seven seven_less)
      where
        cut : (u r : ℕ) → r < 72057594037927936 → (72057594037927936 * u + r) % 72057594037927936 + v * 72057594037927936 ≡ 72057594037927936 * v + r
        cut u r h = omega arith

    word_list : (v : ℕ) → word_of l p v ≡ be_of v (take 7 (drop (p + 1) l))
    unfolding be32_at be16_at be_of
    word_list v =
        word-is v
        ∙ rw (
          one_more l (p + 1) 6 (omega arith),
          one_more l (p + 1 + 1) 5 (omega arith),
          one_more l (p + 1 + 1 + 1) 4 (omega arith),
          one_more l (p + 1 + 1 + 1 + 1) 3 (omega arith),
          one_more l (p + 1 + 1 + 1 + 1 + 1) 2 (omega arith),
          one_more l (p + 1 + 1 + 1 + 1 + 1 + 1) 1 (omega arith),
          one_more l (p + 1 + 1 + 1 + 1 + 1 + 1 + 1) 0 (omega arith),
        )
        (omega (
          arith,
          at (p + 2) (p + 1 + 1) (omega arith),
          at (p + 2 + 1) (p + 1 + 1 + 1) (omega arith),
          at (p + 4) (p + 1 + 1 + 1 + 1) (omega arith),
          at (p + 4 + 1) (p + 1 + 1 + 1 + 1 + 1) (omega arith),
          at (p + 4 + 2) (p + 1 + 1 + 1 + 1 + 1 + 1) (omega arith),
          at (p + 4 + 2 + 1) (p + 1 + 1 + 1 + 1 + 1 + 1 + 1) (omega arith),
        ))

    own_first : be64_at l p ≡ word_of l p (get_or l p 0)
    own_first = eight_is ∙ sym (word-is (get_or l p 0))

    -- without the spare bits
    front_word : (v n : ℕ) → front_of (word_of l p v) n ≡ be_of v (take (7 - (7 - n)) (drop (p + 1) l))
    front_word v n =
        let k = 7 - (7 - n) in
        let xs = drop (p + 1) l in
        let e : k + (7 - n) ≡ 7 = omega arith in
        let w : length (take (7 - n) (drop k xs)) ≡ 7 - n = simp (length-take, length-drop) (omega arith) in
        let t : take 7 xs ≡ take k xs ++ take (7 - n) (drop k xs) = rw e at (take-add k (7 - n) xs) in
        let c = be_cut (be_of v (take k xs)) (take (7 - n) (drop k xs)) (rw (drop-drop k (p + 1) l) (bytes_take (p + 1 + k) (7 - n))) in
        ap (λ (z : ℕ). z / 2 ^ (8 * (7 - n))) (word_list v ∙ ap (be_of v) t ∙ be_append v (take k xs) (take (7 - n) (drop k xs))) ∙ (rw w at c)

drop-take : (k m : ℕ) (l : List ℕ) → drop k (take (k + m) l) ≡ take m (drop k l)
drop-take zero m l = rw zero-add refl
drop-take (suc k) m [] = rw suc-add (sym (take-nil m))
drop-take (suc k) m (x ∷ xs) = rw suc-add (drop-take k m xs)

behind : (l : List ℕ) (r n : ℕ) → 7 < n → drop 7 (bytes_at l (r + 1) n) ≡ bytes_at l (r + 8) (n - 7)
unfolding bytes_at
behind l r n h =
    let m : n ≡ 7 + (n - 7) = omega arith in
    let j : r + 1 + 7 ≡ r + 8 = omega arith in
    ap (λ (z : ℕ). drop 7 (take z (drop (r + 1) l))) m ∙ drop-take 7 (n - 7) (drop (r + 1) l) ∙ ap (take (n - 7)) (drop-drop 7 (r + 1) l ∙ ap (λ (z : ℕ). drop z l) j)

-- ---- the name whose length stands at p, and the n bytes behind q
-- x and w are the numbers of what is compared of them
pub record Pair (more : ℕ) (l : List ℕ) (p q n x w : ℕ) : Type 0 where
  pub bytes : Bytes l
  pub stands : NameFits more l p
  pub fits : q + 9 + n ≤ length l
  pub own : x ≡ front_of (be64_at l p) n
  pub sought : w ≡ front_of (word_of l q (n + more)) n

module _ {more : ℕ} {l : List ℕ} {p q n x w : ℕ} (pair : Pair more l p q n x w) where
  abbrev b : Bytes l
  b = pair.bytes

  abbrev st : NameFits more l p
  st = pair.stands

  abbrev head : ℕ
  head = get_or l p 0

  abbrev kept : ℕ
  kept = 7 - (7 - n)

  abbrev A : List ℕ
  A = bytes_at l (p + 1) n

  abbrev B : List ℕ
  B = bytes_at l (q + 1) n

  len_b : length B ≡ n
  len_b = part_length l (q + 1) n (omega arith)

  len_name : length (name_at more l p) ≡ head - more
  unfolding name_at
  len_name = part_length l (p + 1) (head - more) (omega (arith, st.fits))

  -- the lengths differ
  shorter : head < n + more → Less ≡ order_of (name_at more l p) B
  shorter h = order_less _ _ (before_less (length (name_at more l p)) (length B) _ _ (omega (arith, len_b, len_name, st.least)))

  longer : n + more < head → Greater ≡ order_of (name_at more l p) B
  longer h = order_more _ _ (before_less (length B) (length (name_at more l p)) _ _ (omega (arith, len_b, len_name, st.least)))

  abbrev As : List ℕ
  As = take kept (drop (p + 1) l)

  abbrev Bs : List ℕ
  Bs = take kept (drop (q + 1) l)

  x-is : x ≡ be_of head As
  x-is = pair.own ∙ ap (λ (z : ℕ). front_of z n) (own_first l b p (omega (arith, st.fits))) ∙ front_word l b p (omega (arith, st.fits)) head n

  w-is : w ≡ be_of (n + more) Bs
  w-is = pair.sought ∙ front_word l b q (omega arith) (n + more) n

  sizes : length As ≡ length Bs
  sizes = front_size l (p + 1) kept (omega (arith, st.fits)) ∙ sym (front_size l (q + 1) kept (omega arith))

  -- the lengths are the same
  module _ (e : head ≡ n + more) where
    fits : p + 9 + n ≤ length l
    fits = omega (arith, st.fits)

    name-is : name_at more l p ≡ A
    unfolding name_at
    name-is = let g : head - more ≡ n = omega arith in rw g refl

    len_a : length A ≡ n
    len_a = part_length l (p + 1) n (omega (arith, fits))

    front_a : take kept A ≡ As
    unfolding bytes_at
    front_a = take-take kept n (drop (p + 1) l) (omega arith)

    front_b : take kept B ≡ Bs
    unfolding bytes_at
    front_b = take-take kept n (drop (q + 1) l) (omega arith)

    split_a : A ≡ As ++ drop kept A
    split_a = rw front_a at (sym (take-append-drop kept A))

    split_b : B ≡ Bs ++ drop kept B
    split_b = rw front_b at (sym (take-append-drop kept B))

    level_x : x ≡ be_of (n + more) As
    level_x = rw e at x-is

    equal_less : x < w → Less ≡ order_of A B
    equal_less h =
        let g : before (As ++ drop kept A) (Bs ++ drop kept B) ≡ true = be_before (n + more) As Bs (drop kept A) (drop kept B) sizes (bytes_take l b (q + 1) kept) (omega (arith, level_x, w-is)) in
        level_less A B (len_a ∙ sym len_b) (ap (λ (z : List ℕ). before z B) split_a ∙ ap (λ (z : List ℕ). before (As ++ drop kept A) z) split_b ∙ g)

    equal_more : w < x → Greater ≡ order_of A B
    equal_more h =
        let g : before (Bs ++ drop kept B) (As ++ drop kept A) ≡ true = be_before (n + more) Bs As (drop kept B) (drop kept A) (sym sizes) (bytes_take l b (p + 1) kept) (omega (arith, level_x, w-is)) in
        level_more A B (len_a ∙ sym len_b) (ap (λ (z : List ℕ). before z A) split_b ∙ ap (λ (z : List ℕ). before (Bs ++ drop kept B) z) split_a ∙ g)

    equal_same : x ≤ w → w ≤ x → order_of A B ≡ order_of (drop kept A) (drop kept B)
    equal_same h k =
        let g : As ≡ Bs = be_same (n + more) As Bs sizes (bytes_take l b (p + 1) kept) (bytes_take l b (q + 1) kept) (omega (arith, level_x, w-is)) in
        let s : length (drop kept A) ≡ length (drop kept B) = simp length-drop (omega (arith, len_a, len_b)) in
        ap (λ (z : List ℕ). order_of z B) (split_a ∙ ap (λ (z : List ℕ). z ++ drop kept A) g) ∙ ap (order_of (Bs ++ drop kept A)) split_b ∙ order_front Bs (drop kept A) (drop kept B) s

  less_head : head < n + more → x < w
  less_head h = rw (x-is, w-is) (be_less head (n + more) As Bs sizes (bytes_take l b (p + 1) kept) h)

  more-head : n + more < head → w < x
  more-head h = rw (x-is, w-is) (be_less (n + more) head Bs As (sym sizes) (bytes_take l b (q + 1) kept) h)

  word_less : x < w → Less ≡ order_of (name_at more l p) B
  word_less h =
      elim (dec_lt head (n + more)) [
        | yes k ↦ shorter k
        | no k ↦
            elim (dec_lt (n + more) head) [
              | yes m ↦ absurd (omega (arith, more-head m))
              | no m ↦ let e : head ≡ n + more = omega arith in rw (name-is e) (equal_less e h)
            ]
      ]

  word_more : w < x → Greater ≡ order_of (name_at more l p) B
  word_more h =
      elim (dec_lt (n + more) head) [
        | yes k ↦ longer k
        | no k ↦
            elim (dec_lt head (n + more)) [
              | yes m ↦ absurd (omega (arith, less_head m))
              | no m ↦ let e : head ≡ n + more = omega arith in rw (name-is e) (equal_more e h)
            ]
      ]

  module _ (f : x ≤ w) (g : w ≤ x) where
    pub heads : head ≡ n + more
    heads =
        elim (dec_lt head (n + more)) [
          | yes k ↦ absurd (omega (arith, less_head k))
          | no k ↦
              elim (dec_lt (n + more) head) [
                | yes m ↦ absurd (omega (arith, more-head m))
                | no m ↦ omega arith
              ]
        ]

    word_same : n ≤ 7 → Equal ≡ order_of (name_at more l p) B
    unfolding order_of
    word_same h =
        let none : (a : List ℕ) → length a ≡ n → drop kept a ≡ [] = λ a e. drop_of_length-le a {i = kept} (omega arith) in
        rw (name-is heads) (sym (equal_same heads f g ∙ rw (none A (len_a heads), none B len_b) refl))

    pub word-rest : {o : Ordering} → 7 < n → o ≡ order_of (bytes_at l (p + 8) (n - 7)) (bytes_at l (q + 8) (n - 7)) → o ≡ order_of (name_at more l p) B
    word-rest h e =
        let k : kept ≡ 7 = omega arith in
        let r : order_of A B ≡ order_of (drop 7 A) (drop 7 B) = rw k at (equal_same heads f g) in
        rw (name-is heads) (e ∙ sym (r ∙ ap (λ (z : List ℕ). order_of z (drop 7 B)) (behind l p n h) ∙ ap (order_of (bytes_at l (p + 8) (n - 7))) (behind l q n h)))

  -- the first bytes decide where they differ, and where the name has no others
  pub word_decides : (is_ne (nat_cmp x w) ≡ true) ⊎ (n ≤ 7) → nat_cmp x w ≡ order_of (name_at more l p) B
  word_decides = by (nat_cmp x w) (ranks x w)
    where
      by : (o : Ordering) → MatchOrdering o (x < w) (x ≡ w) (w < x) → (is_ne o ≡ true) ⊎ (n ≤ 7) → o ≡ order_of (name_at more l p) B
      by Less m h = word_less m
      by Equal m (inl h) = absurd (true≢false (sym h))
      by Equal m (inr h) = word_same (omega arith) (omega arith) h
      by Greater m h = word_more m
