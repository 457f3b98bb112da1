-- The derived order of keys is the definition's, and which point is the best after one more was considered.
use Rattle.std.specs.Prelude.{◌≡◌, refl, ◌⊎◌, ℕ, Bool, true, false, not, ◌&&◌, ◌||◌, cond, eqb, ltb, Option, Some}
use Rattle.std.proofs.Common.{Ordering, Less, Equal, Greater}
use Rattle.std.specs.Ordering.{is_some_and, is_le, partial_ordering_then, nat_cmp, bool_cmp}
use Rattle.std.proofs.Math.Logic.{inl, inr}
use Rattle.std.proofs.Common.{arith, ltb-true, ltb-false, le-ltb, eq-eqb, ne_eqb}
use borrow.Author.Tests.{not-true, not-false}
use Rattle.values.specs.declared.Point.{Point}
use Rattle.scene.specs.Labels.{Key, Best, greater, consider}

-- which of two numbers is less, by the tests of both orders
abbrev Three : Bool → Bool → Bool → Type 0
Three p q r = ((p ≡ true) × (q ≡ false) × (r ≡ false)) ⊎ (((p ≡ false) × (q ≡ true) × (r ≡ false)) ⊎ ((p ≡ false) × (q ≡ false) × (r ≡ true)))

three : (x y : ℕ) → Three (ltb x y) (eqb x y) (ltb y x)
three x y = by (ltb x y) refl (ltb y x) refl
  where
    by : (p : Bool) → ltb x y ≡ p → (r : Bool) → ltb y x ≡ r → Three (ltb x y) (eqb x y) (ltb y x)
    by true e r f = inl (e, ne_eqb x y (λ g. omega (arith, ltb-true x y e)), le-ltb y x (omega (arith, ltb-true x y e)))
    by false e true f = inr (inr (e, ne_eqb x y (λ g. omega (arith, ltb-true y x f)), f))
    by false e false f = inr (inl (e, eq-eqb x y (omega (arith, ltb-false x y e, ltb-false y x f)), f))

-- at most, where a number decides before o does
abbrev AtMost : Option Ordering → Bool
AtMost o = is_some_and is_le o

number_first : (p q r : Bool) (o : Option Ordering) (b : Bool) → Three p q r → AtMost o ≡ not b → AtMost (partial_ordering_then (Some (cond p Less (cond q Equal Greater))) o) ≡ not (r || (q && b))
number_first p q r o b (inl h) e = rw (h.0, h.1, h.2) refl
number_first p q r o b (inr (inl h)) e = rw (h.0, h.1, h.2) e
number_first p q r o b (inr (inr h)) e = rw (h.0, h.1, h.2) refl

number_last : (p q r : Bool) → Three p q r → AtMost (Some (cond p Less (cond q Equal Greater))) ≡ not r
number_last p q r (inl h) = rw (h.0, h.2) refl
number_last p q r (inr (inl h)) = rw (h.0, h.1, h.2) refl
number_last p q r (inr (inr h)) = rw (h.0, h.1, h.2) refl

abbrev with_top : Bool → Key → Key
with_top t k = record { top = t; line = k.line; col = k.col; order = k.order }

module _ (a b : Key) where
  abbrev numbers : Option Ordering
  numbers = partial_ordering_then (Some (nat_cmp a.line b.line)) (partial_ordering_then (Some (nat_cmp a.col b.col)) (Some (nat_cmp a.order b.order)))

  numbers_are : AtMost numbers ≡ not (ltb b.line a.line || (eqb a.line b.line && (ltb b.col a.col || (eqb a.col b.col && ltb b.order a.order))))
  numbers_are =
      number_first _ _ _ _ _ (three a.line b.line)
      (number_first _ _ _ _ _ (three a.col b.col)
      (number_last _ _ _ (three a.order b.order)))

  by_top : (s t : Bool) → AtMost (partial_ordering_then (Some (bool_cmp s t)) numbers) ≡ not (greater (with_top s a) (with_top t b))
  unfolding greater
  by_top true true = numbers_are
  by_top true false = refl
  by_top false true = refl
  by_top false false = numbers_are

  pub at_most : AtMost (partial_ordering_then (Some (bool_cmp a.top b.top)) numbers) ≡ not (greater a b)
  at_most = by_top a.top b.top

-- ---- the best so far
module _ (b : Best) (k : Key) (p : Point) {r : Bool} (e : r ≡ not (greater k b.key)) where
  pub stays : r ≡ true → Some b ≡ consider (Some b) k p
  unfolding consider
  stays h = rw (not-true (greater k b.key) (rw e at h)) refl

  pub replaces : r ≡ false → Some (record { key = k; at = p }) ≡ consider (Some b) k p
  unfolding consider
  replaces h = rw (not-false (greater k b.key) (rw e at h)) refl
