-- The search by halves, and an entry put in.
use mathlib.Core.Path.{◌≡◌, refl, sym, ap, ◌∙◌}
use mathlib.Core.Logic.{◌⊎◌, inl, inr}
use mathlib.Core.Bool.{true}
use mathlib.Core.List.{List}
use Prim.Native.Nat.{ℕ, ◌+◌, ◌-◌, ◌%◌, ◌≤◌, ◌<◌}
use native.Mathlib.Decide.{dec_lt}
use native.Mathlib.Omega.{arith}
use lib.ListN.{length, get_or, set, length-set}
use lib.Seq.{get_or-set_same, get_or-set_other}
use Rattle.std.specs.declared.cmp.Ordering.TheVariants.{Less, Equal, Greater}
use Rattle.std.specs.List.{CopiedTo, SameBelow}
use Rattle.records.specs.Layout.{before}
use Rattle.records.specs.Records.{bytes_at}
use Rattle.scene.specs.Laws.Rising.{before_trans}
use Rattle.names.specs.Inner.Table.{name_at, name_of, key_of, order_of, NameFits, NewName, Table, Contains, Stands, Gap, Inserted}
use Rattle.names.proofs.Orders.{told}

-- ---- x belongs from lo to hi
pub record Between (more : ℕ) (l t : List ℕ) (n : ℕ) (x : List ℕ) (lo hi : ℕ) : Type 0 where
  pub order : lo ≤ hi
  pub within : hi ≤ n
  pub low : (i : ℕ) → i < lo → before (key_of (name_of more l (get_or t i 0))) (key_of x) ≡ true
  pub high : (i : ℕ) → hi ≤ i → i < n → before (key_of x) (key_of (name_of more l (get_or t i 0))) ≡ true

module _ (more : ℕ) (l t : List ℕ) (n : ℕ) (x : List ℕ) where
  abbrev k : ℕ → List ℕ
  k i = key_of (name_of more l (get_or t i 0))

  module _ (tab : Table more l t n) (mid : ℕ) (inside : mid < n) where
    module _ (lo hi : ℕ) (b : Between more l t n x lo hi) where
      pub between_up : mid < hi → before (k mid) (key_of x) ≡ true → Between more l t n x (mid + 1) hi
      between_up h e =
          record {
            order = omega arith;
            within = b.within;
            low = λ i m. elim (dec_lt i mid) [
              | yes j ↦ before_trans (k i) (k mid) (key_of x) (tab.rises i mid j inside) e
              | no j ↦ let g : i ≡ mid = omega arith in rw g e
            ];
            high = b.high;
          }

      pub between_down : lo ≤ mid → before (key_of x) (k mid) ≡ true → Between more l t n x lo mid
      between_down h e =
          record {
            order = h;
            within = omega arith;
            low = b.low;
            high = λ i m j. elim (dec_lt mid i) [
              | yes g ↦ before_trans (key_of x) (k mid) (k i) e (tab.rises mid i g j)
              | no g ↦ let r : i ≡ mid = omega arith in rw r e
            ];
          }

-- ---- a turn of the search: x is compared with what stands at mid, and is that or belongs to one side of it
module _ {more : ℕ} {l t : List ℕ} {n : ℕ} {x : List ℕ} {mid : ℕ} where
  pub turned_on : mid < n → Equal ≡ order_of (name_of more l (get_or t mid 0)) x → Stands more l t n x mid
  turned_on h e = record { within = h; is = told _ _ e }

  module _ {lo hi : ℕ} (b : Between more l t n x lo hi) (m : (lo ≤ mid) × (mid < hi)) (tab : Table more l t n) where
    pub turned_up : Less ≡ order_of (name_of more l (get_or t mid 0)) x → Between more l t n x (mid + 1) hi
    turned_up e = between_up more l t n x tab mid (omega (arith, m, b.within)) lo hi b m.1 (told _ _ e)

    pub turned_down : Greater ≡ order_of (name_of more l (get_or t mid 0)) x → Between more l t n x lo mid
    turned_down e = between_down more l t n x tab mid (omega (arith, m, b.within)) lo hi b m.0 (told _ _ e)

-- ---- entries from `at` to n - 1 moved up by one
pub record ShiftedUp (t t' : List ℕ) (at n : ℕ) : Type 0 where
  pub size : length t' ≡ length t
  pub low : (i : ℕ) → i ≤ at → get_or t' i 0 ≡ get_or t i 0
  pub high : (i : ℕ) → at ≤ i → i < n → get_or t' (i + 1) 0 ≡ get_or t i 0

pub shifted : (t t' : List ℕ) (at n : ℕ) → length t' ≡ length t → CopiedTo t t' at (at + 1) (n - at) → SameBelow t t' (at + 1) → ShiftedUp t t' at n
shifted t t' at n e c s =
    record {
      size = e;
      low = λ i h. s i 0 (omega arith);
      high = λ i h k. let g : at + (i + 1 - (at + 1)) ≡ i = omega arith in c (i + 1) 0 (omega arith) (omega arith) ∙ ap (λ (z : ℕ). get_or t z 0) g;
    }

-- ---- p is put at k
module _ (t₀ t₁ : List ℕ) (n k p : ℕ) (o : ShiftedUp t₀ t₁ k n) (within : k ≤ n) (free : n < length t₀) where
  put_low : (i : ℕ) → i < k → get_or (set t₁ k p) i 0 ≡ get_or t₀ i 0
  put_low i h = get_or-set_other t₁ k i p 0 (λ e. omega arith) ∙ o.low i (omega arith)

  put-at : get_or (set t₁ k p) k 0 ≡ p
  put-at = get_or-set_same t₁ k p 0 (omega (arith, o.size))

  put-high : (i : ℕ) → k ≤ i → i < n → get_or (set t₁ k p) (i + 1) 0 ≡ get_or t₀ i 0
  put-high i h m = get_or-set_other t₁ k (i + 1) p 0 (λ e. omega arith) ∙ o.high i h m

  put-size : length (set t₁ k p) ≡ length t₀
  put-size = length-set t₁ k p ∙ o.size

  -- whatever holds of the old entries and of the new one
  put-each : (P : ℕ → Type 0) → P p → ((i : ℕ) → i < n → P (get_or t₀ i 0)) → (i : ℕ) → i < n + 1 → P (get_or (set t₁ k p) i 0)
  put-each P new old i h =
      elim (dec_lt i k) [
        | yes m ↦ rw (put_low i m) (old i (omega arith))
        | no m ↦
            elim (dec_lt k i) [
              | yes j ↦
                  let e : i ≡ i - 1 + 1 = omega arith in
                  rw e (rw (put-high (i - 1) (omega arith) (omega arith)) (old (i - 1) (omega arith)))
              | no j ↦ let e : i ≡ k = omega arith in rw e (rw put-at new)
            ]
      ]

  module _ (more : ℕ) (l : List ℕ) where
    abbrev f : ℕ → List ℕ
    f e = name_of more l e

    -- the old entry i is still there
    put_old : (i : ℕ) → i < n → (y : List ℕ) → f (get_or t₀ i 0) ≡ y → Contains more l (set t₁ k p) (n + 1) y
    put_old i h y e =
        elim (dec_lt i k) [
          | yes m ↦ record { at = i; within = omega arith; is = rw (put_low i m) e }
          | no m ↦ record { at = i + 1; within = omega arith; is = rw (put-high i (omega arith) h) e }
        ]

    module _ (tab : Table more l t₀ n) (g : Gap more l t₀ n (f p) k) where
      later : (i q : ℕ) → i < q + 1 → k ≤ q → q < n → before (key_of (f (get_or (set t₁ k p) i 0))) (key_of (f (get_or t₀ q 0))) ≡ true
      later i q h a b =
          elim (dec_lt i k) [
            | yes m ↦ rw (put_low i m) (tab.rises i q (omega arith) b)
            | no m ↦
                elim (dec_lt k i) [
                  | yes j ↦
                      let e : i ≡ i - 1 + 1 = omega arith in
                      rw e (rw (put-high (i - 1) (omega arith) (omega arith)) (tab.rises (i - 1) q (omega arith) b))
                  | no j ↦ let e : i ≡ k = omega arith in rw e (rw put-at (g.high q a b))
                ]
          ]

      put_rises : (i j : ℕ) → i < j → j < n + 1 → before (key_of (f (get_or (set t₁ k p) i 0))) (key_of (f (get_or (set t₁ k p) j 0))) ≡ true
      put_rises i j h m =
          elim (dec_lt j k) [
            | yes a ↦ rw (put_low i (omega arith), put_low j a) (tab.rises i j h (omega arith))
            | no a ↦
                elim (dec_lt k j) [
                  | yes b ↦
                      let e : j ≡ j - 1 + 1 = omega arith in
                      rw e (rw (put-high (j - 1) (omega arith) (omega arith)) (later i (j - 1) (omega arith) (omega arith) (omega arith)))
                  | no b ↦
                      let e : j ≡ k = omega arith in
                      rw e (rw (put-at, put_low i (omega arith)) (g.low i (omega arith)))
                ]
          ]

-- ---- what `insert` promises
module _ (more : ℕ) (l t₀ : List ℕ) (n p m : ℕ) (new : NewName more l p m) (free : n < length t₀) (tab : Table more l t₀ n) where
  abbrev name : List ℕ
  name = bytes_at l (p + 1) m

  itself : p % 33554432 ≡ p
  itself = omega (arith, new.low)

  called : name ≡ name_of more l p
  unfolding name_at
  called = let e : get_or l p 0 - more ≡ m = omega (arith, new.counted) in rw (itself, e) refl

  pub insert_gap : (k : ℕ) → Gap more l t₀ n name k → (t₁ : List ℕ) → ShiftedUp t₀ t₁ k n → Inserted more l t₀ (set t₁ k p) n (n + 1) name
  insert_gap k g₀ t₁ o =
      let g : Gap more l t₀ n (name_of more l p) k = rw called at g₀ in
      let w : k ≤ n = g.within in
      record {
        count = (omega arith, omega arith);
        table = record {
          fits = omega (arith, put-size t₀ t₁ n k p o w free);
          stands = put-each t₀ t₁ n k p o w free (λ (e : ℕ). NameFits more l (e % 33554432)) (rw itself new.stands) tab.stands;
          rises = put_rises t₀ t₁ n k p o w free more l tab g;
        };
        unmarked = λ b. put-each t₀ t₁ n k p o w free (λ (e : ℕ). e < 33554432) new.low b;
        new = record { at = k; within = omega arith; is = rw (put-at t₀ t₁ n k p o w free) (sym called) };
        old = λ y i. put_old t₀ t₁ n k p o w free more l i.at i.within y i.is;
        only = λ y i. put-each t₀ t₁ n k p o w free (λ (e : ℕ). name_of more l e ≡ y → Contains more l t₀ n y ⊎ (y ≡ name))
            (λ e. inr (sym e ∙ sym called))
            (λ j h e. inl (record { at = j; within = h; is = e }))
            i.at i.within i.is;
      }
