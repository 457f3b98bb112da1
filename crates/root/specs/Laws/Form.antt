-- The root in its normal form: for n = a * 4 ^ j with a even and a whole root p of 54 digits, `root_at n` is (p + 1) / 2
-- * 2 ^ j of the format's smallest values, whose pattern is j * 2 ^ 52 + (p + 1) / 2. Assumes nothing.
use Rattle.std.specs.Prelude.{◌≡◌, refl, ◌⊎◌, Bool, true, not, cond, T, leb, eqb}
use Rattle.std.proofs.Common.{sym, ◌∙◌, subst, inl, inr, le_trans, le_of_eq, le_of_lt, lt_of_lt_of_le, lt_of_le_of_lt, lt_irrefl, eq-or-lt_of_le, mul-pos, mul-le-mul_right, mul-lt-mul_of_pos_right, zero-lt-suc, le→leb, leb→le, eqb→eq, pow-add, pow_pos}
use Rattle.std.proofs.Math.Path.{ap}
use Rattle.std.proofs.Math.Bool.{false}
use Prim.Native.Nat.{ℕ, zero, suc, ◌+◌, ◌-◌, ◌*◌, ◌/◌, ◌%◌, ◌^◌, ◌≤◌, ◌<◌, compare, Ordering}
use Rattle.std.proofs.Math.Nat.{mul-mul-mul_comm, eq_of_mul-eq-mul_right, mul-div-mul_right}
use native.Mathlib.Omega.{arith}
use Rattle.std.proofs.Math.Dec.{is_le, compare_is_eq, nleb→lt}
use Rattle.std.proofs.Math.Arith.{digits_div, digits_mod, lt→nleb, le→nltb}
use Rattle.std.proofs.Math.Pow.{pow-lt}
use Rattle.std.specs.Float.Ieee.{binary64, size, nearest, units, round, nan_bits}
use Rattle.std.specs.Float.Ieee.Fits.{round_is}
use Rattle.std.specs.Float.Ieee.Nearest.{closest, closest_same}
use Rattle.std.specs.Float.Ieee.Bits.{nan_bits_above}
use Rattle.float.specs.Laws.Fields.{size-at}
use Rattle.root.specs.Root.{isqrt, sticky, root_at}
use Rattle.root.specs.Laws.Whole.{IsRoot, isqrt_root, sq_le_root, sq_lt_back, odd_square}

-- ---- `closest a b` is q where a / b lies less than a half from q
cmp_lt : (a b : ℕ) → a < b → compare a b ≡ Ordering.lt
cmp_lt a b h = go (compare a b) (le→leb a b (le_of_lt h)) (λ t. lt_irrefl b (subst (λ (x : ℕ). x < b) (eqb→eq a b t) h))
  where
    go : (o : Ordering) → T (is_le o) → (T (compare_is_eq o) → ⊥) → o ≡ Ordering.lt
    go Ordering.lt t n = refl
    go Ordering.eq t n = absurd (n tt)
    go Ordering.gt t n = absurd t

cmp_gt : (a b : ℕ) → b < a → compare a b ≡ Ordering.gt
cmp_gt a b h = go (compare a b) (lt→nleb a b h)
  where
    go : (o : Ordering) → T (not (is_le o)) → o ≡ Ordering.gt
    go Ordering.lt t = absurd t
    go Ordering.eq t = absurd t
    go Ordering.gt t = refl

closest_is : (a q b r : ℕ) → a ≡ q * b + r → r < b → closest a b ≡ nearest q (compare (r * 2) b)
closest_is a q b r e h =
    ap (λ (x : ℕ). closest x b) e
    ∙ ap (λ (x : ℕ). nearest x (compare ((q * b + r) % b * 2) b)) (digits_div q h)
    ∙ ap (λ (x : ℕ). nearest q (compare (x * 2) b)) (digits_mod q h)

from_below : (a b q : ℕ) → q * b ≤ a → 2 * a < 2 * (q * b) + b → closest a b ≡ q
from_below a b q l h = closest_is a q b (a - q * b) (omega arith) (omega arith) ∙ ap (nearest q) (cmp_lt ((a - q * b) * 2) b (omega arith))

from-above : (a b q : ℕ) → a < q * b → 2 * (q * b) < 2 * a + b → closest a b ≡ q
from-above a b zero l k = absurd (omega arith)
from-above a b (suc q) l k =
    let e : suc q * b ≡ q * b + b = omega arith in
    closest_is a q b (a - q * b) (omega arith) (omega arith) ∙ ap (nearest q) (cmp_gt ((a - q * b) * 2) b (omega arith))

closest_near : (a b q : ℕ) → 2 * a < 2 * (q * b) + b → 2 * (q * b) < 2 * a + b → closest a b ≡ q
closest_near a b q h k = go (leb (q * b) a) (leb→le (q * b) a) (nleb→lt (q * b) a)
  where
    go : (c : Bool) → (T c → q * b ≤ a) → (T (not c) → a < q * b) → closest a b ≡ q
    go true f g = from_below a b q (f tt) h
    go false f g = from-above a b q (g tt) k

-- ---- the root R of a * w * w beside the root p of a
module _ (a p w R : ℕ) (W : 0 < w) (A : IsRoot a p) (B : IsRoot (a * (w * w)) R) where
  pub r-lo : p * w ≤ R
  r-lo = sq_le_root (p * w) B (le_trans (le_of_eq (mul-mul-mul_comm p w p w)) (mul-le-mul_right (w * w) A.least))

  pub r-hi : R < p * w + w
  r-hi =
      let e : (p + 1) * w ≡ p * w + w = omega arith in
      subst (λ (x : ℕ). R < x) e
      (sq_lt_back R ((p + 1) * w) (lt_of_le_of_lt B.least (lt_of_lt_of_le (mul-lt-mul_of_pos_right A.most (mul-pos W W)) (le_of_eq (sym (mul-mul-mul_comm (p + 1) w (p + 1) w))))))

-- ---- any R between p * w and the next such number stands for that root
module _ (a p w R : ℕ) (W : 0 < w) (r-lo : p * w ≤ R) (r-hi : R < p * w + w) where
  sticky_in : (2 * (p * w) ≤ sticky R (a * (w * w))) × (sticky R (a * (w * w)) < 2 * (p * w + w))
  sticky_in = go (eqb (R * R) (a * (w * w))) r-lo r-hi
    where
      go : (b : Bool) → p * w ≤ R → R < p * w + w → (2 * (p * w) ≤ 2 * R + cond b 0 1) × (2 * R + cond b 0 1 < 2 * (p * w + w))
      go true l h = omega arith
      go false l h = omega arith

  -- the root is not p * w where p is not exact
  no_tie : (p * p ≡ a → ⊥) → 2 * (p * w) < sticky R (a * (w * w))
  no_tie n = go (eqb (R * R) (a * (w * w))) (eqb→eq (R * R) (a * (w * w))) (eq-or-lt_of_le r-lo)
    where
      exact : R * R ≡ a * (w * w) → p * w ≡ R → p * p ≡ a
      exact e f = eq_of_mul-eq-mul_right (w * w) (mul-pos W W) (p * p) a (sym (mul-mul-mul_comm p w p w) ∙ ap (λ (x : ℕ). x * x) f ∙ e)

      go : (b : Bool) → (T b → R * R ≡ a * (w * w)) → (p * w ≡ R) ⊎ (p * w < R) → 2 * (p * w) < 2 * R + cond b 0 1
      go true e (inl f) = absurd (n (exact (e tt) f))
      go true e (inr l) = omega arith
      go false e (inl f) = omega arith
      go false e (inr l) = omega arith

  -- p / 2 is a value of the format where p is even, and otherwise the middle of two, which the root is above
  kept-is : a % 2 ≡ 0 → closest (sticky R (a * (w * w))) (4 * w) ≡ (p + 1) / 2
  kept-is even = go (p % 2) refl (sticky R (a * (w * w))) sticky_in.0 sticky_in.1 (λ o. no_tie (odd_square p a o even))
    where
      times_w : (x y : ℕ) → x ≡ y → x * w ≡ y * w
      times_w x y e = ap (λ (z : ℕ). z * w) e

      go : (b : ℕ) → p % 2 ≡ b → (s : ℕ) → 2 * (p * w) ≤ s → s < 2 * (p * w + w) → (p % 2 ≡ 1 → 2 * (p * w) < s) → closest s (4 * w) ≡ (p + 1) / 2
      go zero e s l u t =
          let f = times_w p (2 * ((p + 1) / 2)) (omega arith) in
          closest_near s (4 * w) ((p + 1) / 2) (omega arith) (omega arith)
      go (suc b) e s l u t =
          let f = times_w (p + 1) (2 * ((p + 1) / 2)) (omega arith) in
          let g = t (omega arith) in
          closest_near s (4 * w) ((p + 1) / 2) (omega arith) (omega arith)

-- ---- what `round` makes of it
module _ (a p j R : ℕ) (even : a % 2 ≡ 0) (lo : 2 ^ 53 ≤ p) (hi : p < 2 ^ 54) (r-lo : p * 2 ^ j ≤ R) (r-hi : R < p * 2 ^ j + 2 ^ j) where
  S : ℕ
  S = sticky R (a * (2 ^ j * 2 ^ j))

  quarter : (2 ^ 52 * 2 ^ j ≤ S / 4) × (S / 4 < 2 ^ 53 * 2 ^ j)
  unfolding S
  quarter = go S (2 ^ j) (sticky_in a p (2 ^ j) R (pow_pos j) r-lo r-hi) (mul-le-mul_right (2 ^ j) lo) (mul-le-mul_right (2 ^ j) hi)
    where
      go : (s w : ℕ) → (2 * (p * w) ≤ s) × (s < 2 * (p * w + w)) → 2 ^ 53 * w ≤ p * w → suc p * w ≤ 2 ^ 54 * w → (2 ^ 52 * w ≤ s / 4) × (s / 4 < 2 ^ 53 * w)
      go s w i l h = let e : suc p * w ≡ p * w + w = omega arith in (omega arith, omega arith)

  dropped : size (S * 2 ^ 1074 / 2 ^ 1076) - 53 ≡ j
  dropped = ap (λ (x : ℕ). size x - 53) (mul-div-mul_right {m = 2 ^ 1074} S 4 (pow_pos 1074)) ∙ ap (λ (x : ℕ). x - 53) (size-at j (S / 4) quarter.0 quarter.1) ∙ less
    where
      less : 53 + j - 53 ≡ j
      less = omega arith

  -- u is 2 ^ 1074, and the divisor 4 * u
  unit_out : (s w u : ℕ) → 0 < w → 0 < u → closest (s * u) (4 * u * w) ≡ closest s (4 * w)
  unit_out s w u W U = closest_same (s * u) (4 * u * w) s (4 * w) (mul-pos (mul-pos (zero-lt-suc 3) U) W) (mul-pos (zero-lt-suc 3) W) (omega arith)

  kept_here : closest (S * 2 ^ 1074) (2 ^ 1076 * 2 ^ j) ≡ (p + 1) / 2
  unfolding S
  kept_here = unit_out S (2 ^ j) (2 ^ 1074) (pow_pos j) (pow_pos 1074) ∙ kept-is a p (2 ^ j) R (pow_pos j) r-lo r-hi even

  pub rounded : round binary64 false (sticky R (a * (2 ^ j * 2 ^ j))) (2 ^ 1076) ≡ units binary64 false ((p + 1) / 2) j
  unfolding S
  rounded =
      round_is binary64 false S (2 ^ 1076)
      ∙ ap (λ (k : ℕ). units binary64 false (closest (S * 2 ^ 1074) (2 ^ 1076 * 2 ^ k)) k) dropped
      ∙ ap (λ (x : ℕ). units binary64 false x j) kept_here

module _ (a p j : ℕ) (A : IsRoot a p) (even : a % 2 ≡ 0) (lo : 2 ^ 53 ≤ p) (hi : p < 2 ^ 54) where
  abbrev n : ℕ
  n = a * (2 ^ j * 2 ^ j)

  pub as_units : root_at (a * (2 ^ j * 2 ^ j)) ≡ units binary64 false ((p + 1) / 2) j
  unfolding root_at
  as_units =
      let B = isqrt_root n in
      rounded a p j (isqrt n) even lo hi (r-lo a p (2 ^ j) (isqrt n) (pow_pos j) A B) (r-hi a p (2 ^ j) (isqrt n) (pow_pos j) A B)

  module _ (fine : j < 1994) where
    pub in_range_lem : (p + 1) / 2 * 2 ^ j < 2 ^ 2098
    in_range_lem = lt_of_le_of_lt (mul-le-mul_right (2 ^ j) (up p hi)) (lt_of_le_of_lt (le_of_eq (sym (pow-add 2 53 j))) (pow-lt (room j fine)))
      where
        up : (p : ℕ) → p < 2 ^ 54 → (p + 1) / 2 ≤ 2 ^ 53
        up p h = omega arith

        room : (j : ℕ) → j < 1994 → 53 + j < 2098
        room j h = omega arith

-- the pattern is at most that of the infinity
pub root_no_nan : (j q : ℕ) → j < 1994 → q ≤ 2 ^ 53 → T (not (nan_bits binary64 (j * 2 ^ 52 + q)))
root_no_nan j q g h =
    subst (λ (b : Bool). T (not b)) (sym (nan_bits_above binary64 (j * 2 ^ 52 + q)))
    (le→nltb (2047 * 2 ^ 52) ((j * 2 ^ 52 + q) % 2 ^ 63) (omega arith))
