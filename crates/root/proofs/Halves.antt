-- The two halves of the digits, and where they end. Assumes nothing.
use mathlib.Core.Path.{◌≡◌, refl, ap, ◌∙◌, subst}
use mathlib.Core.Bool.{Bool, true, false, not}
use mathlib.Core.Logic.{inl, inr}
use Prim.Native.Nat.{ℕ, zero, suc, ◌+◌, ◌-◌, ◌*◌, ◌/◌, ◌%◌, ◌^◌, ◌≤◌, ◌<◌}
use native.Mathlib.Nat.{add-zero, lt_of_le_of_lt, mul-le-mul, div-add-mod', mod-lt, div-lt_iff_lt-mul}
use native.Mathlib.Omega.{arith}
use lib.Dec.{T, ltb, ltb→lt, nltb→le}
use mir.Val.{bool_byte}
use Rattle.root.specs.Laws.Whole.{IsRoot, sq_le_root, sq_lt_back, square_out, exact_is}
use Rattle.root.specs.Inner.Halves.{IsRemainder, Ends}

-- ---- the first half
pub whole_of : {n r e : ℕ} → IsRemainder n r e → IsRoot n r
whole_of v = let s = v.is in record { least = omega arith; most = omega arith }

pub root_ge : {n r e : ℕ} → IsRemainder n r e → 2 ^ 52 ≤ n → 2 ^ 26 ≤ r
root_ge v h = sq_le_root (2 ^ 26) (whole_of v) h

pub root_lt : {n r e : ℕ} → IsRemainder n r e → n < 2 ^ 54 → r < 2 ^ 27
root_lt {n} {r} {e} v h = sq_lt_back r (2 ^ 27) (lt_of_le_of_lt (whole_of v).least h)

-- ---- a correction by one
pub bit_le : (b : Bool) → bool_byte b ≤ 1
bit_le true = omega arith
bit_le false = omega arith

-- top, or one less where `have` is below `need`
pub one_less : (n top have need : ℕ) → (have < need → IsRoot n (top - 1)) → (need ≤ have → IsRoot n top) → IsRoot n (top - bool_byte (ltb have need))
one_less n top have need f g = go (ltb have need) (ltb→lt have need) (nltb→le have need)
  where
    go : (b : Bool) → (T b → have < need) → (T (not b) → need ≤ have) → IsRoot n (top - bool_byte b)
    go true l h = f (l tt)
    go false l h = let e : top ≡ top - 0 = omega arith in subst (IsRoot n) e (g (h tt))

-- ---- the second half
settled : (n top have need : ℕ) → n + need ≡ top * top + have → have ≤ 2 * top → need < have + 2 * top → IsRoot n (top - bool_byte (ltb have need))
settled n top have need s h k = one_less n top have need (λ l. below top s h k l) (λ l. record { least = omega arith; most = omega arith })
  where
    below : (top : ℕ) → n + need ≡ top * top + have → have ≤ 2 * top → need < have + 2 * top → have < need → IsRoot n (top - 1)
    below zero s h k l = absurd (omega arith)
    below (suc r) s h k l = let e : r ≡ suc r - 1 = omega arith in subst (IsRoot n) e (record { least = omega arith; most = omega arith })

module _ {a rem : ℕ} (h : (2 ^ 26 ≤ a) × (a < 2 ^ 27) × (rem ≤ 2 * a)) where
  abbrev t : ℕ
  t = rem * 2 ^ 26

  abbrev pub q : ℕ
  q = t / a

  abbrev pub have : ℕ
  have = t % a * 2 ^ 28

  pub root_pos : 0 < a
  root_pos = omega arith

  pub q_le : q ≤ 2 ^ 27
  q_le =
      let l : q < 2 ^ 27 + 1 = (div-lt_iff_lt-mul {k = a} {x = t} {y = 2 ^ 27 + 1} root_pos).1 (omega arith) in
      omega arith

  pub need_le : q * q ≤ 2 ^ 54
  need_le = mul-le-mul q_le q_le

  pub have_lt : have < 2 * (a * 2 ^ 27)
  have_lt = go (t % a) (mod-lt t root_pos)
    where
      go : (e : ℕ) → e < a → e * 2 ^ 28 < 2 * (a * 2 ^ 27)
      go e l = omega arith

  pub second : IsRoot ((a * a + rem) * 2 ^ 54) (a * 2 ^ 27 + q - bool_byte (ltb have (q * q)))
  second =
      settled ((a * a + rem) * 2 ^ 54) (a * 2 ^ 27 + q) have (q * q) (balance q (t % a) (div-add-mod' t a)) (enough q have have_lt) (short q have need_le)
    where
      balance : (q e : ℕ) → q * a + e ≡ rem * 2 ^ 26 → (a * a + rem) * 2 ^ 54 + q * q ≡ (a * 2 ^ 27 + q) * (a * 2 ^ 27 + q) + e * 2 ^ 28
      balance q e f = omega arith

      enough : (q have : ℕ) → have < 2 * (a * 2 ^ 27) → have ≤ 2 * (a * 2 ^ 27 + q)
      enough q have l = omega arith

      short : (q have : ℕ) → q * q ≤ 2 ^ 54 → q * q < have + 2 * (a * 2 ^ 27 + q)
      short zero have l = omega arith
      short (suc q) have l = omega arith

-- ---- how far the digits were worked out
-- nothing remains of m: 27 digits, and zeros after them
pub ends-first : {m p e : ℕ} → IsRemainder m p e → e ≡ 0 → IsRoot (m * 2 ^ 54) (p * 2 ^ 27) × Ends (m * 2 ^ 54) (p * 2 ^ 27) 27
ends-first {m} {p} {e} v z =
    let f : m ≡ p * p = v.is ∙ ap (λ (x : ℕ). p * p + x) z ∙ add-zero (p * p) in
    (record { least = omega arith; most = omega arith }, inl (refl, omega arith))

-- something remains of m: no root of m * 2 ^ 54 is exact
pub ends-second : {m p e : ℕ} (r : ℕ) → IsRemainder m p e → (e ≡ 0 → ⊥) → Ends (m * 2 ^ 54) r 54
ends-second {m} {p} {e} r v n =
    inr (
      refl,
      λ (h : r * r ≡ m * 2 ^ 54).
          let s = square_out 27 r m h in
          let x : p * p ≡ m = exact_is s.0 (whole_of v) s.1.1 in
          n (omega (arith, v.is)),
    )
