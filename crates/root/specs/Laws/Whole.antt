-- Squares, powers of 2 and whole roots: `isqrt n` is the whole root of n, and grows with n. Assumes nothing.
use Rattle.std.specs.Prelude.{◌≡◌, refl, Bool, true, false, not, cond, ℕ, zero, suc, ◌+◌, ◌*◌, ◌/◌, ◌%◌, ◌^◌, ◌≤◌, ◌<◌, T, leb}
use Rattle.std.proofs.Common.{sym, ap, ◌∙◌, subst, le_trans, le_antisymm, le_of_eq, le_of_lt, lt_irrefl, lt_of_lt_of_le, lt_of_le_of_lt, lt_of_not-le, not-le_of_lt, mul-le-mul, mul-le-mul_left, mul-lt-mul_of_pos_right, pow-suc, div-lt_iff_lt-mul, zero-lt-suc, arith, leb→le, pow-add, pow_mono}
use Rattle.std.proofs.Math.Nat.{pow-le-pow_left}
use Rattle.std.proofs.Math.Dec.{nleb→lt}
use Rattle.std.specs.Float.Ieee.{size}
use Rattle.std.specs.Float.Ieee.Digits.{size-lt}
use Rattle.root.specs.Root.{root_digits, isqrt}

-- r is the whole root of n: the largest number whose square is at most n
pub record IsRoot (n r : ℕ) : Type 0 where
  pub least : r * r ≤ n
  pub most : n < (r + 1) * (r + 1)

-- ---- powers of 2
pub pow_sum : (a b c : ℕ) → a + b ≡ c → 2 ^ a * 2 ^ b ≡ 2 ^ c
pow_sum a b c e = sym (pow-add 2 a b) ∙ ap (λ (x : ℕ). 2 ^ x) e

pub pow_lt_back : (a b : ℕ) → 2 ^ a < 2 ^ b → a < b
pow_lt_back a b h = lt_of_not-le (λ (g : b ≤ a). lt_irrefl (2 ^ a) (lt_of_lt_of_le h (pow_mono g)))

-- ---- squares
pub sq_lt : (a b : ℕ) → a < b → a * a < b * b
sq_lt a b h = lt_of_le_of_lt (mul-le-mul_left a (le_of_lt h)) (mul-lt-mul_of_pos_right h (omega arith))

pub sq_lt_back : (a b : ℕ) → a * a < b * b → a < b
sq_lt_back a b h = lt_of_not-le (λ (g : b ≤ a). not-le_of_lt h (mul-le-mul g g))

-- what has a square of at most n is at most n's whole root
pub sq_le_root : {n r : ℕ} (a : ℕ) → IsRoot n r → a * a ≤ n → a ≤ r
sq_le_root {n} {r} a v h = let l : a < r + 1 = sq_lt_back a (r + 1) (lt_of_le_of_lt h v.most) in omega arith

-- the square of an odd number is odd
pub odd_square : (p a : ℕ) → p % 2 ≡ 1 → a % 2 ≡ 0 → p * p ≡ a → ⊥
odd_square p a o e h =
    let q = p / 2 in
    let x : p ≡ 2 * q + 1 = omega arith in
    let w : (2 * q + 1) * (2 * q + 1) ≡ a = ap (λ (x : ℕ). x * x) (sym x) ∙ h in
    omega arith

-- a square of four times x is that of an even number
half_square : (r x : ℕ) → r * r ≡ 4 * x → (r ≡ 2 * (r / 2)) × (r / 2 * (r / 2) ≡ x)
half_square r x h = go (r % 2) refl
  where
    go : (b : ℕ) → r % 2 ≡ b → (r ≡ 2 * (r / 2)) × (r / 2 * (r / 2) ≡ x)
    go zero e =
        let q = r / 2 in
        let f : r ≡ 2 * q = omega arith in
        let g : 2 * q * (2 * q) ≡ 4 * x = ap (λ (x : ℕ). x * x) (sym f) ∙ h in
        (f, omega arith)
    go (suc b) e = absurd (odd_square r (4 * x) (omega arith) (omega arith) h)

-- an exact root of a * 4 ^ j is 2 ^ j times an exact root of a
pub square_out : (j r a : ℕ) → r * r ≡ a * (2 ^ j * 2 ^ j) → (s : ℕ) × ((r ≡ s * 2 ^ j) × (s * s ≡ a))
square_out zero r a h = (r, (omega arith, omega arith))
square_out (suc j) r a h =
    let d = half_square r (a * (2 ^ j * 2 ^ j)) (h ∙ ap (λ (x : ℕ). a * (x * x)) (pow-suc 2 j) ∙ four a (2 ^ j)) in
    let v = square_out j (r / 2) a d.1 in
    (v.0, (d.0 ∙ ap (λ (x : ℕ). 2 * x) v.1.0 ∙ twice v.0 (2 ^ j) ∙ ap (λ (x : ℕ). v.0 * x) (sym (pow-suc 2 j)), v.1.1))
  where
    four : (a w : ℕ) → a * (w * 2 * (w * 2)) ≡ 4 * (a * (w * w))
    four a w = omega arith

    twice : (s w : ℕ) → 2 * (s * w) ≡ s * (w * 2)
    twice s w = omega arith

-- a number has one whole root, and an exact root is that
pub exact_is : {a p : ℕ} (s : ℕ) → IsRoot a p → s * s ≡ a → p * p ≡ a
exact_is {a} {p} s A e = le_antisymm A.least (le_trans (le_of_eq (sym e)) (mul-le-mul l l))
  where
    l : s ≤ p
    l = sq_le_root s A (le_of_eq e)

pub root_unique : {n r s : ℕ} → IsRoot n r → IsRoot n s → r ≡ s
root_unique {n} {r} {s} A B = le_antisymm (sq_le_root r B A.least) (sq_le_root s A B.least)

-- ---- `isqrt`
digits_root : (k n : ℕ) → n < 4 ^ k → IsRoot n (root_digits k n)
unfolding root_digits
digits_root zero n h = record { least = omega arith; most = h }
digits_root (suc k) n h =
    go (leb ((2 * q + 1) * (2 * q + 1)) n) (leb→le ((2 * q + 1) * (2 * q + 1)) n) (nleb→lt ((2 * q + 1) * (2 * q + 1)) n)
    (digits_root k (n / 4) ((div-lt_iff_lt-mul (zero-lt-suc 3)).1 (subst (λ (x : ℕ). n < x) (pow-suc 4 k) h)))
  where
    q : ℕ
    q = root_digits k (n / 4)

    go : (b : Bool) → (T b → (2 * q + 1) * (2 * q + 1) ≤ n) → (T (not b) → n < (2 * q + 1) * (2 * q + 1)) → IsRoot (n / 4) q → IsRoot n (cond b (2 * q + 1) (2 * q))
    go true a b i = let x = i.most in record { least = a tt; most = omega arith }
    go false a b i = let x = i.least in record { least = omega arith; most = b tt }

pub isqrt_root : (n : ℕ) → IsRoot n (isqrt n)
unfolding isqrt
isqrt_root n = digits_root (size n) n (lt_of_lt_of_le (size-lt n) (pow-le-pow_left (omega arith) (size n)))

pub isqrt_mono : (n k : ℕ) → n ≤ k → isqrt n ≤ isqrt k
isqrt_mono n k h = sq_le_root (isqrt n) (isqrt_root k) (le_trans (isqrt_root n).least h)
