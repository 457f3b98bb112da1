-- Every value of the format that is finite and above zero has the form that `Form` speaks of. Assumes nothing.
use Rattle.std.specs.Prelude.{◌≡◌, refl, true, false, ℕ, zero, suc, ◌+◌, ◌-◌, ◌*◌, ◌/◌, ◌%◌, ◌^◌, ◌≤◌, ◌<◌, ℤ, pos, negsuc, T, Float}
use Rattle.std.proofs.Math.Path.{sym, ap}
use Rattle.std.proofs.Common.{◌∙◌, le_trans, le_of_eq, lt_of_lt_of_le, lt_of_le_of_lt, mul-one, mul_right_comm, mul-pos, mul-le-mul_right, mul-lt-mul_of_pos_right, zero-mul, lit<, pow-add, pow_pos, pow_mono, shl_lt}
use Rattle.std.proofs.Math.Nat.{mul_assoc, le_of_mul-le-mul_right, lt_of_mul-lt-mul_right, mul-mod_left}
use native.Mathlib.Omega.{arith}
use Rattle.std.specs.Float.{nan, inf, fin, binary64}
use Rattle.std.specs.Float.Ieee.{up, down, size, fits}
use Rattle.std.specs.Float.Ieee.Digits.{size-lt, size-le, size_reaches}
use Rattle.std.specs.Float.Ieee.Exact.{HasValue}
use Rattle.std.specs.Float.Ieee.Positive.{positive}
use Rattle.float.specs.Laws.Exact.{fits_top}
use Rattle.float.specs.Laws.Remainder.{fits_digits}
use Rattle.root.specs.Root.{isqrt, root_of}
use Rattle.root.specs.Laws.Whole.{IsRoot, isqrt_root, sq_le_root, sq_lt_back, pow_sum, pow_lt_back}
use Rattle.root.specs.Laws.Nearest.{plain}

-- ---- a value in units of the smallest: q * 2 ^ i of them, with q of 53 digits at most
pub record InUnits (v : Float) : Type 0 where
  pub q : ℕ
  pub i : ℕ
  pub short : q < 2 ^ 53
  pub size_of : HasValue v false (q * 2 ^ i) (2 ^ 1074)
  pub finite : q * 2 ^ i < 2 ^ 2098

place : (m : ℕ) (e : ℤ) → down e ≤ 2 ^ 1074 → (i : ℕ) × (m * up e * 2 ^ 1074 ≡ m * 2 ^ i * down e)
place m (pos a) h = (a + 1074, mul_assoc m (2 ^ a) (2 ^ 1074) ∙ ap (λ (x : ℕ). m * x) (sym (pow-add 2 a 1074)) ∙ sym (mul-one (m * 2 ^ (a + 1074))))
place m (negsuc a) h =
    let l : suc a < 1075 = pow_lt_back (suc a) 1075 (lt_of_le_of_lt h (lit< tt)) in
    (1074 - suc a, ap (λ (x : ℕ). x * 2 ^ 1074) (mul-one m) ∙ ap (λ (x : ℕ). m * x) (sym (pow_sum (1074 - suc a) (suc a) 1074 (omega arith))) ∙ sym (mul_assoc m (2 ^ (1074 - suc a)) (2 ^ suc a)))

-- n / 2 ^ 1074 is m * 2 ^ e, which is below 2 ^ 1024
below_top : (m : ℕ) (e : ℤ) (n : ℕ) → m * up e * 2 ^ 1074 ≡ n * down e → m * up e < 2 ^ 1024 * down e → n < 2 ^ 2098
below_top m e n h k =
    lt_of_mul-lt-mul_right (down e)
    (lt_of_le_of_lt (le_of_eq (sym h)) (lt_of_lt_of_le (mul-lt-mul_of_pos_right k (pow_pos 1074)) (le_of_eq (mul_right_comm (2 ^ 1024) (down e) (2 ^ 1074)))))

pub in_units : (v : Float) → T (plain v) → T (fits binary64 v) → InUnits v
in_units nan p t = absurd p
in_units (inf s) p t = absurd p
in_units (fin true m e) p t = absurd p
in_units (fin false zero e) p t = record { q = 0; i = 0; short = pow_pos 53; size_of = (refl, ap (λ (x : ℕ). x * 2 ^ 1074) (zero-mul (up e)) ∙ zero-mul (2 ^ 1074) ∙ sym (zero-mul (down e))); finite = pow_pos 2098 }
in_units (fin false (suc m) e) p t =
    let d = fits_digits false (suc m) e t in
    let w = place (suc m) e d.1 in
    record { q = suc m; i = w.0; short = d.0; size_of = (refl, w.1); finite = below_top (suc m) e (suc m * 2 ^ w.0) w.1 (fits_top false (suc m) e t) }

-- ---- n in units of 2 ^ -2150 as a * 4 ^ j
pub record Shaped (n : ℕ) : Type 0 where
  pub a : ℕ
  pub p : ℕ
  pub j : ℕ
  pub is : n ≡ a * (2 ^ j * 2 ^ j)
  pub whole : IsRoot a p
  pub even : a % 2 ≡ 0
  pub lo : 2 ^ 53 ≤ p
  pub hi : p < 2 ^ 54
  pub fine : j < 1994

-- the lowest 2 * j of the s digits of n go, so that 107 or 108 are left
module _ (q i : ℕ) (Q : 0 < q) (S : q < 2 ^ 53) (F : q * 2 ^ i < 2 ^ 2098) where
  n : ℕ
  n = q * 2 ^ i * 2 ^ 1076

  n-is : n ≡ q * 2 ^ (i + 1076)
  unfolding n
  n-is = mul_assoc q (2 ^ i) (2 ^ 1076) ∙ ap (λ (x : ℕ). q * x) (sym (pow-add 2 i 1076))

  s : ℕ
  s = size n

  s_le : s ≤ 53 + (i + 1076)
  unfolding s
  s_le = size-le n (53 + (i + 1076)) (lt_of_le_of_lt (le_of_eq n-is) (shl_lt 53 (i + 1076) S))

  s-top : s ≤ 3174
  unfolding s n
  s-top = size-le n 3174 (mul-lt-mul_of_pos_right F (pow_pos 1076))

  s-low : 1076 < s
  unfolding s n
  s-low = pow_lt_back 1076 s (lt_of_le_of_lt (le_trans (le_of_eq (one (2 ^ 1076))) (mul-le-mul_right (2 ^ 1076) (mul-pos Q (pow_pos i)))) (size-lt n))
    where
      one : (x : ℕ) → x ≡ 1 * x
      one x = omega arith

  j : ℕ
  j = (s - 107) / 2

  room : 2 * j + 54 ≤ i + 1076
  unfolding j
  room = let h = s_le in omega arith

  a : ℕ
  a = q * 2 ^ (i + 1076 - 2 * j)

  -- 4 ^ j
  abbrev w : ℕ
  w = 2 ^ j * 2 ^ j

  places : (k : ℕ) → 2 ^ k * w ≡ 2 ^ (k + 2 * j)
  places k = ap (λ (x : ℕ). 2 ^ k * x) (pow_sum j j (2 * j) (omega arith)) ∙ sym (pow-add 2 k (2 * j))

  a-is : n ≡ a * w
  unfolding a
  a-is =
      let r = room in
      n-is ∙ ap (λ (x : ℕ). q * x) (sym (places (i + 1076 - 2 * j) ∙ ap (λ (x : ℕ). 2 ^ x) (omega arith))) ∙ sym (mul_assoc q (2 ^ (i + 1076 - 2 * j)) w)

  a_even : a % 2 ≡ 0
  unfolding a
  a_even =
      let r = room in
      ap (λ (x : ℕ). q * x % 2) (sym (pow_sum (i + 1076 - 2 * j - 1) 1 (i + 1076 - 2 * j) (omega arith)))
      ∙ ap (λ (x : ℕ). x % 2) (sym (mul_assoc q (2 ^ (i + 1076 - 2 * j - 1)) 2))
      ∙ mul-mod_left (q * 2 ^ (i + 1076 - 2 * j - 1)) 2

  a-lo : 2 ^ 106 ≤ a
  unfolding s j
  a-lo =
      let l = s-low in
      le_of_mul-le-mul_right (le_trans (le_of_eq (places 106)) (le_trans (size_reaches n (106 + 2 * j) (omega arith)) (le_of_eq a-is))) (mul-pos (pow_pos j) (pow_pos j))

  a-hi : a < 2 ^ 108
  unfolding s j
  a-hi =
      let l = s-low in
      lt_of_mul-lt-mul_right w (lt_of_le_of_lt (le_of_eq (sym a-is)) (lt_of_lt_of_le (size-lt n) (le_trans (pow_mono (omega arith)) (le_of_eq (sym (places 108))))))

  pub shaped : Shaped (q * 2 ^ i * 2 ^ 1076)
  unfolding n j
  shaped = record {
    a = a;
    p = isqrt a;
    j = j;
    is = a-is;
    whole = isqrt_root a;
    even = a_even;
    lo = sq_le_root (2 ^ 53) (isqrt_root a) a-lo;
    hi = sq_lt_back (isqrt a) (2 ^ 54) (lt_of_le_of_lt (isqrt_root a).least a-hi);
    fine = let t = s-top in omega arith;
  }

-- ---- a value above zero, and what its root is
pub record Rooted (x : Float) : Type 0 where
  pub units : ℕ
  pub value : HasValue x false units (2 ^ 1074)
  pub shape : Shaped (units * 2 ^ 1076)
  pub root : HasValue (root_of x) false ((shape.p + 1) / 2 * 2 ^ shape.j) (2 ^ 1074)

pub positive_plain : (x : Float) → T (positive x) → T (plain x)
positive_plain nan p = absurd p
positive_plain (inf s) p = absurd p
positive_plain (fin true m e) p = absurd p
positive_plain (fin false m e) p = tt
