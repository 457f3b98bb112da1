-- Magnitudes: x is finite and at most 2 ^ k in size. Sums, differences, products and quotients of such values are such
-- values, and do not overflow.
use Rattle.std.specs.Prelude.{◌≡◌, refl, ◌⊎◌, Bool, true, false, ◌&&◌, ℕ, suc, ◌+◌, ◌*◌, ◌^◌, ◌≤◌, ◌<◌, T, leb, Float}
use Rattle.std.proofs.Common.{sym, ap, ◌∙◌, subst, inl, inr, mul-le-mul_right, mul-le-mul, le_of_mul-le-mul_right, le_trans, pow-suc, lt_irrefl, eq-zero-or-pos, arith, leb→le, lit<, pow-add, pow_pos, pow_mono}
use Rattle.std.proofs.Math.Pow.{pow-lt}
use Rattle.std.specs.Float.{nan, inf, fin, binary64}
use Rattle.std.specs.Float.Ieee.{round, neg, add, sub, mul, div, le}
use Rattle.std.specs.Float.Ieee.Fits.{and_l, and_r}
use Rattle.std.specs.Float.Ieee.Exact.{HasValue, round_exact}
use Rattle.std.specs.Float.Ieee.Scale.{finite}
use Rattle.float.specs.Laws.Signed.{P, N, D, D_pos, le→, round_neg}
use Rattle.float.specs.Laws.Operations.{Rounds, FLe, rounds_le, add_rounds, mul_rounds, finite_neg, neg_P, neg_N, neg_D}
use Rattle.float.specs.Laws.Order.{finite_of, sign_of, div_rounds, div_negs}

pub record Within (k : ℕ) (x : Float) : Type 0 where
  pub is_finite : T (finite x)
  pub size : P x + N x ≤ 2 ^ k * D x

-- the bound of a literal, by computation
abbrev pub within? : ℕ → Float → Bool
within? k x = finite x && leb (P x + N x) (2 ^ k * D x)

pub within : (k : ℕ) (x : Float) → T (within? k x) → Within k x
within k x t = record { is_finite = and_l (finite x) (leb (P x + N x) (2 ^ k * D x)) t; size = leb→le (P x + N x) (2 ^ k * D x) (and_r (finite x) (leb (P x + N x) (2 ^ k * D x)) t) }

pub wider : (j k : ℕ) (x : Float) → j ≤ k → Within j x → Within k x
wider j k x h w = record { is_finite = w.is_finite; size = le_trans w.size (mul-le-mul_right (D x) (pow_mono h)) }

-- ---- 2 ^ k is a value
abbrev power : ℕ → Float
power k = round binary64 false (2 ^ k) 1

power_exact : (k : ℕ) → k < 1024 → HasValue (power k) false (2 ^ k) 1
power_exact k h =
    round_exact binary64 false (2 ^ k) 1 1 (k + 1074) (pow_pos 0) (lit< tt)
    (subst (λ (n : ℕ). n < 2 ^ 2098) (sym (one_mul' (2 ^ (k + 1074)))) (pow-lt (top k h)))
    (sym (pow-add 2 k 1074) ∙ omega arith)
  where
    top : (k : ℕ) → k < 1024 → k + 1074 < 2098
    top k h = omega arith

    one_mul' : (n : ℕ) → 1 * n ≡ n
    one_mul' n = omega arith

pub has_finite : (x : Float) (s : Bool) (a c : ℕ) → HasValue x s a c → T (finite x)
has_finite nan s a c h = absurd h
has_finite (inf t) s a c h = absurd h
has_finite (fin t m e) s a c h = tt

pub has_P : (x : Float) (a c : ℕ) → HasValue x false a c → (P x * c ≡ a * D x) × (N x ≡ 0)
has_P nan a c h = absurd h
has_P (inf t) a c h = absurd h
has_P (fin true m e) a c h = absurd (subst (λ (b : Bool). T b) h.0 tt)
has_P (fin false m e) a c h = (h.1, refl)

-- ---- a fraction of size at most 2 ^ k, rounded
power_rounds : (k : ℕ) → Rounds binary64 (power k) (2 ^ k) 0 1
power_rounds k = record { sign = false; size = 2 ^ k; is = refl; val = omega arith; den = pow_pos 0 }

below_rounds : (k : ℕ) → Rounds binary64 (neg (power k)) 0 (2 ^ k) 1
below_rounds k = record { sign = true; size = 2 ^ k; is = sym (round_neg binary64 (2 ^ k) 1); val = omega arith; den = pow_pos 0 }

size_of : (p n c q m d k : ℕ) → q * 1 ≡ k * d → m ≡ 0 → 0 < d → (n ≡ 0) ⊎ (p ≡ 0) → FLe p n c q m d → m * c + n * d ≤ p * d + q * c → p + n ≤ k * c
size_of p n c q m d k e z h (inl s) l r = le_of_mul-le-mul_right {k = d} (omega (arith, ap (λ (j : ℕ). j * c) e, ap (λ (j : ℕ). j * c) z, ap (λ (j : ℕ). j * d) s)) h
size_of p n c q m d k e z h (inr s) l r = le_of_mul-le-mul_right {k = d} (omega (arith, ap (λ (j : ℕ). j * c) e, ap (λ (j : ℕ). j * c) z, ap (λ (j : ℕ). j * d) s)) h

pub rounds_within : (k : ℕ) (z : Float) (p n c : ℕ) → k < 1024 → Rounds binary64 z p n c → p ≤ n + 2 ^ k * c → n ≤ p + 2 ^ k * c → Within k z
rounds_within k z p n c K r h l =
    let e = power_exact k K in
    let F : T (finite (power k)) = has_finite (power k) false (2 ^ k) 1 e in
    let a : T (le z (power k)) = rounds_le binary64 z (power k) p n c (2 ^ k) 0 1 r (power_rounds k) (omega arith) in
    let b : T (le (neg (power k)) z) = rounds_le binary64 (neg (power k)) z 0 (2 ^ k) 1 p n c (below_rounds k) r (omega arith) in
    let G : T (finite z) = finite_of (neg (power k)) z (power k) (finite_neg (power k) F) F b a in
    let A = le→ z (power k) G F a in
    let B = le→ (neg (power k)) z (finite_neg (power k) F) G b in
    let v = has_P (power k) (2 ^ k) 1 e in
    record {
      is_finite = G;
      size = size_of (P z) (N z) (D z) (P (power k)) (N (power k)) (D (power k)) (2 ^ k) v.0 v.1 (D_pos (power k)) (sign_of z) A
          (omega (arith, B, ap (λ (j : ℕ). j * D z) (neg_P (power k)), ap (λ (j : ℕ). N z * j) (neg_D (power k)), ap (λ (j : ℕ). P z * j) (neg_D (power k)), ap (λ (j : ℕ). j * D z) (neg_N (power k))));
    }

-- ---- the operations
pub neg_within : (k : ℕ) (x : Float) → Within k x → Within k (neg x)
neg_within k x w = record { is_finite = finite_neg x w.is_finite; size = omega (arith, w.size, neg_P x, neg_N x, ap (λ (j : ℕ). 2 ^ k * j) (neg_D x)) }

weaken : (p n t t' : ℕ) → t' ≡ t → p ≤ t → p ≤ n + t'
weaken p n t t' e h = omega arith

swap : (a b c : ℕ) → a + b ≤ c → b + a ≤ c
swap a b c h = omega arith

part_l : (a b c : ℕ) → a + b ≤ c → a ≤ c
part_l a b c h = omega arith

part-r : (a b c : ℕ) → a + b ≤ c → b ≤ c
part-r a b c h = omega arith

add-size : (p q c d t : ℕ) → p ≤ t * c → q ≤ t * d → p * d + q * c ≤ t * 2 * (c * d)
add-size p q c d t h k = omega (arith, mul-le-mul_right d h, mul-le-mul_right c k)

pub add_within : (k : ℕ) (x y : Float) → k < 1023 → Within k x → Within k y → Within (suc k) (add binary64 x y)
add_within k x y K v w =
    let e : 2 ^ suc k ≡ 2 ^ k * 2 = pow-suc 2 k in
    let a = add-size (P x) (P y) (D x) (D y) (2 ^ k) (part_l (P x) (N x) (2 ^ k * D x) v.size) (part_l (P y) (N y) (2 ^ k * D y) w.size) in
    let b = add-size (N x) (N y) (D x) (D y) (2 ^ k) (part-r (P x) (N x) (2 ^ k * D x) v.size) (part-r (P y) (N y) (2 ^ k * D y) w.size) in
    let f = ap (λ (j : ℕ). j * (D x * D y)) e in
    rounds_within (suc k) (add binary64 x y) _ _ _ (omega arith) (add_rounds binary64 x y v.is_finite w.is_finite) (weaken _ _ _ _ f a) (weaken _ _ _ _ f b)

pub sub_within : (k : ℕ) (x y : Float) → k < 1023 → Within k x → Within k y → Within (suc k) (sub binary64 x y)
unfolding sub
sub_within k x y K v w = add_within k x (neg y) K v (neg_within k y w)

mul-size : (p n c q m d s t : ℕ) → p + n ≤ s * c → q + m ≤ t * d → p * q + n * m ≤ s * t * (c * d)
mul-size p n c q m d s t h k = omega (arith, mul-le-mul h k)

pub mul_within : (j k : ℕ) (x y : Float) → j + k < 1024 → Within j x → Within k y → Within (j + k) (mul binary64 x y)
mul_within j k x y K v w =
    let f = ap (λ (i : ℕ). i * (D x * D y)) (pow-add 2 j k) in
    rounds_within (j + k) (mul binary64 x y) _ _ _ K (mul_rounds binary64 x y v.is_finite w.is_finite)
    (weaken _ _ _ _ f (mul-size (P x) (N x) (D x) (P y) (N y) (D y) (2 ^ j) (2 ^ k) v.size w.size))
    (weaken _ _ _ _ f (mul-size (P x) (N x) (D x) (N y) (P y) (D y) (2 ^ j) (2 ^ k) v.size (swap (P y) (N y) (2 ^ k * D y) w.size)))

-- y is finite and at least 2 ^ -j in size
pub record Apart (j : ℕ) (y : Float) : Type 0 where
  pub is_finite : T (finite y)
  pub size : D y ≤ 2 ^ j * (P y + N y)

div-size : (p n c q d s t : ℕ) → p + n ≤ s * c → d ≤ t * q → p * d ≤ s * t * (q * c)
div-size p n c q d s t h k = omega (arith, mul-le-mul (part_l p n (s * c) h) k)

div_pos_within : (j k : ℕ) (x y : Float) → j + k < 1024 → Within k x → Apart j y → N y ≡ 0 → Within (k + j) (div binary64 x y)
div_pos_within j k x y K v w z =
    let f = ap (λ (i : ℕ). i * (P y * D x)) (pow-add 2 k j) in
    let d : D y ≤ 2 ^ j * P y = subst (λ (i : ℕ). D y ≤ 2 ^ j * i) (plus_none (P y) (N y) z) w.size in
    rounds_within (k + j) (div binary64 x y) _ _ _ (omega arith) (div_rounds binary64 x y v.is_finite w.is_finite (some (P y) (2 ^ j) (D y) (D_pos y) d))
    (weaken _ _ _ _ f (div-size (P x) (N x) (D x) (P y) (D y) (2 ^ k) (2 ^ j) v.size d))
    (weaken _ _ _ _ f (div-size (N x) (P x) (D x) (P y) (D y) (2 ^ k) (2 ^ j) (swap (P x) (N x) (2 ^ k * D x) v.size) d))
  where
    plus_none : (p n : ℕ) → n ≡ 0 → p + n ≡ p
    plus_none p n z = omega arith

    some : (p t d : ℕ) → 0 < d → d ≤ t * p → 0 < p
    some p t d D h = elim (eq-zero-or-pos p) [ inr a ↦ a | inl a ↦ absurd (lt_irrefl 0 (let e : t * p ≡ t * 0 = ap (λ (i : ℕ). t * i) a in omega arith)) ]

pub div_within : (j k : ℕ) (x y : Float) → j + k < 1024 → Within k x → Apart j y → Within (k + j) (div binary64 x y)
div_within j k x y K v w = elim (sign_of y) [
  | inl z ↦ div_pos_within j k x y K v w z
  | inr z ↦
      subst (λ (q : Float). Within (k + j) q) (sym (div_negs binary64 x y v.is_finite w.is_finite))
      (div_pos_within j k (neg x) (neg y) K (neg_within k x v) (neg_apart j y w) (neg_N y ∙ z))
]
  where
    neg_apart : (j : ℕ) (y : Float) → Apart j y → Apart j (neg y)
    neg_apart j y w = record { is_finite = finite_neg y w.is_finite; size = fix (D y) (P y) (N y) (D (neg y)) (P (neg y)) (N (neg y)) (2 ^ j) (neg_D y) (neg_P y) (neg_N y) w.size }
      where
        fix : (d p n d' p' n' t : ℕ) → d' ≡ d → p' ≡ n → n' ≡ p → d ≤ t * (p + n) → d' ≤ t * (p' + n')
        fix d p n d' p' n' t a b c h = omega (arith, ap (λ (i : ℕ). t * i) b, ap (λ (i : ℕ). t * i) c)
