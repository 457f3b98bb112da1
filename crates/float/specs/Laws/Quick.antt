-- A rounding that computes faster in the checker: it does not write the result with an odd number, and it guesses how
-- many digits to drop and tests the guess. Where the tests fail the result is `nan`. Where it is finite it equals what
-- `round` gives.
use Rattle.std.specs.Prelude.{◌≡◌, refl, Bool, true, false, not, ◌&&◌, ◌||◌, cond, T, leb, ltb, eqb, Float}
use Rattle.std.proofs.Common.{sym, ap, ◌∙◌, subst, inl, inr, lt_of_lt_of_le, lt_of_not-le, not-le_of_lt, arith, leb→le, ltb→lt, eqb→eq, pow_pos, pow_mono}
use Rattle.std.specs.Bool.{beq}
use Prim.Native.Nat.{ℕ, ◌+◌, ◌-◌, ◌*◌, ◌/◌, ◌%◌, ◌^◌, ◌≤◌, ◌<◌, compare}
use Rattle.std.proofs.Math.Nat.{eq_of_mul-eq-mul_right}
use Rattle.std.specs.Float.{nan, inf, fin, binary64}
use Rattle.std.specs.Float.Ieee.{up, down, minus, unlike, nearest, units, size, round, neg, add, sub, mul, div, le}
use Rattle.std.specs.Float.Ieee.Digits.{size-lt, size-le, minus_val}
use Rattle.std.specs.Float.Ieee.Fits.{and_l, and_r, round_is}
use Rattle.std.specs.Float.Ieee.Exact.{HasValue, units_val}
use Rattle.std.specs.Float.Ieee.Scale.{finite}
use Rattle.float.specs.Laws.Tests.{or_split}
use Rattle.float.specs.Laws.Signed.{→le}

-- ---- digits, by halves
abbrev half_of : ℕ → ℕ → ℕ
half_of n s = elim (ltb n (2 ^ s)) [ true ↦ 0 | false ↦ s ]

abbrev pub guess : ℕ → ℕ
guess n =
    let a = half_of n 1024 in
    let n1 = n / 2 ^ a in
    let b = half_of n1 512 in
    let n2 = n1 / 2 ^ b in
    let c = half_of n2 256 in
    let n3 = n2 / 2 ^ c in
    let d = half_of n3 128 in
    let n4 = n3 / 2 ^ d in
    let e = half_of n4 64 in
    let n5 = n4 / 2 ^ e in
    let f = half_of n5 32 in
    let n6 = n5 / 2 ^ f in
    let g = half_of n6 16 in
    let n7 = n6 / 2 ^ g in
    let h = half_of n7 8 in
    let n8 = n7 / 2 ^ h in
    let i = half_of n8 4 in
    let n9 = n8 / 2 ^ i in
    let j = half_of n9 2 in
    let n10 = n9 / 2 ^ j in
    let k = half_of n10 1 in
    a + b + c + d + e + f + g + h + i + j + k + n10 / 2 ^ k

-- k digits are dropped of w
abbrev pub right? : ℕ → ℕ → Bool
right? w k = ltb w (2 ^ (53 + k)) && (eqb k 0 || leb (2 ^ (52 + k)) w)

pub size_gt : (n j : ℕ) → 2 ^ j ≤ n → j < size n
size_gt n j h = lt_of_not-le (λ (g : size n ≤ j). not-le_of_lt (lt_of_lt_of_le (size-lt n) (pow_mono g)) h)

right : (w k : ℕ) → T (right? w k) → size w - 53 ≡ k
right w k t =
    let A = ltb w (2 ^ (53 + k)) in
    let B = eqb k 0 || leb (2 ^ (52 + k)) w in
    let h : size w ≤ 53 + k = size-le w (53 + k) (ltb→lt w (2 ^ (53 + k)) (and_l A B t)) in
    elim (or_split (eqb k 0) (leb (2 ^ (52 + k)) w) (and_r A B t)) [
      | inl z ↦ (let y : k ≡ 0 = eqb→eq k 0 z in omega arith)
      | inr z ↦ (let y : 52 + k < size w = size_gt w (52 + k) (leb→le (2 ^ (52 + k)) w z) in omega arith)
    ]

-- ---- the rounding
abbrev pub pack : Bool → ℕ → ℕ → Float
pack s q k = elim (ltb (q * 2 ^ k) (2 ^ 2098)) [ true ↦ fin s q (minus k 1074) | false ↦ nan ]

abbrev pub at : Bool → ℕ → ℕ → ℕ → Float
at s n den k =
    elim (right? (n / den) k) [
      | true ↦ (let u = den * 2 ^ k in pack s (nearest (n / u) (compare (n % u * 2) u)) k)
      | false ↦ nan
    ]

abbrev pub quick : Bool → ℕ → ℕ → Float
quick s num den = let n = num * 2 ^ 1074 in at s n den (guess (n / den) - 53)

-- ---- it equals `round`
abbrev pub Same : Float → Float → Type 0
Same x y = T (le x y) × T (le y x)

same_value : (x y : Float) (s : Bool) (a c : ℕ) → 0 < c → HasValue x s a c → HasValue y s a c → Same x y
same_value nan y s a c C h k = absurd h
same_value (inf t) y s a c C h k = absurd h
same_value (fin t m e) nan s a c C h k = absurd k
same_value (fin t m e) (inf u) s a c C h k = absurd k
same_value (fin t m e) (fin u n d) s a c C h k = go t u (h.0 ∙ sym k.0) (cross (m * up e) (n * up d) (down e) (down d) a c C h.1 k.1)
  where
    cross : (x y e d a c : ℕ) → 0 < c → x * c ≡ a * e → y * c ≡ a * d → x * d ≡ y * e
    cross x y e d a c C p q = eq_of_mul-eq-mul_right c C (x * d) (y * e) (omega (arith, ap (λ (j : ℕ). j * d) p, ap (λ (j : ℕ). j * e) q))

    go : (t u : Bool) → t ≡ u → m * up e * down d ≡ n * up d * down e → Same (fin t m e) (fin u n d)
    go true true i x = (→le (fin true m e) (fin true n d) tt tt (omega arith), →le (fin true n d) (fin true m e) tt tt (omega arith))
    go false false i x = (→le (fin false m e) (fin false n d) tt tt (omega arith), →le (fin false n d) (fin false m e) tt tt (omega arith))
    go true false i x = absurd (subst (λ (b : Bool). T b) i tt)
    go false true i x = absurd (subst (λ (b : Bool). T b) (sym i) tt)

pack_same : (s : Bool) (q k : ℕ) → T (finite (pack s q k)) → Same (pack s q k) (units binary64 s q k)
pack_same s q k = go (ltb (q * 2 ^ k) (2 ^ 2098)) (ltb→lt (q * 2 ^ k) (2 ^ 2098))
  where
    go : (b : Bool) → (T b → q * 2 ^ k < 2 ^ 2098) → T (finite (elim b [ true ↦ fin s q (minus k 1074) | false ↦ nan ])) → Same (elim b [ true ↦ fin s q (minus k 1074) | false ↦ nan ]) (units binary64 s q k)
    go true h t = same_value (fin s q (minus k 1074)) (units binary64 s q k) s (q * 2 ^ k) (2 ^ 1074) (pow_pos 1074) (refl, minus_val q k 1074) (units_val binary64 s q k (h tt))
    go false h t = absurd t

at_same : (s : Bool) (n den k : ℕ) → T (finite (at s n den k)) → Same (at s n den k) (units binary64 s (nearest (n / (den * 2 ^ (size (n / den) - 53))) (compare (n % (den * 2 ^ (size (n / den) - 53)) * 2) (den * 2 ^ (size (n / den) - 53)))) (size (n / den) - 53))
at_same s n den k = go (right? (n / den) k) (right (n / den) k)
  where
    go : (b : Bool) → (T b → size (n / den) - 53 ≡ k) → T (finite (elim b [ true ↦ (let u = den * 2 ^ k in pack s (nearest (n / u) (compare (n % u * 2) u)) k) | false ↦ nan ]))
        → Same (elim b [ true ↦ (let u = den * 2 ^ k in pack s (nearest (n / u) (compare (n % u * 2) u)) k) | false ↦ nan ]) (units binary64 s (nearest (n / (den * 2 ^ (size (n / den) - 53))) (compare (n % (den * 2 ^ (size (n / den) - 53)) * 2) (den * 2 ^ (size (n / den) - 53)))) (size (n / den) - 53))
    go true h t =
        subst (λ (j : ℕ). Same (pack s (nearest (n / (den * 2 ^ k)) (compare (n % (den * 2 ^ k) * 2) (den * 2 ^ k))) k) (units binary64 s (nearest (n / (den * 2 ^ j)) (compare (n % (den * 2 ^ j) * 2) (den * 2 ^ j))) j)) (sym (h tt))
        (pack_same s (nearest (n / (den * 2 ^ k)) (compare (n % (den * 2 ^ k) * 2) (den * 2 ^ k))) k t)
    go false h t = absurd t

pub quick_same : (s : Bool) (num den : ℕ) → T (finite (quick s num den)) → Same (quick s num den) (round binary64 s num den)
quick_same s num den t = subst (λ (z : Float). Same (quick s num den) z) (sym (round_is binary64 s num den)) (at_same s (num * 2 ^ 1074) den (guess (num * 2 ^ 1074 / den) - 53) t)

-- ---- the operations
abbrev pub qsum : Bool → ℕ → Bool → ℕ → ℕ → Float
qsum s a t b c =
    elim (beq s t) [
      | true ↦ quick s (a + b) c
      | false ↦ elim (ltb a b) [ true ↦ quick t (b - a) c | false ↦ quick (s && ltb b a) (a - b) c ]
    ]

abbrev pub qadd : Float → Float → Float
qadd nan y = nan
qadd (inf s) y = nan
qadd (fin s m e) nan = nan
qadd (fin s m e) (inf t) = nan
qadd (fin s m e) (fin t n d) = qsum s (m * up e * down d) t (n * up d * down e) (down e * down d)

abbrev pub qmul : Float → Float → Float
qmul nan y = nan
qmul (inf s) y = nan
qmul (fin s m e) nan = nan
qmul (fin s m e) (inf t) = nan
qmul (fin s m e) (fin t n d) = quick (unlike s t) (m * up e * (n * up d)) (down e * down d)

abbrev pub qdiv : Float → Float → Float
qdiv nan y = nan
qdiv (inf s) y = nan
qdiv (fin s m e) nan = nan
qdiv (fin s m e) (inf t) = nan
qdiv (fin s m e) (fin t n d) = elim (eqb n 0) [ true ↦ nan | false ↦ quick (unlike s t) (m * up e * down d) (n * up d * down e) ]

sum_same : (b c : Bool) (s t v : Bool) (a x y d : ℕ) → T (finite (elim b [ true ↦ quick s a d | false ↦ elim c [ true ↦ quick t x d | false ↦ quick v y d ] ]))
    → Same (elim b [ true ↦ quick s a d | false ↦ elim c [ true ↦ quick t x d | false ↦ quick v y d ] ]) (cond b (round binary64 s a d) (cond c (round binary64 t x d) (round binary64 v y d)))
sum_same true c s t v a x y d h = quick_same s a d h
sum_same false true s t v a x y d h = quick_same t x d h
sum_same false false s t v a x y d h = quick_same v y d h

pub add_same : (x y : Float) → T (finite (qadd x y)) → Same (qadd x y) (add binary64 x y)
unfolding add
add_same nan y h = absurd h
add_same (inf s) y h = absurd h
add_same (fin s m e) nan h = absurd h
add_same (fin s m e) (inf t) h = absurd h
add_same (fin s m e) (fin t n d) h =
    let a = m * up e * down d in
    let b = n * up d * down e in
    sum_same (beq s t) (ltb a b) s t (s && ltb b a) (a + b) (b - a) (a - b) (down e * down d) h

pub mul_same : (x y : Float) → T (finite (qmul x y)) → Same (qmul x y) (mul binary64 x y)
unfolding mul
mul_same nan y h = absurd h
mul_same (inf s) y h = absurd h
mul_same (fin s m e) nan h = absurd h
mul_same (fin s m e) (inf t) h = absurd h
mul_same (fin s m e) (fin t n d) h = quick_same (unlike s t) (m * up e * (n * up d)) (down e * down d) h

pub div_same : (x y : Float) → T (finite (qdiv x y)) → Same (qdiv x y) (div binary64 x y)
unfolding div
div_same nan y h = absurd h
div_same (inf s) y h = absurd h
div_same (fin s m e) nan h = absurd h
div_same (fin s m e) (inf t) h = absurd h
div_same (fin s m e) (fin t n d) h = go (eqb n 0) h
  where
    go : (b : Bool) → T (finite (elim b [ true ↦ nan | false ↦ quick (unlike s t) (m * up e * down d) (n * up d * down e) ]))
        → Same (elim b [ true ↦ nan | false ↦ quick (unlike s t) (m * up e * down d) (n * up d * down e) ]) (cond b (cond (eqb m 0) nan (inf (unlike s t))) (round binary64 (unlike s t) (m * up e * down d) (n * up d * down e)))
    go true h = absurd h
    go false h = quick_same (unlike s t) (m * up e * down d) (n * up d * down e) h

abbrev pub qneg : Float → Float
qneg nan = nan
qneg (inf s) = inf (not s)
qneg (fin s m e) = fin (not s) m e

pub neg_is : (x : Float) → qneg x ≡ neg x
unfolding neg
neg_is nan = refl
neg_is (inf s) = refl
neg_is (fin s m e) = refl

abbrev pub qsub : Float → Float → Float
qsub x y = qadd x (qneg y)

pub sub_same : (x y : Float) → T (finite (qsub x y)) → Same (qsub x y) (sub binary64 x y)
unfolding sub
sub_same x y h = subst (λ (z : Float). Same (qadd x (qneg y)) (add binary64 x z)) (neg_is y) (add_same x (qneg y) h)
