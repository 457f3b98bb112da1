-- Each operation on finite values is the rounding of a signed fraction (p - n) / c, and the rounding keeps the order:
-- so each operation is monotone.
use Rattle.std.specs.Prelude.{◌≡◌, refl, Bool, true, false, not, cond, ℕ, ◌+◌, ◌-◌, ◌*◌, ◌≤◌, ◌<◌, T, ltb, Float}
use Rattle.std.proofs.Common.{sym, ap, subst, mul-le-mul_right, mul-pos, arith, ltb→lt, nltb→le}
use Rattle.std.specs.Float.{nan, inf, fin, Format}
use Rattle.std.specs.Float.Ieee.{up, down, round, neg, sum, add, mul, le}
use Rattle.std.specs.Float.Ieee.Fits.{down_pos}
use Rattle.std.specs.Float.Ieee.Scale.{finite}
use Rattle.float.specs.Laws.Signed.{sp, sn, sp-mul, sn-mul, P, N, D, le→, round_le}

-- z is (p - n) / c, rounded
pub record Rounds (f : Format) (z : Float) (p n c : ℕ) : Type 0 where
  pub sign : Bool
  pub size : ℕ
  pub is : z ≡ round f sign size c
  pub val : sp sign size + n ≡ sn sign size + p
  pub den : 0 < c

-- (p - n) / c ≤ (p' - n') / c'
abbrev pub FLe : ℕ → ℕ → ℕ → ℕ → ℕ → ℕ → Type 0
FLe p n c p' n' c' = p * c' + n' * c ≤ p' * c + n * c'

pub rounds_le : (f : Format) (z w : Float) (p n c p' n' c' : ℕ) → Rounds f z p n c → Rounds f w p' n' c' → FLe p n c p' n' c' → T (le z w)
rounds_le f z w p n c p' n' c' r q h =
    let a : (sp r.sign r.size + n) * c' ≡ (sn r.sign r.size + p) * c' = ap (λ (k : ℕ). k * c') r.val in
    let b : (sp q.sign q.size + n') * c ≡ (sn q.sign q.size + p') * c = ap (λ (k : ℕ). k * c) q.val in
    subst (λ (x : Float). T (le x w)) (sym r.is)
    (subst (λ (x : Float). T (le (round f r.sign r.size c) x)) (sym q.is)
    (round_le f r.sign r.size c q.sign q.size c' r.den q.den (omega arith)))

-- ---- the sum
sum_rounds : (f : Format) (s : Bool) (a : ℕ) (t : Bool) (b c : ℕ) → 0 < c → Rounds f (sum f s a t b c) (sp s a + sp t b) (sn s a + sn t b) c
unfolding sum
sum_rounds f false a false b c C = record { sign = false; size = a + b; is = refl; val = omega arith; den = C }
sum_rounds f true a true b c C = record { sign = true; size = a + b; is = refl; val = omega arith; den = C }
sum_rounds f false a true b c C = go (ltb a b) (ltb→lt a b) (nltb→le a b)
  where
    go : (u : Bool) → (T u → a < b) → (T (not u) → b ≤ a) → Rounds f (cond u (round f true (b - a) c) (round f false (a - b) c)) (a + 0) (0 + b) c
    go true h k = let l : a < b = h tt in record { sign = true; size = b - a; is = refl; val = omega arith; den = C }
    go false h k = let l : b ≤ a = k tt in record { sign = false; size = a - b; is = refl; val = omega arith; den = C }
sum_rounds f true a false b c C = go (ltb a b) (ltb→lt a b) (nltb→le a b) (ltb b a) (ltb→lt b a) (nltb→le b a)
  where
    go : (u : Bool) → (T u → a < b) → (T (not u) → b ≤ a) → (v : Bool) → (T v → b < a) → (T (not v) → a ≤ b) → Rounds f (cond u (round f false (b - a) c) (round f v (a - b) c)) (0 + b) (a + 0) c
    go true h k v h' k' = let l : a < b = h tt in record { sign = false; size = b - a; is = refl; val = omega arith; den = C }
    go false h k true h' k' = let l : b ≤ a = k tt in record { sign = true; size = a - b; is = refl; val = omega arith; den = C }
    go false h k false h' k' = let l : b ≤ a = k tt in let l' : a ≤ b = k' tt in record { sign = false; size = a - b; is = refl; val = omega arith; den = C }

-- a fraction that equals (p - n) / c, written otherwise
pub recast : (f : Format) (z : Float) (p n p' n' c : ℕ) → p + n' ≡ p' + n → Rounds f z p n c → Rounds f z p' n' c
recast f z p n p' n' c h r = let v = r.val in record { sign = r.sign; size = r.size; is = r.is; val = omega arith; den = r.den }

pub add_rounds : (f : Format) (x y : Float) → T (finite x) → T (finite y) → Rounds f (add f x y) (P x * D y + P y * D x) (N x * D y + N y * D x) (D x * D y)
unfolding add
add_rounds f nan y p q = absurd p
add_rounds f (inf s) y p q = absurd p
add_rounds f (fin s m e) nan p q = absurd q
add_rounds f (fin s m e) (inf t) p q = absurd q
add_rounds f (fin s m e) (fin t n d) p q =
    recast f (sum f s (m * up e * down d) t (n * up d * down e) (down e * down d)) _ _ _ _ (down e * down d)
    (omega (arith, sp-mul s (m * up e) (down d), sn-mul s (m * up e) (down d), sp-mul t (n * up d) (down e), sn-mul t (n * up d) (down e)))
    (sum_rounds f s (m * up e * down d) t (n * up d * down e) (down e * down d) (mul-pos (down_pos e) (down_pos d)))

pub finite_neg : (x : Float) → T (finite x) → T (finite (neg x))
unfolding neg
finite_neg nan p = p
finite_neg (inf s) p = p
finite_neg (fin s m e) p = tt

pub neg_P : (x : Float) → P (neg x) ≡ N x
unfolding neg
neg_P nan = refl
neg_P (inf s) = refl
neg_P (fin true m e) = refl
neg_P (fin false m e) = refl

pub neg_N : (x : Float) → N (neg x) ≡ P x
unfolding neg
neg_N nan = refl
neg_N (inf s) = refl
neg_N (fin true m e) = refl
neg_N (fin false m e) = refl

pub neg_D : (x : Float) → D (neg x) ≡ D x
unfolding neg
neg_D nan = refl
neg_D (inf s) = refl
neg_D (fin s m e) = refl

-- ---- the product
pub mul_rounds : (f : Format) (x y : Float) → T (finite x) → T (finite y) → Rounds f (mul f x y) (P x * P y + N x * N y) (P x * N y + N x * P y) (D x * D y)
unfolding mul
mul_rounds f nan y p q = absurd p
mul_rounds f (inf s) y p q = absurd p
mul_rounds f (fin s m e) nan p q = absurd q
mul_rounds f (fin s m e) (inf t) p q = absurd q
mul_rounds f (fin true m e) (fin true n d) p q = record { sign = false; size = m * up e * (n * up d); is = refl; val = omega arith; den = mul-pos (down_pos e) (down_pos d) }
mul_rounds f (fin true m e) (fin false n d) p q = record { sign = true; size = m * up e * (n * up d); is = refl; val = omega arith; den = mul-pos (down_pos e) (down_pos d) }
mul_rounds f (fin false m e) (fin true n d) p q = record { sign = true; size = m * up e * (n * up d); is = refl; val = omega arith; den = mul-pos (down_pos e) (down_pos d) }
mul_rounds f (fin false m e) (fin false n d) p q = record { sign = false; size = m * up e * (n * up d); is = refl; val = omega arith; den = mul-pos (down_pos e) (down_pos d) }

-- ---- monotone
distribute : (p d q c c' d' : ℕ) → (p * d + q * c) * (c' * d') ≡ p * c' * (d * d') + q * d' * (c * c')
distribute p d q c c' d' = omega arith

distribute' : (p d q c c' d' : ℕ) → (p * d + q * c) * (c' * d') ≡ p * c' * (d' * d) + q * d' * (c' * c)
distribute' p d q c c' d' = omega arith

pub scale : (a b c d k : ℕ) → a + b ≤ c + d → a * k + b * k ≤ c * k + d * k
scale a b c d k h = omega (arith, mul-le-mul_right k h)

sum_le : (A B C E A' B' C' E' a b c e : ℕ) → a ≡ A + A' → b ≡ B + B' → c ≡ C + C' → e ≡ E + E' → A + B ≤ C + E → A' + B' ≤ C' + E' → a + b ≤ c + e
sum_le A B C E A' B' C' E' a b c e p q r s h k = omega arith

add_cross : (p n c p' n' c' q m d q' m' d' : ℕ) → FLe p n c p' n' c' → FLe q m d q' m' d' → FLe (p * d + q * c) (n * d + m * c) (c * d) (p' * d' + q' * c') (n' * d' + m' * c') (c' * d')
add_cross p n c p' n' c' q m d q' m' d' h k =
    sum_le _ _ _ _ _ _ _ _ _ _ _ _ (distribute p d q c c' d') (distribute' n' d' m' c' c d) (distribute' p' d' q' c' c d) (distribute n d m c c' d')
    (scale (p * c') (n' * c) (p' * c) (n * c') (d * d') h) (scale (q * d') (m' * d) (q' * d) (m * d') (c * c') k)

pub add_mono : (f : Format) (x x' y y' : Float) → T (finite x) → T (finite x') → T (finite y) → T (finite y') → T (le x x') → T (le y y') → T (le (add f x y) (add f x' y'))
add_mono f x x' y y' a b c d h k =
    rounds_le f (add f x y) (add f x' y') _ _ _ _ _ _ (add_rounds f x y a c) (add_rounds f x' y' b d)
    (add_cross (P x) (N x) (D x) (P x') (N x') (D x') (P y) (N y) (D y) (P y') (N y') (D y') (le→ x x' a b h) (le→ y y' c d k))
