-- The order of all values is transitive, and total on finite ones. Each operation is monotone in each argument.
use Rattle.std.specs.Prelude.{◌≡◌, refl, ◌⊎◌, Bool, true, false, not, cond, ℕ, ◌+◌, ◌*◌, ◌≤◌, ◌<◌, T, ltb, eqb, Float}
use Rattle.std.proofs.Common.{ap, ◌∙◌, subst, inl, inr, mul-le-mul_right, mul-pos, mul_comm, le_of_mul-le-mul_right, lt_irrefl, eq-zero-or-pos, arith, ltb→lt, nltb→le, eqb→eq}
use Rattle.std.specs.Float.{nan, inf, fin, Format}
use Rattle.std.specs.Float.Ieee.{unlike, up, down, round, neg, sub, mul, div, le}
use Rattle.std.specs.Float.Ieee.Fits.{down_pos}
use Rattle.std.specs.Float.Ieee.Scale.{finite}
use Rattle.float.specs.Laws.Signed.{sp, sn, P, N, D, D_pos, le→, →le, neg_le, zero_of}
use Rattle.float.specs.Laws.Operations.{Rounds, FLe, rounds_le, recast, scale, mul_rounds, add_mono, finite_neg}

-- ---- the order
flip_trans : (p n c q m d r l e : ℕ) → 0 < d → FLe p n c q m d → FLe q m d r l e → FLe p n c r l e
flip_trans p n c q m d r l e E h k = le_of_mul-le-mul_right (omega (arith, scale (p * d) (m * c) (q * c) (n * d) e h, scale (q * e) (l * d) (r * d) (m * e) c k)) E

pub le_trans : (x y z : Float) → T (le x y) → T (le y z) → T (le x z)
unfolding le
le_trans nan y z h k = absurd h
le_trans (inf true) nan z h k = absurd h
le_trans (inf false) nan z h k = absurd h
le_trans (fin s m e) nan z h k = absurd h
le_trans (inf true) (inf t) nan h k = absurd k
le_trans (inf false) (inf true) nan h k = absurd k
le_trans (inf false) (inf false) nan h k = absurd k
le_trans (inf true) (fin t n d) nan h k = absurd k
le_trans (inf false) (fin t n d) nan h k = absurd k
le_trans (fin s m e) (inf true) nan h k = absurd k
le_trans (fin s m e) (inf false) nan h k = absurd k
le_trans (fin s m e) (fin t n d) nan h k = absurd k
le_trans (inf true) (inf t) (inf true) h k = tt
le_trans (inf true) (inf t) (inf false) h k = tt
le_trans (inf false) (inf true) (inf u) h k = absurd h
le_trans (inf false) (inf false) (inf u) h k = k
le_trans (inf true) (inf t) (fin u l j) h k = tt
le_trans (inf false) (inf true) (fin u l j) h k = absurd h
le_trans (inf false) (inf false) (fin u l j) h k = k
le_trans (inf true) (fin t n d) (inf true) h k = tt
le_trans (inf true) (fin t n d) (inf false) h k = tt
le_trans (inf false) (fin t n d) (inf u) h k = absurd h
le_trans (inf true) (fin t n d) (fin u l j) h k = tt
le_trans (inf false) (fin t n d) (fin u l j) h k = absurd h
le_trans (fin s m e) (inf true) (inf u) h k = absurd h
le_trans (fin s m e) (inf true) (fin u l j) h k = absurd h
le_trans (fin s m e) (inf false) (inf true) h k = absurd k
le_trans (fin s m e) (inf false) (inf false) h k = tt
le_trans (fin s m e) (inf false) (fin u l j) h k = absurd k
le_trans (fin s m e) (fin t n d) (inf true) h k = absurd k
le_trans (fin s m e) (fin t n d) (inf false) h k = tt
le_trans (fin s m e) (fin t n d) (fin u l j) h k =
    →le (fin s m e) (fin u l j) tt tt
    (flip_trans (P (fin s m e)) (N (fin s m e)) (D (fin s m e)) (P (fin t n d)) (N (fin t n d)) (D (fin t n d)) (P (fin u l j)) (N (fin u l j)) (D (fin u l j)) (D_pos (fin t n d))
    (le→ (fin s m e) (fin t n d) tt tt h) (le→ (fin t n d) (fin u l j) tt tt k))

pub le_refl : (x : Float) → T (finite x) → T (le x x)
le_refl x p = →le x x p p (omega arith)

-- what lies between finite values is finite
pub finite_of : (lo z hi : Float) → T (finite lo) → T (finite hi) → T (le lo z) → T (le z hi) → T (finite z)
unfolding le
finite_of lo (fin s m e) hi p q h k = tt
finite_of nan (inf s) hi p q h k = absurd p
finite_of (inf t) (inf s) hi p q h k = absurd p
finite_of (fin t n d) (inf true) hi p q h k = absurd h
finite_of (fin t n d) (inf false) nan p q h k = absurd q
finite_of (fin t n d) (inf false) (inf u) p q h k = absurd q
finite_of (fin t n d) (inf false) (fin u l j) p q h k = absurd k
finite_of lo nan nan p q h k = absurd q
finite_of lo nan (inf u) p q h k = absurd q
finite_of lo nan (fin u l j) p q h k = absurd k

either : (a b : ℕ) → (a ≤ b) ⊎ (b ≤ a)
either a b = go (ltb b a) (ltb→lt b a) (nltb→le b a)
  where
    go : (u : Bool) → (T u → b < a) → (T (not u) → a ≤ b) → (a ≤ b) ⊎ (b ≤ a)
    go true h k = let l : b < a = h tt in inr (omega arith)
    go false h k = inl (k tt)

pub le_total : (x y : Float) → T (finite x) → T (finite y) → T (le x y) ⊎ T (le y x)
le_total x y p q = elim (either (P x * D y + N y * D x) (P y * D x + N x * D y)) [ inl h ↦ inl (→le x y p q h) | inr h ↦ inr (→le y x q p (omega arith)) ]

-- ---- signs
pub sign_of : (x : Float) → (N x ≡ 0) ⊎ (P x ≡ 0)
sign_of nan = inl refl
sign_of (inf s) = inl refl
sign_of (fin true m e) = inr refl
sign_of (fin false m e) = inl refl

-- what is at least a value that is not negative is not negative
pub nonneg_of : (lo x : Float) → T (finite lo) → T (finite x) → N lo ≡ 0 → T (le lo x) → N x ≡ 0
nonneg_of lo x p q z h = elim (sign_of x) [ inl a ↦ a | inr a ↦ zero_of (N x) (D lo) (D_pos lo) (omega (arith, le→ lo x p q h, ap (λ (k : ℕ). k * D x) z, ap (λ (k : ℕ). k * D lo) a)) ]

-- ---- the difference
pub sub_mono : (f : Format) (x x' y y' : Float) → T (finite x) → T (finite x') → T (finite y) → T (finite y') → T (le x x') → T (le y' y) → T (le (sub f x y) (sub f x' y'))
unfolding sub
sub_mono f x x' y y' a b c d h k = add_mono f x x' (neg y) (neg y') a b (finite_neg y c) (finite_neg y' d) h (neg_le y' y k)

-- ---- the product
mul_pos_rounds : (f : Format) (x y : Float) → T (finite x) → T (finite y) → N y ≡ 0 → Rounds f (mul f x y) (P x * P y) (N x * P y) (D x * D y)
mul_pos_rounds f x y p q z =
    recast f (mul f x y) (P x * P y + N x * N y) (P x * N y + N x * P y) (P x * P y) (N x * P y) (D x * D y)
    (omega (arith, ap (λ (k : ℕ). P x * k) z, ap (λ (k : ℕ). N x * k) z)) (mul_rounds f x y p q)

mul_neg_rounds : (f : Format) (x y : Float) → T (finite x) → T (finite y) → P y ≡ 0 → Rounds f (mul f x y) (N x * N y) (P x * N y) (D x * D y)
mul_neg_rounds f x y p q z =
    recast f (mul f x y) (P x * P y + N x * N y) (P x * N y + N x * P y) (N x * N y) (P x * N y) (D x * D y)
    (omega (arith, ap (λ (k : ℕ). P x * k) z, ap (λ (k : ℕ). N x * k) z)) (mul_rounds f x y p q)

times : (p q c d : ℕ) → p * q * (c * d) ≡ p * c * (q * d)
times p q c d = omega arith

four : (a b c d a' b' c' d' : ℕ) → a ≡ a' → b ≡ b' → c ≡ c' → d ≡ d' → a' + b' ≤ c' + d' → a + b ≤ c + d
four a b c d a' b' c' d' e f g i h = omega arith

mul_cross : (p n c p' n' c' q d : ℕ) → FLe p n c p' n' c' → FLe (p * q) (n * q) (c * d) (p' * q) (n' * q) (c' * d)
mul_cross p n c p' n' c' q d h = four _ _ _ _ _ _ _ _ (times p q c' d) (times n' q c d) (times p' q c d) (times n q c' d) (scale (p * c') (n' * c) (p' * c) (n * c') (q * d) h)

turned : (p n c p' n' c' : ℕ) → FLe p n c p' n' c' → FLe n' p' c' n p c
turned p n c p' n' c' h = omega arith

-- in the first factor, the second of one sign
pub mul_up : (f : Format) (x x' y : Float) → T (finite x) → T (finite x') → T (finite y) → N y ≡ 0 → T (le x x') → T (le (mul f x y) (mul f x' y))
mul_up f x x' y a b c z h =
    rounds_le f (mul f x y) (mul f x' y) _ _ _ _ _ _ (mul_pos_rounds f x y a c z) (mul_pos_rounds f x' y b c z) (mul_cross (P x) (N x) (D x) (P x') (N x') (D x') (P y) (D y) (le→ x x' a b h))

pub mul_down : (f : Format) (x x' y : Float) → T (finite x) → T (finite x') → T (finite y) → P y ≡ 0 → T (le x x') → T (le (mul f x' y) (mul f x y))
mul_down f x x' y a b c z h =
    rounds_le f (mul f x' y) (mul f x y) _ _ _ _ _ _ (mul_neg_rounds f x' y b c z) (mul_neg_rounds f x y a c z)
    (mul_cross (N x') (P x') (D x') (N x) (P x) (D x) (N y) (D y) (turned (P x) (N x) (D x) (P x') (N x') (D x') (le→ x x' a b h)))

pub mul_swap : (f : Format) (x y : Float) → T (finite x) → T (finite y) → mul f x y ≡ mul f y x
unfolding mul
mul_swap f nan y p q = absurd p
mul_swap f (inf s) y p q = absurd p
mul_swap f (fin s m e) nan p q = absurd q
mul_swap f (fin s m e) (inf t) p q = absurd q
mul_swap f (fin s m e) (fin t n d) p q =
    ap (λ (u : Bool). round f u (m * up e * (n * up d)) (down e * down d)) (unlike_sym s t)
    ∙ ap (λ (k : ℕ). round f (unlike t s) k (down e * down d)) (mul_comm (m * up e) (n * up d))
    ∙ ap (λ (k : ℕ). round f (unlike t s) (n * up d * (m * up e)) k) (mul_comm (down e) (down d))
  where
    unlike_sym : (s t : Bool) → unlike s t ≡ unlike t s
    unlike_sym true true = refl
    unlike_sym true false = refl
    unlike_sym false true = refl
    unlike_sym false false = refl

-- ---- the quotient by a positive value
pub div_rounds : (f : Format) (x y : Float) → T (finite x) → T (finite y) → 0 < P y → Rounds f (div f x y) (P x * D y) (N x * D y) (P y * D x)
unfolding div
div_rounds f nan y p q z = absurd p
div_rounds f (inf s) y p q z = absurd p
div_rounds f (fin s m e) nan p q z = absurd q
div_rounds f (fin s m e) (inf t) p q z = absurd q
div_rounds f (fin s m e) (fin true n d) p q z = absurd (lt_irrefl 0 z)
div_rounds f (fin s m e) (fin false n d) p q z = go (eqb n 0) (eqb→eq n 0) s
  where
    go : (b : Bool) → (T b → n ≡ 0) → (s : Bool)
        → Rounds f (cond b (cond (eqb m 0) nan (inf (unlike s false))) (round f (unlike s false) (m * up e * down d) (n * up d * down e))) (sp s (m * up e) * down d) (sn s (m * up e) * down d) (n * up d * down e)
    go true h s = absurd (lt_irrefl 0 (let q : 0 < 0 * up d = subst (λ (k : ℕ). 0 < k * up d) (h tt) z in omega arith))
    go false h true = record { sign = true; size = m * up e * down d; is = refl; val = omega arith; den = mul-pos z (down_pos e) }
    go false h false = record { sign = false; size = m * up e * down d; is = refl; val = omega arith; den = mul-pos z (down_pos e) }

pub div_up : (f : Format) (x x' y : Float) → T (finite x) → T (finite x') → T (finite y) → 0 < P y → T (le x x') → T (le (div f x y) (div f x' y))
div_up f x x' y a b c z h =
    rounds_le f (div f x y) (div f x' y) _ _ _ _ _ _ (div_rounds f x y a c z) (div_rounds f x' y b c z) (div_cross (P x) (N x) (D x) (P x') (N x') (D x') (P y) (D y) (le→ x x' a b h))
  where
    times' : (p q c d : ℕ) → p * d * (q * c) ≡ p * c * (q * d)
    times' p q c d = omega arith

    div_cross : (p n c p' n' c' q d : ℕ) → FLe p n c p' n' c' → FLe (p * d) (n * d) (q * c) (p' * d) (n' * d) (q * c')
    div_cross p n c p' n' c' q d h = four _ _ _ _ _ _ _ _ (times' p q c' d) (times' n' q c d) (times' p' q c d) (times' n q c' d) (scale (p * c') (n' * c) (p' * c) (n * c') (q * d) h)

pub pos_N : (y : Float) → 0 < P y → N y ≡ 0
pos_N nan z = refl
pos_N (inf s) z = refl
pos_N (fin true m e) z = absurd (lt_irrefl 0 z)
pos_N (fin false m e) z = refl

-- what is at least a positive value is positive
pub pos_of : (lo x : Float) → T (finite lo) → T (finite x) → 0 < P lo → T (le lo x) → 0 < P x
pos_of lo x p q z h = elim (eq-zero-or-pos (P x)) [ inr a ↦ a | inl a ↦ absurd (lt_irrefl 0 (omega (arith, mul-pos z (D_pos x), le→ lo x p q h, ap (λ (k : ℕ). k * D x) (pos_N lo z), ap (λ (k : ℕ). k * D lo) a))) ]

grown : (p q c d q' d' : ℕ) → q * d' ≤ q' * d → p * d' * (q * c) ≤ p * d * (q' * c)
grown p q c d q' d' h = omega (arith, mul-le-mul_right (p * c) h)

ratio : (q m d q' m' d' : ℕ) → m ≡ 0 → m' ≡ 0 → FLe q m d q' m' d' → q * d' ≤ q' * d
ratio q m d q' m' d' z w h = omega (arith, ap (λ (j : ℕ). j * d) w, ap (λ (j : ℕ). j * d') z)

drop-zero : (n d j : ℕ) → n ≡ 0 → n * d * j ≡ 0
drop-zero n d j z = ap (λ (k : ℕ). k * d * j) z ∙ omega arith

-- in the divisor, from y up to y', both positive: the quotient shrinks in size
pub div_anti : (f : Format) (x y y' : Float) → T (finite x) → T (finite y) → T (finite y') → 0 < P y → 0 < P y' → N x ≡ 0 → T (le y y') → T (le (div f x y') (div f x y))
div_anti f x y y' a b c z z' w h =
    rounds_le f (div f x y') (div f x y) _ _ _ _ _ _ (div_rounds f x y' a c z') (div_rounds f x y a b z)
    (omega (arith, grown (P x) (P y) (D x) (D y) (P y') (D y') (ratio (P y) (N y) (D y) (P y') (N y') (D y') (pos_N y z) (pos_N y' z') (le→ y y' b c h)), drop-zero (N x) (D y) (P y' * D x) w))

pub div_grow : (f : Format) (x y y' : Float) → T (finite x) → T (finite y) → T (finite y') → 0 < P y → 0 < P y' → P x ≡ 0 → T (le y y') → T (le (div f x y) (div f x y'))
div_grow f x y y' a b c z z' w h =
    rounds_le f (div f x y) (div f x y') _ _ _ _ _ _ (div_rounds f x y a b z) (div_rounds f x y' a c z')
    (omega (arith, grown (N x) (P y) (D x) (D y) (P y') (D y') (ratio (P y) (N y) (D y) (P y') (N y') (D y') (pos_N y z) (pos_N y' z') (le→ y y' b c h)), drop-zero (P x) (D y) (P y' * D x) w))

-- in the second factor
pub mul_up_r : (f : Format) (x y y' : Float) → T (finite x) → T (finite y) → T (finite y') → N x ≡ 0 → T (le y y') → T (le (mul f x y) (mul f x y'))
mul_up_r f x y y' a b c z h = subst (λ (w : Float). T (le w (mul f x y'))) (mul_swap f y x b a) (subst (λ (w : Float). T (le (mul f y x) w)) (mul_swap f y' x c a) (mul_up f y y' x b c a z h))

pub mul_down_r : (f : Format) (x y y' : Float) → T (finite x) → T (finite y) → T (finite y') → P x ≡ 0 → T (le y y') → T (le (mul f x y') (mul f x y))
mul_down_r f x y y' a b c z h = subst (λ (w : Float). T (le w (mul f x y))) (mul_swap f y' x c a) (subst (λ (w : Float). T (le (mul f y' x) w)) (mul_swap f y x b a) (mul_down f y y' x b c a z h))

-- a quotient by a negative value
pub div_negs : (f : Format) (x y : Float) → T (finite x) → T (finite y) → div f x y ≡ div f (neg x) (neg y)
unfolding div neg
div_negs f nan y p q = absurd p
div_negs f (inf s) y p q = absurd p
div_negs f (fin s m e) nan p q = absurd q
div_negs f (fin s m e) (inf t) p q = absurd q
div_negs f (fin true m e) (fin true n d) p q = refl
div_negs f (fin true m e) (fin false n d) p q = refl
div_negs f (fin false m e) (fin true n d) p q = refl
div_negs f (fin false m e) (fin false n d) p q = refl
