-- `%`: it lies between -y and y, and is not negative where x is not. And whole numbers: what is its own rounding, and a
-- whole number as a float and an integer.
use Rattle.std.specs.Prelude.{◌≡◌, refl, Bool, true, false, ◌&&◌, cond, ℕ, zero, suc, ◌+◌, ◌-◌, ◌*◌, ◌/◌, ◌%◌, ◌^◌, ◌≤◌, ◌<◌, ℤ, pos, negsuc, T, leb, ltb, eqb, Float}
use Rattle.std.proofs.Common.{sym, ap, ◌∙◌, subst, mul-le-mul_right, mul-lt-mul_of_pos_right, mul-pos, le_trans, le_of_eq, mul-one, mul_assoc, pow-suc, lt_irrefl, lt_of_le_of_lt, lt_of_lt_of_le, mod-lt, le_of_lt, lt_of_not-le, not-le_of_lt, div-add-mod', zero-mul, mul-div_cancel, arith, le→leb, lt→ltb, leb→le, ltb→lt, eqb→eq, lit<, lit≤, pow-add, pow_pos, pow_mono}
use Rattle.std.proofs.Math.Nat.{zero-mod, mul-mod_left}
use Rattle.std.proofs.Math.Pow.{pow-lt}
use Rattle.std.specs.Float.{nan, inf, fin, Format, binary64}
use Rattle.std.specs.Float.Ieee.{up, down, round, neg, rem, le, fits, in_unsigned, to_unsigned, whole}
use Rattle.std.specs.Float.Ieee.Fits.{and_i, and_l, and_r, down_pos}
use Rattle.std.specs.Float.Ieee.Exact.{HasValue, round_exact}
use Rattle.std.specs.Float.Ieee.Scale.{finite, round_same}
use Rattle.std.specs.Float.Ieee.Back.{round_whole}
use Rattle.float.specs.Laws.Magnitude.{has_P, has_finite}
use Rattle.float.specs.Laws.Signed.{sp, sn, P, N, D, D_pos, →le, round_neg, zero-at, zero_of}
use Rattle.float.specs.Laws.Operations.{Rounds, rounds_le}

pub rem_rounds : (f : Format) (x y : Float) → T (finite x) → T (finite y) → 0 < P y → Rounds f (rem f x y) (P x * D y % (P y * D x)) (N x * D y % (P y * D x)) (D x * D y)
unfolding rem
rem_rounds f nan y p q z = absurd p
rem_rounds f (inf s) y p q z = absurd p
rem_rounds f (fin s m e) nan p q z = absurd q
rem_rounds f (fin s m e) (inf t) p q z = absurd q
rem_rounds f (fin s m e) (fin true n d) p q z = absurd (lt_irrefl 0 z)
rem_rounds f (fin s m e) (fin false n d) p q z = go (eqb n 0) (eqb→eq n 0) s
  where
    C : 0 < down e * down d
    C = mul-pos (down_pos e) (down_pos d)

    nothing : (d k : ℕ) → 0 < k → 0 * d % k ≡ 0
    nothing d k h = ap (λ (j : ℕ). j % k) (zero-mul d) ∙ zero-mod k

    go : (b : Bool) → (T b → n ≡ 0) → (s : Bool)
        → Rounds f (cond b nan (round f s (m * up e * down d % (n * up d * down e)) (down e * down d))) (sp s (m * up e) * down d % (n * up d * down e)) (sn s (m * up e) * down d % (n * up d * down e)) (down e * down d)
    go true h s = absurd (lt_irrefl 0 (let q : 0 < 0 * up d = subst (λ (k : ℕ). 0 < k * up d) (h tt) z in omega arith))
    go false h true = record { sign = true; size = m * up e * down d % (n * up d * down e); is = refl; val = omega (arith, nothing (down d) (n * up d * down e) (mul-pos z (down_pos e))); den = C }
    go false h false = record { sign = false; size = m * up e * down d % (n * up d * down e); is = refl; val = omega (arith, nothing (down d) (n * up d * down e) (mul-pos z (down_pos e))); den = C }

-- ---- bounds, for a y that is its own rounding: by computation for a literal
abbrev pub Own : Float → Type 0
Own y = y ≡ round binary64 false (P y) (D y)

own_rounds : (y : Float) → Own y → Rounds binary64 y (P y) 0 (D y)
own_rounds y o = record { sign = false; size = P y; is = o; val = omega arith; den = D_pos y }

own_neg : (y : Float) → Own y → Rounds binary64 (neg y) 0 (P y) (D y)
own_neg y o = record { sign = true; size = P y; is = ap neg o ∙ sym (round_neg binary64 (P y) (D y)); val = omega arith; den = D_pos y }

zero_rounds : Rounds binary64 (fin false 0 (pos 0)) 0 0 1
unfolding round
zero_rounds = record { sign = false; size = 0; is = refl; val = refl; den = pow_pos 0 }

less_than : (a k y x d : ℕ) → a < k → k ≡ y * x → a * d ≤ y * (x * d)
less_than a k y x d h e = omega (arith, mul-le-mul_right d (le_of_lt h), ap (λ (j : ℕ). j * d) e)

pub rem_high : (x y : Float) → T (finite x) → T (finite y) → 0 < P y → Own y → T (le (rem binary64 x y) y)
rem_high x y p q z o =
    rounds_le binary64 (rem binary64 x y) y _ _ _ _ _ _ (rem_rounds binary64 x y p q z) (own_rounds y o)
    (omega (arith, less_than (P x * D y % (P y * D x)) (P y * D x) (P y) (D x) (D y) (mod-lt (P x * D y) (mul-pos z (D_pos x))) refl))

pub rem_low : (x y : Float) → T (finite x) → T (finite y) → 0 < P y → Own y → T (le (neg y) (rem binary64 x y))
rem_low x y p q z o =
    rounds_le binary64 (neg y) (rem binary64 x y) _ _ _ _ _ _ (own_neg y o) (rem_rounds binary64 x y p q z)
    (omega (arith, less_than (N x * D y % (P y * D x)) (P y * D x) (P y) (D x) (D y) (mod-lt (N x * D y) (mul-pos z (D_pos x))) refl))

pub rem_nonneg : (x y : Float) → T (finite x) → T (finite y) → 0 < P y → N x ≡ 0 → T (le (fin false 0 (pos 0)) (rem binary64 x y))
rem_nonneg x y p q z w =
    rounds_le binary64 (fin false 0 (pos 0)) (rem binary64 x y) _ _ _ _ _ _ zero_rounds (rem_rounds binary64 x y p q z)
    (omega (arith, ap (λ (j : ℕ). j * D y % (P y * D x)) w ∙ ap (λ (j : ℕ). j % (P y * D x)) (zero-mul (D y)) ∙ zero-mod (P y * D x)))

-- ---- what fits is its own rounding
exp_le : (k : ℕ) → 2 ^ suc k ≤ 2 ^ 1074 → k < 1074
exp_le k h = lt_of_not-le (λ (g : 1074 ≤ k). not-le_of_lt (pow-lt {i = 1074} {j = suc k} (suc_le g)) h)
  where
    suc_le : 1074 ≤ k → 1074 < suc k
    suc_le g = omega arith

pub exact_at : (s : Bool) (q : ℕ) (e : ℤ) → q < 2 ^ 53 → down e ≤ 2 ^ 1074 → q * up e < 2 ^ 1024 * down e → HasValue (round binary64 s (q * up e) (down e)) s (q * up e) (down e)
exact_at s q (pos k) Q L H =
    round_exact binary64 s (q * 2 ^ k) 1 q (k + 1074) (pow_pos 0) Q
    (subst (λ (j : ℕ). j < 2 ^ 2098) (assoc ∙ ap (λ (j : ℕ). q * j) (sym (pow-add 2 k 1074))) (lt_of_lt_of_le (mul-lt-mul_of_pos_right H (pow_pos 1074)) (lit≤ tt)))
    (assoc ∙ ap (λ (j : ℕ). q * j) (sym (pow-add 2 k 1074)) ∙ sym (mul-one (q * 2 ^ (k + 1074))))
  where
    assoc : q * 2 ^ k * 2 ^ 1074 ≡ q * (2 ^ k * 2 ^ 1074)
    assoc = mul_assoc q (2 ^ k) (2 ^ 1074)
exact_at s q (negsuc k) Q L H =
    round_exact binary64 s (q * 1) (2 ^ suc k) q (1073 - k) (pow_pos (suc k)) Q
    (lt_of_lt_of_le (mul-lt-mul_of_pos_right Q (pow_pos (1073 - k))) (le_trans (le_of_eq (sym (pow-add 2 53 (1073 - k)))) (pow_mono (small (1073 - k) k refl))))
    (ap (λ (j : ℕ). j * 2 ^ 1074) (mul-one q) ∙ ap (λ (j : ℕ). q * 2 ^ j) (sum (exp_le k L)) ∙ ap (λ (j : ℕ). q * j) (pow-add 2 (1073 - k) (suc k)) ∙ sym (mul_assoc q (2 ^ (1073 - k)) (2 ^ suc k)))
  where
    small : (j k : ℕ) → j ≡ 1073 - k → 53 + j ≤ 2098
    small j k e = omega arith

    sum : k < 1074 → 1074 ≡ 1073 - k + suc k
    sum h = omega arith

-- ---- whole numbers
-- x is w, a whole number, and not negative
pub record Whole (x : Float) (w : ℕ) : Type 0 where
  pub is_finite : T (finite x)
  pub up_is : P x ≡ w * D x
  pub no_minus : N x ≡ 0

pub rounds_whole : (z : Float) (p n c w : ℕ) → Rounds binary64 z p n c → p ≡ n + w * c → w ≤ 2 ^ 53 → Whole z w
rounds_whole z p n c w r h W = go r.sign r.size r.is r.val
  where
    C : 0 < c
    C = r.den

    go : (s : Bool) (k : ℕ) → z ≡ round binary64 s k c → sp s k + n ≡ sn s k + p → Whole z w
    go false k i v =
        let K : k ≡ w * c = omega arith in
        let e : z ≡ round binary64 false w 1 = i ∙ ap (λ (j : ℕ). round binary64 false j c) K ∙ round_same binary64 false (w * c) c w 1 C (pow_pos 0) (omega arith) in
        let H : HasValue z false w 1 = subst (λ (x : Float). HasValue x false w 1) (sym e) (round_whole binary64 false w W) in
        let g = has_P z w 1 H in
        record { is_finite = has_finite z false w 1 H; up_is = omega (arith, g.0); no_minus = g.1 }
    go true k i v =
        let K : k ≡ 0 = omega arith in
        let w0 : w * c ≡ 0 = omega arith in
        let e : z ≡ fin true 0 (pos 0) = i ∙ zero-at binary64 true k c C K in
        subst (λ (x : Float). Whole x w) (sym e) (record { is_finite = tt; up_is = omega (arith, zero_of w c C w0); no_minus = refl })

-- ---- what the format holds
pub fits_digits : (s : Bool) (m : ℕ) (e : ℤ) → T (fits binary64 (fin s m e)) → (m < 2 ^ 53) × (down e ≤ 2 ^ 1074)
unfolding fits
fits_digits s zero (pos k) t = (lit< tt, lit≤ tt)
fits_digits s zero (negsuc k) t = (lit< tt, absurd (big k (eqb→eq (1 * 2 ^ suc k) 1 t)))
  where
    big : (k : ℕ) → 1 * 2 ^ suc k ≡ 1 → ⊥
    big k h = omega (arith, pow-suc 2 k, pow_pos k)
fits_digits s (suc m) e t =
    let A = eqb (suc m % 2) 1 in
    let B = ltb (suc m) (2 ^ 53) in
    let C = leb (down e) (2 ^ 1074) in
    let E = ltb (suc m * up e) (2 ^ 1024 * down e) in
    let t1 : T (A && B && C) = and_l (A && B && C) E t in
    (ltb→lt (suc m) (2 ^ 53) (and_r A B (and_l (A && B) C t1)), leb→le (down e) (2 ^ 1074) (and_r (A && B) C t1))

-- ---- a whole number as an integer
-- x lies from its whole part up to one more
pub floor_low : (m : ℕ) (e : ℤ) → T (le (fin false (m * up e / down e) (pos 0)) (fin false m e))
floor_low m e = →le (fin false (m * up e / down e) (pos 0)) (fin false m e) tt tt (omega (arith, div-add-mod' (m * up e) (down e)))

pub floor_high : (m : ℕ) (e : ℤ) → T (le (fin false m e) (fin false (suc (m * up e / down e)) (pos 0)))
floor_high m e = →le (fin false m e) (fin false (suc (m * up e / down e)) (pos 0)) tt tt (omega (arith, div-add-mod' (m * up e) (down e), mod-lt (m * up e) (down_pos e)))

pub whole_cast : (m : ℕ) (e : ℤ) (w : ℕ) → Whole (fin false m e) w → w ≤ 2 ^ 53 → T (in_unsigned binary64 64 (fin false m e)) × (to_unsigned 64 (fin false m e) ≡ w)
unfolding in_unsigned to_unsigned whole
whole_cast m e w h W =
    let q : m * up e / down e ≡ w = ap (λ (j : ℕ). j / down e) h.up_is ∙ mul-div_cancel w (down_pos e) in
    let r : m * up e % down e ≡ 0 = ap (λ (j : ℕ). j % down e) h.up_is ∙ mul-mod_left w (down e) in
    let a : w < 2 ^ 64 = lt_of_le_of_lt W (lit< tt) in
    rw (q, r) (and_i (leb w (2 ^ 53) && true) (ltb w (2 ^ 64)) (and_i (leb w (2 ^ 53)) true (le→leb w (2 ^ 53) W) tt) (lt→ltb w (2 ^ 64) a), omega arith)
