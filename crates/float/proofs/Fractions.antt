-- What `trunc`, `ceil` and `round` make of their argument's pattern, by its exponent's field: below 1023 the value is
-- below 1, from 1075 on it has no fraction, and between those its fraction is cleared. Assumes nothing.
use mathlib.Core.Path.{◌≡◌, refl, sym, ap, ◌∙◌, subst}
use mathlib.Core.Logic.{◌⊎◌, inl, inr}
use mathlib.Core.Bool.{Bool, true, false, not, cond}
use Prim.Native.Nat.{ℕ, zero, suc, ◌+◌, ◌-◌, ◌*◌, ◌/◌, ◌%◌, ◌^◌, ◌≤◌, ◌<◌}
use native.Mathlib.Nat.{le_trans, le_of_eq, le_of_suc-le-suc, lt_of_lt_of_le, lt_of_le_of_lt, lt_irrefl, zero-lt-suc, add-zero, zero-mul, eq-or-lt_of_le, pow-suc, mul-one, one-mul, mul_assoc, mul_right_comm, mul-pos, mul-le-mul_right, mul-le-mul_left, mul-lt-mul_of_pos_right, eq_of_mul-eq-mul_right, zero-div, mod-eq_of_lt, div-eq_of_lt, div-eq_of_lt-le, div-add-mod', le-div_iff_mul-le, div-lt_iff_lt-mul, mul-add-mod_self_right, mul-div-mul_left}
use native.Mathlib.Omega.{arith}
use lib.Dec.{T, leb, eqb, leb→le, nleb→lt, ltb→lt, nltb→le, lit<, lit≤}
use lib.Pow.{pow-add, pow_pos, pow_mono}
use lib.Ieee.{Float, nan, inf, fin, binary64, up, down, round, lt, fits, is_nan, of_fields, of_bits, to_bits, nan_bits}
use lib.Ieee.Fits.{down_pos, round-fits}
use lib.Ieee.Exact.{HasValue}
use lib.Ieee.Back.{round_whole}
use lib.Ieee.Compare.{differs_from_itself}
use lib.Ieee.Bits.{nan_bits_is, of_bits-fits, of_bits-to_bits, to_bits-lt}
use Rattle.float.specs.Inner.Decomposition.{units_at}
use Rattle.float.specs.Inner.Fraction.{HasFraction, IsUnit, sign_of, field_of, digits_of, unit_of}
use Rattle.float.specs.Functions.{whole_at, trunc_of, ceil_of, round_of}
use Rattle.float.specs.Laws.Tests.{yes, nan_test}
use Rattle.float.specs.Laws.Fields.{of_fields_lem, pattern_value, pattern_reads}
use Rattle.float.specs.Laws.Whole.{Rule, ByRule, upward, trunc_by_rule, ceil_by_rule, round_by_rule, whole-at, whole_own}

-- ---- a value and its pattern
-- k taken out of a fraction, or put in
reduce : (x : Float) (s : Bool) (a c k : ℕ) → 0 < k → HasValue x s (a * k) (c * k) → HasValue x s a c
reduce nan s a c k K h = h
reduce (inf t) s a c k K h = h
reduce (fin t m e) s a c k K h = (h.0, eq_of_mul-eq-mul_right k K (m * up e * c) (a * down e) (mul_assoc (m * up e) c k ∙ h.1 ∙ mul_right_comm a k (down e)))

expand : (x : Float) (s : Bool) (a c k : ℕ) → HasValue x s a c → HasValue x s (a * k) (c * k)
expand nan s a c k h = h
expand (inf t) s a c k h = h
expand (fin t m e) s a c k h = (h.0, sym (mul_assoc (m * up e) c k) ∙ ap (λ (z : ℕ). z * k) h.1 ∙ mul_right_comm a (down e) k)

whole_no_nan : (p : ℕ) (s : Bool) (w : ℕ) → w ≤ 2 ^ 53 → of_bits binary64 p ≡ whole_at s w → T (not (nan_bits binary64 p))
unfolding is_nan
whole_no_nan p s w h e = subst (λ (b : Bool). T (not b)) (sym (nan_bits_is binary64 p ∙ ap is_nan e)) (number (whole_at s w) (round_whole binary64 s w h))
  where
    number : (v : Float) → HasValue v s w 1 → T (not (is_nan v))
    number nan h = absurd h
    number (inf t) h = absurd h
    number (fin t m e) h = tt

-- the sign's bit alone is a zero, and with 0x3ff0000000000000 it is a one
sign_is : (b : ℕ) → b < 2 ^ 64 → b / 2 ^ 63 * 2 ^ 63 ≡ cond (sign_of b) (2 ^ 63) 0
sign_is b h = go (leb (2 ^ 63) b) (leb→le (2 ^ 63) b) (nleb→lt (2 ^ 63) b)
  where
    go : (s : Bool) → (T s → 2 ^ 63 ≤ b) → (T (not s) → b < 2 ^ 63) → b / 2 ^ 63 * 2 ^ 63 ≡ cond s (2 ^ 63) 0
    go true l m = let k : 2 ^ 63 ≤ b = l tt in omega arith
    go false l m = let k : b < 2 ^ 63 = m tt in omega arith

reads_zero : (b : ℕ) → b < 2 ^ 64 → of_bits binary64 (b / 2 ^ 63 * 2 ^ 63) ≡ whole_at (sign_of b) 0
unfolding of_bits round
reads_zero b h = ap (of_bits binary64) (sign_is b h) ∙ go (sign_of b)
  where
    go : (s : Bool) → of_bits binary64 (cond s (2 ^ 63) 0) ≡ whole_at s 0
    go true = refl
    go false = refl

reads_one : (b : ℕ) → b < 2 ^ 64 → of_bits binary64 (b / 2 ^ 63 * 2 ^ 63 + 0x3ff0000000000000) ≡ whole_at (sign_of b) 1
unfolding of_bits round
reads_one b h = ap (λ (z : ℕ). of_bits binary64 (z + 0x3ff0000000000000)) (sign_is b h) ∙ go (sign_of b)
  where
    go : (s : Bool) → of_bits binary64 (cond s (2 ^ 63) 0 + 0x3ff0000000000000) ≡ whole_at s 1
    go true = refl
    go false = refl

-- ---- small values
units_lt : (f t k : ℕ) → t < 2 ^ 52 → f ≤ k → units_at f t < 2 ^ (52 + k)
units_lt zero t k L F = lt_of_lt_of_le L (pow_mono (more k))
  where
    more : (k : ℕ) → 52 ≤ 52 + k
    more k = omega arith
units_lt (suc j) t k L F = lt_of_lt_of_le (mul-lt-mul_of_pos_right (full t L) (pow_pos j)) (le_trans (le_of_eq (sym (pow-add 2 53 j))) (pow_mono (room j k F)))
  where
    full : (t : ℕ) → t < 2 ^ 52 → 2 ^ 52 + t < 2 ^ 53
    full t h = omega arith

    room : (j k : ℕ) → suc j ≤ k → 53 + j ≤ 52 + k
    room j k h = omega arith

module _ (b : ℕ) where
  abbrev n : ℕ
  n = units_at (field_of b) (b % 2 ^ 52)

  by_units : {g : Float → Float} {r : Rule} → ByRule g r → field_of b < 2047 → g (of_bits binary64 b) ≡ whole_at (sign_of b) (r (sign_of b) n (2 ^ 1074))
  by_units R h = whole-at R (of_bits binary64 b) (sign_of b) n (2 ^ 1074) (pow_pos 1074) (pattern_value b h)

  trunc_small : field_of b < 1023 → trunc_of (of_bits binary64 b) ≡ whole_at (sign_of b) 0
  trunc_small h = by_units trunc_by_rule (lt_of_lt_of_le h (lit≤ tt)) ∙ ap (whole_at (sign_of b)) (div-eq_of_lt (units_lt (field_of b) (b % 2 ^ 52) 1022 (omega arith) (omega arith)))

  round_small : field_of b < 1022 → round_of (of_bits binary64 b) ≡ whole_at (sign_of b) 0
  round_small h = by_units round_by_rule (lt_of_lt_of_le h (lit≤ tt)) ∙ ap (whole_at (sign_of b)) (under n (2 ^ 1073) (units_lt (field_of b) (b % 2 ^ 52) 1021 (omega arith) (omega arith)))
    where
      under : (n p : ℕ) → n < p → (2 * n + 2 * p) / (2 * (2 * p)) ≡ 0
      under n p h = div-eq_of_lt (omega arith)

  round_half : field_of b ≡ 1022 → round_of (of_bits binary64 b) ≡ whole_at (sign_of b) 1
  round_half h =
      by_units round_by_rule (lt_of_le_of_lt (le_of_eq h) (lit< tt))
      ∙ ap (whole_at (sign_of b)) (between n (2 ^ 1073) (subst (λ (f : ℕ). 2 ^ 1073 ≤ units_at f (b % 2 ^ 52)) (sym h) (full (b % 2 ^ 52))) (units_lt (field_of b) (b % 2 ^ 52) 1022 (omega arith) (le_of_eq h)))
    where
      full : (t : ℕ) → 2 ^ 1073 ≤ (2 ^ 52 + t) * 2 ^ 1021
      full t = mul-le-mul_right {m = 2 ^ 52} {n = 2 ^ 52 + t} (2 ^ 1021) (omega arith)

      between : (n p : ℕ) → p ≤ n → n < 2 * p → (2 * n + 2 * p) / (2 * (2 * p)) ≡ 1
      between n p h k = div-eq_of_lt-le (2 * (2 * p)) (omega arith) (omega arith)

-- ---- values with a leading digit
at_ones : (s : Bool) (t : ℕ) → of_fields binary64 s 2047 t ≡ cond (eqb t 0) (inf s) nan
unfolding of_fields
at_ones s t = refl

suc_pred : (f : ℕ) → 0 < f → f ≡ suc (f - 1)
suc_pred f h = omega arith

-- the value is digits_of b * 2 ^ i / c where 2 ^ j is left over in both, in units of 2 ^ -1074
normal : (b c i j : ℕ) → 0 < field_of b → field_of b < 2047 → i + j ≡ field_of b - 1 → c * 2 ^ j ≡ 2 ^ 1074 → HasValue (of_bits binary64 b) (sign_of b) (digits_of b * 2 ^ i) c
normal b c i j P h e g =
    reduce (of_bits binary64 b) (sign_of b) (digits_of b * 2 ^ i) c (2 ^ j) (pow_pos j)
    (subst (λ (z : ℕ). HasValue (of_bits binary64 b) (sign_of b) z (c * 2 ^ j))
    (ap (λ (f : ℕ). units_at f (b % 2 ^ 52)) (suc_pred (field_of b) P) ∙ ap (λ (z : ℕ). digits_of b * z) (ap (λ (z : ℕ). 2 ^ z) (sym e) ∙ pow-add 2 i j) ∙ sym (mul_assoc (digits_of b) (2 ^ i) (2 ^ j)))
    (subst (λ (z : ℕ). HasValue (of_bits binary64 b) (sign_of b) (units_at (field_of b) (b % 2 ^ 52)) z) (sym g) (pattern_value b h)))

-- no fraction, an infinity, or no number
large : {g : Float → Float} {r : Rule} → ByRule g r → (b : ℕ) → 1075 ≤ field_of b → g (of_bits binary64 b) ≡ of_bits binary64 b
large {g} R b l = go (eq-or-lt_of_le (top b))
  where
    top : (b : ℕ) → b / 2 ^ 52 % 2048 ≤ 2047
    top b = omega arith

    apart : (f : ℕ) → 1075 ≤ f → f - 1075 + 1074 ≡ f - 1
    apart f h = omega arith

    unbounded : (s z : Bool) → g (cond z (inf s) nan) ≡ cond z (inf s) nan
    unbounded s true = R.is (inf s)
    unbounded s false = R.is nan

    go : (field_of b ≡ 2047) ⊎ (field_of b < 2047) → g (of_bits binary64 b) ≡ of_bits binary64 b
    go (inl e) = subst (λ (v : Float). g v ≡ v) (sym (of_fields_lem b ∙ ap (λ (f : ℕ). of_fields binary64 (sign_of b) f (b % 2 ^ 52)) e ∙ at_ones (sign_of b) (b % 2 ^ 52))) (unbounded (sign_of b) (eqb (b % 2 ^ 52) 0))
    go (inr h) =
        whole_own R (of_bits binary64 b) (sign_of b) (digits_of b * 2 ^ (field_of b - 1075)) (of_bits-fits binary64 b)
        (normal b 1 (field_of b - 1075) 1074 (lt_of_lt_of_le (lit< tt) l) h (apart (field_of b) l) (one-mul (2 ^ 1074)))

-- ---- values with digits on both sides of the point
module _ (b : ℕ) (p : HasFraction b) where
  shift : unit_of b * 2 ^ (field_of b - 1) ≡ 2 ^ 1074
  shift = sym (pow-add 2 (1075 - field_of b) (field_of b - 1)) ∙ ap (λ (z : ℕ). 2 ^ z) (sum (field_of b) p.low p.high)
    where
      sum : (f : ℕ) → 1023 ≤ f → f < 1075 → 1075 - f + (f - 1) ≡ 1074
      sum f l h = omega arith

  fraction_value : HasValue (of_bits binary64 b) (sign_of b) (digits_of b) (unit_of b)
  fraction_value =
      subst (λ (z : ℕ). HasValue (of_bits binary64 b) (sign_of b) z (unit_of b)) (mul-one (digits_of b))
      (normal b (unit_of b) 0 (field_of b - 1) (lt_of_lt_of_le (lit< tt) p.low) (lt_of_lt_of_le p.high (lit≤ tt)) (omega arith) shift)

  fraction_whole : {g : Float → Float} {r : Rule} → ByRule g r → g (of_bits binary64 b) ≡ whole_at (sign_of b) (r (sign_of b) (digits_of b) (unit_of b))
  fraction_whole R = whole-at R (of_bits binary64 b) (sign_of b) (digits_of b) (unit_of b) (pow_pos (1075 - field_of b)) fraction_value

  -- 2 ^ 52 in ones
  v : ℕ
  v = 2 ^ (field_of b - 1023)

  v-is : v * unit_of b ≡ 2 ^ 52
  unfolding v
  v-is = sym (pow-add 2 (field_of b - 1023) (1075 - field_of b)) ∙ ap (λ (z : ℕ). 2 ^ z) (sum (field_of b) p.low p.high)
    where
      sum : (f : ℕ) → 1023 ≤ f → f < 1075 → f - 1023 + (1075 - f) ≡ 52
      sum f l h = omega arith

  module _ (wide : b < 2 ^ 64) (h : ℕ) (H : h < unit_of b) where
    -- the whole number
    abbrev w : ℕ
    w = (digits_of b + h) / unit_of b

    unit_pos : 0 < unit_of b
    unit_pos = pow_pos (1075 - field_of b)

    least : 2 ^ 52 ≤ w * unit_of b
    least = le_trans (le_of_eq (sym v-is)) (mul-le-mul_right (unit_of b) ((le-div_iff_mul-le unit_pos).1 (le_trans (le_of_eq v-is) (omega arith))))

    most : w * unit_of b ≤ 2 ^ 53
    most = le_trans (mul-le-mul_right (unit_of b) (le_of_suc-le-suc ((div-lt_iff_lt-mul unit_pos).1 (room v (unit_of b) v-is H)))) (le_of_eq (mul_assoc 2 v (unit_of b) ∙ ap (λ (z : ℕ). 2 * z) v-is))
      where
        room : (v u : ℕ) → v * u ≡ 2 ^ 52 → h < u → digits_of b + h < suc (2 * v) * u
        room v u e k = omega arith

    cleared_few : w ≤ 2 ^ 53
    cleared_few = le_trans (le_of_eq (sym (mul-one w))) (le_trans (mul-le-mul_left w unit_pos) most)

    cleared_is : b + h - (b + h) % unit_of b ≡ cond (sign_of b) (2 ^ 63) 0 + (field_of b - 1) * 2 ^ 52 + w * unit_of b
    cleared_is =
        ap (λ (z : ℕ). z - z % unit_of b) front
        ∙ ap (λ (z : ℕ). (b / 2 ^ 52 - 1) * v * unit_of b + (digits_of b + h) - z) (mul-add-mod_self_right ((b / 2 ^ 52 - 1) * v) (unit_of b) (digits_of b + h))
        ∙ rest ((b / 2 ^ 52 - 1) * v * unit_of b) (digits_of b + h) (w * unit_of b) ((digits_of b + h) % unit_of b) (div-add-mod' (digits_of b + h) (unit_of b))
        ∙ ap (λ (z : ℕ). z + w * unit_of b) (back ∙ fields b p.low ∙ ap (λ (z : ℕ). z + (field_of b - 1) * 2 ^ 52) (sign_is b wide))
      where
        back : (b / 2 ^ 52 - 1) * v * unit_of b ≡ (b / 2 ^ 52 - 1) * 2 ^ 52
        back = mul_assoc (b / 2 ^ 52 - 1) v (unit_of b) ∙ ap (λ (z : ℕ). (b / 2 ^ 52 - 1) * z) v-is

        lead : (b h : ℕ) → 1023 ≤ b / 2 ^ 52 % 2048 → b + h ≡ (b / 2 ^ 52 - 1) * 2 ^ 52 + (2 ^ 52 + b % 2 ^ 52 + h)
        lead b h l = omega arith

        front : b + h ≡ (b / 2 ^ 52 - 1) * v * unit_of b + (digits_of b + h)
        front = lead b h p.low ∙ ap (λ (z : ℕ). z + (digits_of b + h)) (sym back)

        rest : (y a q r : ℕ) → q + r ≡ a → y + a - r ≡ y + q
        rest y a q r e = omega arith

        fields : (b : ℕ) → 1023 ≤ b / 2 ^ 52 % 2048 → (b / 2 ^ 52 - 1) * 2 ^ 52 ≡ b / 2 ^ 63 * 2 ^ 63 + (b / 2 ^ 52 % 2048 - 1) * 2 ^ 52
        fields b l = omega arith

    pub cleared_reads : of_bits binary64 (b + h - (b + h) % unit_of b) ≡ whole_at (sign_of b) ((digits_of b + h) / unit_of b)
    cleared_reads =
        ap (of_bits binary64) cleared_is
        ∙ pattern_reads (whole_at (sign_of b) w) (sign_of b) (w * unit_of b) (field_of b - 1) (round-fits binary64 (sign_of b) w 1) least most
        (subst (λ (z : ℕ). HasValue (whole_at (sign_of b) w) (sign_of b) z (2 ^ 1074)) (ap (λ (z : ℕ). w * z) (sym shift) ∙ sym (mul_assoc w (unit_of b) (2 ^ (field_of b - 1))))
        (expand (whole_at (sign_of b) w) (sign_of b) w 1 (2 ^ 1074) (round_whole binary64 (sign_of b) w cleared_few)))

    pub cleared_no_nan : T (not (nan_bits binary64 (b + h - (b + h) % unit_of b)))
    cleared_no_nan = whole_no_nan (b + h - (b + h) % unit_of b) (sign_of b) w cleared_few cleared_reads

-- the fraction cleared after u / 2 is added: the nearest whole number, for an even u
nearest_at : (m k : ℕ) → 0 < k → (m + 2 ^ k / 2) / 2 ^ k ≡ (2 * m + 2 ^ k) / (2 * 2 ^ k)
nearest_at m zero K = absurd (lt_irrefl 0 K)
nearest_at m (suc k) K =
    sym (mul-div-mul_left {m = 2} (m + 2 ^ suc k / 2) (2 ^ suc k) (pow_pos 1))
    ∙ ap (λ (z : ℕ). z / (2 * 2 ^ suc k)) (even m (2 ^ suc k) (2 ^ k) (pow-suc 2 k))
  where
    even : (m u t : ℕ) → u ≡ t * 2 → 2 * (m + u / 2) ≡ 2 * m + u
    even m u t e = omega arith

pub unit-is : (b : ℕ) → HasFraction b → IsUnit b (1 * 2 ^ (1075 - field_of b) % 2 ^ 64)
unit-is b p =
    subst (IsUnit b) (sym (ap (λ (z : ℕ). z % 2 ^ 64) (one-mul (unit_of b)) ∙ mod-eq_of_lt (lt_of_le_of_lt most (lit< tt))))
    (record { is = refl; least = pow_mono (above (field_of b) p.high); most = most })
  where
    above : (f : ℕ) → f < 1075 → 1 ≤ 1075 - f
    above f h = omega arith

    below : (f : ℕ) → 1023 ≤ f → 1075 - f ≤ 52
    below f h = omega arith

    most : unit_of b ≤ 2 ^ 52
    most = pow_mono (below (field_of b) p.low)

-- ---- above zero and not above it
abbrev above : Float → Bool
above x = lt (of_bits binary64 0) x

pub above_number : (x : Float) → above x ≡ true → T (not (is_nan x))
unfolding is_nan lt of_bits
above_number nan h = absurd (yes _ h)
above_number (inf s) h = tt
above_number (fin s m e) h = tt

above-value : (x : Float) (s : Bool) (a c : ℕ) → above x ≡ true → 0 < c → HasValue x s a c → (s ≡ false) × (0 < a)
unfolding lt of_bits
above-value nan s a c h C v = absurd v
above-value (inf t) s a c h C v = absurd v
above-value (fin true m e) s a c h C v = absurd (yes _ h)
above-value (fin false m e) s a c h C v = (sym v.0, some a (down e) (mul-pos more C) v.1)
  where
    more : 0 < m * up e
    more = let l : 0 * down e < m * up e * 1 = ltb→lt (0 * down e) (m * up e * 1) (yes _ h) in omega arith

    some : (a d : ℕ) → 0 < m * up e * c → m * up e * c ≡ a * d → 0 < a
    some zero d h e = let z : 0 * d ≡ 0 = zero-mul d in omega arith
    some (suc a) d h e = zero-lt-suc a

pub up_to_zero : (x : Float) → above x ≡ false → trunc_of x ≡ ceil_of x
unfolding lt of_bits trunc_of ceil_of
up_to_zero nan h = refl
up_to_zero (inf s) h = refl
up_to_zero (fin true m e) h = refl
up_to_zero (fin false m e) h = ap (whole_at false) (ap (λ (z : ℕ). z / down e) none ∙ zero-div (down e) ∙ sym (ap (λ (z : ℕ). (z + (down e - 1)) / down e) none ∙ div-eq_of_lt (less (down e) (down_pos e))))
  where
    none : m * up e ≡ 0
    none = let l : m * up e * 1 ≤ 0 * down e = nltb→le (0 * down e) (m * up e * 1) (subst (λ (b : Bool). T (not b)) (sym h) tt) in omega arith

    less : (d : ℕ) → 0 < d → 0 + (d - 1) < d
    less d h = omega arith

ceil_small : (b : ℕ) → above (of_bits binary64 b) ≡ true → field_of b < 1023 → ceil_of (of_bits binary64 b) ≡ of_bits binary64 0x3ff0000000000000
ceil_small b h k =
    let F : field_of b < 2047 = lt_of_lt_of_le k (lit≤ tt) in
    let v = above-value (of_bits binary64 b) (sign_of b) (n b) (2 ^ 1074) h (pow_pos 1074) (pattern_value b F) in
    by_units b ceil_by_rule F
    ∙ ap (λ (s : Bool). whole_at s (upward s (n b) (2 ^ 1074))) v.0
    ∙ ap (whole_at false) (one (n b) (2 ^ 1074) v.1 (units_lt (field_of b) (b % 2 ^ 52) 1022 (omega arith) (omega arith)))
    ∙ is_one
  where
    one : (n p : ℕ) → 0 < n → n < p → (n + (p - 1)) / p ≡ 1
    one n p h k = div-eq_of_lt-le p (omega arith) (omega arith)

    is_one : whole_at false 1 ≡ of_bits binary64 0x3ff0000000000000
    is_one = unfold of_bits round in refl

-- ---- the argument and its pattern
pub nan_own : {g : Float → Float} {r : Rule} → ByRule g r → (x : Float) → is_nan x ≡ true → x ≡ g x
nan_own {g} R x h =
    let e : x ≡ nan = differs_from_itself x (yes _ (sym (nan_test x) ∙ h)) in
    e ∙ sym (R.is nan) ∙ ap g (sym e)

module _ (x : Float) (held : fits binary64 x ≡ true) where
  abbrev b : ℕ
  b = to_bits binary64 x

  reads : of_bits binary64 (to_bits binary64 x) ≡ x
  reads = of_bits-to_bits binary64 x (yes _ held)

  pub wide : b < 2 ^ 64
  wide = to_bits-lt binary64 x (yes _ held)

  pub zero_no_nan : T (not (nan_bits binary64 (b / 2 ^ 63 * 2 ^ 63)))
  zero_no_nan = whole_no_nan (b / 2 ^ 63 * 2 ^ 63) (sign_of b) 0 (lit≤ tt) (reads_zero b wide)

  pub one_no_nan : T (not (nan_bits binary64 (b / 2 ^ 63 * 2 ^ 63 + 0x3ff0000000000000)))
  one_no_nan = whole_no_nan (b / 2 ^ 63 * 2 ^ 63 + 0x3ff0000000000000) (sign_of b) 1 (lit≤ tt) (reads_one b wide)

  pub large_own : {g : Float → Float} {r : Rule} → ByRule g r → 1075 ≤ field_of b → x ≡ g x
  large_own {g} R h = subst (λ (v : Float). v ≡ g v) reads (sym (large R b h))

  pub small_trunc : field_of b < 1023 → of_bits binary64 (b / 2 ^ 63 * 2 ^ 63) ≡ trunc_of x
  small_trunc h = reads_zero b wide ∙ sym (trunc_small b h) ∙ ap trunc_of reads

  pub small_round : field_of b < 1022 → of_bits binary64 (b / 2 ^ 63 * 2 ^ 63) ≡ round_of x
  small_round h = reads_zero b wide ∙ sym (round_small b h) ∙ ap round_of reads

  pub half_round : field_of b ≡ 1022 → of_bits binary64 (b / 2 ^ 63 * 2 ^ 63 + 0x3ff0000000000000) ≡ round_of x
  half_round h = reads_one b wide ∙ sym (round_half b h) ∙ ap round_of reads

  pub small_ceil : above x ≡ true → field_of b < 1023 → of_bits binary64 0x3ff0000000000000 ≡ ceil_of x
  small_ceil h k = sym (ceil_small b (ap above reads ∙ h) k) ∙ ap ceil_of reads

  module _ (p : HasFraction b) (z : Float) where
    pub trunc_cleared : z ≡ whole_at (sign_of b) ((digits_of b + 0) / unit_of b) → z ≡ trunc_of x
    trunc_cleared e = e ∙ ap (λ (d : ℕ). whole_at (sign_of b) (d / unit_of b)) (add-zero (digits_of b)) ∙ sym (fraction_whole b p trunc_by_rule) ∙ ap trunc_of reads

    pub round_cleared : (h : ℕ) → h ≡ unit_of b / 2 → z ≡ whole_at (sign_of b) ((digits_of b + h) / unit_of b) → z ≡ round_of x
    round_cleared h f e = e ∙ ap (whole_at (sign_of b)) (ap (λ (k : ℕ). (digits_of b + k) / unit_of b) f ∙ nearest_at (digits_of b) (1075 - field_of b) (some (field_of b) p.high)) ∙ sym (fraction_whole b p round_by_rule) ∙ ap round_of reads
      where
        some : (f : ℕ) → f < 1075 → 0 < 1075 - f
        some f h = omega arith

    pub ceil_cleared : (u : ℕ) → above x ≡ true → u ≡ unit_of b → z ≡ whole_at (sign_of b) ((digits_of b + (u - 1)) / unit_of b) → z ≡ ceil_of x
    ceil_cleared u h f e =
        let s : sign_of b ≡ false = (above-value (of_bits binary64 b) (sign_of b) (digits_of b) (unit_of b) (ap above reads ∙ h) (pow_pos (1075 - field_of b)) (fraction_value b p)).0 in
        e
        ∙ ap (λ (k : ℕ). whole_at (sign_of b) ((digits_of b + (k - 1)) / unit_of b)) f
        ∙ ap (λ (t : Bool). whole_at t ((digits_of b + (unit_of b - 1)) / unit_of b)) s
        ∙ sym (ap (λ (t : Bool). whole_at t (upward t (digits_of b) (unit_of b))) s)
        ∙ sym (fraction_whole b p ceil_by_rule)
        ∙ ap ceil_of reads
