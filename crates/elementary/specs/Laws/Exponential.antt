-- The exponential of every number is finite and above zero: from 2 ^ -1011 to 2 ^ 1011, and from 1/64 to 64 between
-- -3.25 and 3.25. Assumes nothing.
use Rattle.std.specs.Prelude.{◌≡◌, ℕ, ◌+◌, ◌-◌, ◌*◌, ◌/◌, ◌<◌, ◌≤◌, Bool, true, false, not, ◌&&◌, T, [], ◌∷◌, pos, negsuc, is_nan, nat_lt, refl, Float}
use Rattle.std.proofs.Common.{sym, ap, subst, inl, inr, true≢false, arith, T_not, ltb→lt, nltb→le, lit<, lit≤}
use native.Mathlib.Nat.{mul-pos, zero-lt-suc, le_of_suc-le-suc, div-mul-le_self, lt-div-mul-add, div-lt_iff_lt-mul}
use Rattle.std.specs.Float.{nan, inf, fin, binary64}
use Rattle.std.specs.Float.Ieee.{up, down, fits, neg, add, sub, mul, div, lt, le, of_bits}
use Rattle.std.specs.Float.Ieee.Exact.{HasValue}
use Rattle.std.specs.Float.Ieee.Fits.{down_pos, div-fits, and_l, and_r}
use Rattle.std.specs.Float.Ieee.Positive.{positive, between, mul_mono}
use Rattle.std.specs.Float.Ieee.Scale.{finite}
use Rattle.float.specs.Functions.{round_of}
use Rattle.float.specs.Laws.Signed.{P, N, D, le→, →le}
use Rattle.float.specs.Laws.Intervals.{Iv, top, iv, mk, In, Between, in_finite, idiv, div_in, point_in_lem}
use Rattle.float.specs.Laws.Order.{le_trans, le_total, div_up}
use Rattle.float.specs.Laws.Expressions.{Expr, var, lit, less, times, over, fits_in}
use Rattle.float.specs.Laws.Quick.{qadd, qsub, qmul}
use Rattle.float.specs.Laws.Every.{every, every-at, split_at}
use Rattle.float.specs.Laws.Whole.{round_by_rule, whole-value}
use Rattle.elementary.specs.Constants as K
use Rattle.elementary.specs.Series.{series_of, exponential_table}
use Rattle.elementary.specs.Functions.{clamp_of, two_to, exp_at, exp_of}
use Rattle.elementary.specs.Inner.Powers.{Small}
use Rattle.elementary.specs.Laws.Codes.{encloses, enclosed, plain_code, plain_range}
use Rattle.elementary.specs.Laws.Clamp.{clamp_in, clamp_keeps}
use Rattle.elementary.specs.Laws.Powers.{power, two_to_in}

-- ---- the whole number nearest to y, and where y lies then
-- (p - q) / 2
abbrev halves : ℕ → ℕ → Float
halves p q = elim (nat_lt p q) [ true ↦ fin true (q - p) (negsuc 0) | false ↦ fin false (p - q) (negsuc 0) ]

-- the ends of what rounds to n, with the sign s
abbrev low_half : Bool → ℕ → Float
low_half true n = halves 0 (2 * n + 1)
low_half false n = halves (2 * n) 1

abbrev high_half : Bool → ℕ → Float
high_half true n = halves 1 (2 * n)
high_half false n = halves (2 * n + 1) 0

-- x is (p - q) / 2
record Halves (p q : ℕ) (x : Float) : Type 0 where
  is_finite : T (finite x)
  twice : P x + q ≡ N x + p
  over : D x ≡ 2

halves-is : (p q : ℕ) → Halves p q (halves p q)
halves-is p q = go (nat_lt p q) (ltb→lt p q) (nltb→le p q)
  where
    go : (b : Bool) → (T b → p < q) → (T (not b) → q ≤ p) → Halves p q (elim b [ true ↦ fin true (q - p) (negsuc 0) | false ↦ fin false (p - q) (negsuc 0) ])
    go true h k = let l = h tt in record { is_finite = tt; twice = omega arith; over = refl }
    go false h k = let l = k tt in record { is_finite = tt; twice = omega arith; over = refl }

halves_below : (p q : ℕ) (x : Float) → T (finite x) → p * D x + 2 * N x ≤ q * D x + 2 * P x → T (le (halves p q) x)
halves_below p q x f h =
    let r = halves-is p q in
    →le (halves p q) x r.is_finite f (omega (arith, ap (λ (j : ℕ). j * D x) r.twice, ap (λ (j : ℕ). N x * j) r.over, ap (λ (j : ℕ). P x * j) r.over))

halves-above : (p q : ℕ) (x : Float) → T (finite x) → q * D x + 2 * P x ≤ p * D x + 2 * N x → T (le x (halves p q))
halves-above p q x f h =
    let r = halves-is p q in
    →le x (halves p q) f r.is_finite (omega (arith, ap (λ (j : ℕ). j * D x) r.twice, ap (λ (j : ℕ). N x * j) r.over, ap (λ (j : ℕ). P x * j) r.over))

-- n is the whole number nearest to a / d
record Rounded (a d most n : ℕ) : Type 0 where
  from : n * (2 * d) ≤ 2 * a + d
  to : 2 * a + d < n * (2 * d) + 2 * d
  few : n ≤ most

rounded : (a d most : ℕ) → 0 < d → a ≤ most * d → Rounded a d most ((2 * a + d) / (2 * d))
rounded a d most D h =
    let E : 0 < 2 * d = mul-pos (zero-lt-suc 1) D in
    record { from = div-mul-le_self (2 * a + d) (2 * d); to = lt-div-mul-add E; few = le_of_suc-le-suc ((div-lt_iff_lt-mul E).1 (omega arith)) }

-- the whole number nearest to a value, with its sign
record Nearest (most : ℕ) (y : Float) : Type 0 where
  minus : Bool
  size : ℕ
  whole : HasValue (round_of y) minus size 1
  few : size ≤ most
  low : T (le (low_half minus size) y)
  high : T (le y (high_half minus size))

abbrev whole : Bool → ℕ → Float
whole s n = fin s n (pos 0)

nearest : (most : ℕ) (y : Float) → T (fits binary64 y) → Between (whole true most) (whole false most) y → Nearest most y
nearest most nan f i = absurd (unfold le in i.low)
nearest most (inf true) f i = absurd (unfold le in i.low)
nearest most (inf false) f i = absurd (unfold le in i.high)
nearest most (fin false m e) f i =
    let n = (2 * (m * up e) + down e) / (2 * down e) in
    let r = rounded (m * up e) (down e) most (down_pos e) (let h = le→ (fin false m e) (whole false most) tt tt i.high in omega arith) in
    record {
      minus = false;
      size = n;
      whole = whole-value round_by_rule false m e f;
      few = r.few;
      low = halves_below (2 * n) 1 (fin false m e) tt (let h = r.from in omega arith);
      high = halves-above (2 * n + 1) 0 (fin false m e) tt (let h = r.to in omega arith);
    }
nearest most (fin true m e) f i =
    let n = (2 * (m * up e) + down e) / (2 * down e) in
    let r = rounded (m * up e) (down e) most (down_pos e) (let h = le→ (whole true most) (fin true m e) tt tt i.low in omega arith) in
    record {
      minus = true;
      size = n;
      whole = whole-value round_by_rule true m e f;
      few = r.few;
      low = halves_below 0 (2 * n + 1) (fin true m e) tt (let h = r.to in omega arith);
      high = halves-above 1 (2 * n) (fin true m e) tt (let h = r.from in omega arith);
    }

-- ---- the clamped argument, over LN_2
ends : T (le K.m700 K.c700)
unfolding of_bits neg le
ends = tt

clamp_700 : (v : Float) → T (not (is_nan v)) → Between K.m700 K.c700 (clamp_of K.m700 K.c700 v)
unfolding of_bits neg
clamp_700 v n = clamp_in K.m700 K.c700 v tt tt ends n

abbrev over_ln2 : Expr
over_ln2 = over (var 0) (lit K.ln2)

quotient_test : T (encloses over_ln2 (iv K.m700 K.c700 ∷ []) (whole true 1010) (whole false 1010))
unfolding of_bits neg div le
quotient_test = tt

quotient_in : (v : Float) → T (not (is_nan v)) → Between (whole true 1010) (whole false 1010) (div binary64 (clamp_of K.m700 K.c700 v) K.ln2)
quotient_in v n = enclosed over_ln2 (iv K.m700 K.c700 ∷ []) (clamp_of K.m700 K.c700 v ∷ []) (whole true 1010) (whole false 1010) quotient_test (clamp_700 v n, tt)

pub exponent_small : (v : Float) → T (not (is_nan v)) → Small (round_of (div binary64 (clamp_of K.m700 K.c700 v) K.ln2))
exponent_small v n =
    let y = div binary64 (clamp_of K.m700 K.c700 v) K.ln2 in
    let r = nearest 1010 y (div-fits binary64 (clamp_of K.m700 K.c700 v) K.ln2) (quotient_in v n) in
    record { minus = r.minus; size = r.size; whole = r.whole; most = r.few }

at_nan : nan ≡ exp_of nan
unfolding exp_of series_of exponential_table round_of lt sub mul add div neg of_bits
at_nan = refl

pub exp_nan : (v : Float) → v ≡ nan → v ≡ exp_of v
exp_nan v h = subst (λ (x : Float). x ≡ exp_of x) (sym h) at_nan

-- ---- what is left of w lies in [-0.36, 0.36], by one computed test for each k
abbrev eps : Float
eps = fin false 4951760157141521 (negsuc 91)

abbrev e_lo : Float
e_lo = fin true 3242591731706757 (negsuc 52)

abbrev e_hi : Float
e_hi = fin false 3242591731706757 (negsuc 52)

-- LN_2 as its digits, for the tests
abbrev ln2 : Float
ln2 = fin false 6243314768165359 (negsuc 52)

abbrev under : Iv → Float → Bool
under top a = false
under (iv l h) a = not (le a h)

abbrev above : Iv → Float → Bool
above top a = false
above (iv l h) a = not (le l a)

abbrev point : Float → Iv
point c = mk c c

-- a little below, and a little above, what the quotient allows w
abbrev low_of : Bool → ℕ → Float
low_of s n = qsub (qmul (low_half s n) ln2) eps

abbrev high_of : Bool → ℕ → Float
high_of s n = qadd (qmul (high_half s n) ln2) eps

abbrev left_test : Bool → ℕ → Float → Bool
left_test s n r = finite r && under (idiv (point r) (point ln2)) (low_half s n)

abbrev right_test : Bool → ℕ → Float → Bool
right_test s n r = finite r && above (idiv (point r) (point ln2)) (high_half s n)

abbrev rest_code : Expr
rest_code = less (var 0) (times (var 1) (lit ln2))

abbrev rest_test : Bool → ℕ → Float → Float → Bool
rest_test s n a b = encloses rest_code (iv a b ∷ iv (whole s n) (whole s n) ∷ []) e_lo e_hi

abbrev one-k : Bool → ℕ → Bool
one-k s n = let a = low_of s n in let b = high_of s n in left_test s n a && right_test s n b && rest_test s n a b

plus_0 : T (every 506 (one-k false) 0)
unfolding le
plus_0 = tt

plus_1 : T (every 505 (one-k false) 506)
unfolding le
plus_1 = tt

minus_0 : T (every 506 (one-k true) 0)
unfolding le
minus_0 = tt

minus_1 : T (every 505 (one-k true) 506)
unfolding le
minus_1 = tt

all-k : (s : Bool) (n : ℕ) → n ≤ 1010 → T (one-k s n)
all-k false n h = elim (split_at 506 n) [ inl a ↦ every-at 506 (one-k false) 0 n plus_0 (omega arith) (omega arith) | inr a ↦ every-at 505 (one-k false) 506 n plus_1 a (omega arith) ]
all-k true n h = elim (split_at 506 n) [ inl a ↦ every-at 506 (one-k true) 0 n minus_0 (omega arith) (omega arith) | inr a ↦ every-at 505 (one-k true) 506 n minus_1 a (omega arith) ]

under-is : (I : Iv) (a z : Float) → T (under I a) → In I z → T (le a z) → ⊥
under-is top a z t i h = t
under-is (iv l u) a z t i h = T_not (le a u) t (le_trans a z u h i.high)

above-is : (I : Iv) (a z : Float) → T (above I a) → In I z → T (le z a) → ⊥
above-is top a z t i h = t
above-is (iv l u) a z t i h = T_not (le l a) t (le_trans l z a i.low h)

-- k is n with the sign s, and w / LN_2 rounds to it
module _ (s : Bool) (n : ℕ) (w k : Float) (t : T (one-k s n)) (p : T (finite w)) (v : HasValue k s n 1) (h : T (le (low_half s n) (div binary64 w ln2))) (g : T (le (div binary64 w ln2) (high_half s n))) where
  t1 : T (left_test s n (low_of s n))
  t1 = and_l (left_test s n (low_of s n)) (right_test s n (high_of s n)) (and_l (left_test s n (low_of s n) && right_test s n (high_of s n)) (rest_test s n (low_of s n) (high_of s n)) t)

  t2 : T (right_test s n (high_of s n))
  t2 = and_r (left_test s n (low_of s n)) (right_test s n (high_of s n)) (and_l (left_test s n (low_of s n) && right_test s n (high_of s n)) (rest_test s n (low_of s n) (high_of s n)) t)

  fa : T (finite (low_of s n))
  fa = and_l (finite (low_of s n)) (under (idiv (point (low_of s n)) (point ln2)) (low_half s n)) t1

  fb : T (finite (high_of s n))
  fb = and_l (finite (high_of s n)) (above (idiv (point (high_of s n)) (point ln2)) (high_half s n)) t2

  low : T (le (low_of s n) w)
  low = elim (le_total (low_of s n) w fa p) [
    | inl l ↦ l
    | inr l ↦ absurd (under-is (idiv (point (low_of s n)) (point ln2)) (low_half s n) (div binary64 (low_of s n) ln2) (and_r (finite (low_of s n)) (under (idiv (point (low_of s n)) (point ln2)) (low_half s n)) t1)
        (div_in (point (low_of s n)) (point ln2) (low_of s n) ln2 (point_in_lem (low_of s n)) (point_in_lem ln2))
        (le_trans (low_half s n) (div binary64 w ln2) (div binary64 (low_of s n) ln2) h (div_up binary64 w (low_of s n) ln2 p fa tt (lit< tt) l)))
  ]

  high : T (le w (high_of s n))
  high = elim (le_total w (high_of s n) p fb) [
    | inl l ↦ l
    | inr l ↦ absurd (above-is (idiv (point (high_of s n)) (point ln2)) (high_half s n) (div binary64 (high_of s n) ln2) (and_r (finite (high_of s n)) (above (idiv (point (high_of s n)) (point ln2)) (high_half s n)) t2)
        (div_in (point (high_of s n)) (point ln2) (high_of s n) ln2 (point_in_lem (high_of s n)) (point_in_lem ln2))
        (le_trans (div binary64 (high_of s n) ln2) (div binary64 w ln2) (high_half s n) (div_up binary64 (high_of s n) w ln2 fb p tt (lit< tt) l) g))
  ]

  as_point : Between (whole s n) (whole s n) k
  as_point = same_point_lem k v
    where
      same_point_lem : (k : Float) → HasValue k s n 1 → Between (whole s n) (whole s n) k
      same_point_lem nan v = absurd v
      same_point_lem (inf u) v = absurd v
      same_point_lem (fin u m e) v = go u s v.0
        where
          go : (u s : Bool) → u ≡ s → Between (whole s n) (whole s n) (fin u m e)
          go true true q = record { low = →le (whole true n) (fin true m e) tt tt (let x = v.1 in omega arith); high = →le (fin true m e) (whole true n) tt tt (let x = v.1 in omega arith); fl = tt; fh = tt }
          go false false q = record { low = →le (whole false n) (fin false m e) tt tt (let x = v.1 in omega arith); high = →le (fin false m e) (whole false n) tt tt (let x = v.1 in omega arith); fl = tt; fh = tt }
          go true false q = absurd (true≢false q)
          go false true q = absurd (true≢false (sym q))

  rest_in : Between e_lo e_hi (sub binary64 w (mul binary64 k ln2))
  rest_in =
      enclosed rest_code (iv (low_of s n) (high_of s n) ∷ iv (whole s n) (whole s n) ∷ []) (w ∷ k ∷ []) e_lo e_hi
      (and_r (left_test s n (low_of s n) && right_test s n (high_of s n)) (rest_test s n (low_of s n) (high_of s n)) t) (record { low = low; high = high; fl = fa; fh = fb }, (as_point, tt))

-- ---- the series there, and the product with 2 ^ k
abbrev half : Float
half = fin false 1 (negsuc 0)

abbrev two : Float
two = fin false 1 (pos 1)

series_test : T (fits_in 6 (plain_code exponential_table) half two e_lo e_hi)
unfolding exponential_table le
series_test = tt

series_in : (u : Float) → Between e_lo e_hi u → Between half two (series_of exponential_table u)
series_in u i = plain_range 6 exponential_table half two e_lo e_hi u tt tt series_test i

-- from 2 ^ -most / 2 to 2 * 2 ^ most, where w / LN_2 lies from -most to most
exp_at_lem : (most : ℕ) (lo hi w : Float) → most ≤ 1010 → lo ≡ mul binary64 half (power true most) → hi ≡ mul binary64 two (power false most) → T (finite lo) → T (finite hi) → T (finite w)
    → Between (whole true most) (whole false most) (div binary64 w K.ln2) → Between lo hi (exp_at w (round_of (div binary64 w K.ln2)))
unfolding exp_at of_bits
exp_at_lem most lo hi w m l h p q f i =
    let k = round_of (div binary64 w K.ln2) in
    let u = sub binary64 w (mul binary64 k K.ln2) in
    let v = series_of exponential_table u in
    let n = nearest most (div binary64 w K.ln2) (div-fits binary64 w K.ln2) i in
    let a = series_in u (rest_in n.minus n.size w k (all-k n.minus n.size (native.Mathlib.Nat.le_trans n.few m)) f n.whole n.low n.high) in
    let b = two_to_in k n.minus n.size most n.whole n.few in
    let v-pos = between half v two tt tt a.low a.high in
    let t-pos = between (power true most) (two_to k) (power false most) tt tt b.low b.high in
    record {
      low = subst (λ (z : Float). T (le z (mul binary64 v (two_to k)))) (sym l) (mul_mono binary64 half v (power true most) (two_to k) tt v-pos tt t-pos a.low b.low);
      high = subst (λ (z : Float). T (le (mul binary64 v (two_to k)) z)) (sym h) (mul_mono binary64 v two (two_to k) (power false most) v-pos tt t-pos tt a.high b.high);
      fl = p;
      fh = q;
    }

-- ---- the laws
abbrev pub exp_least : Float
exp_least = power true 1011

abbrev pub exp_most : Float
exp_most = power false 1011

-- 3.25, 1/64 and 64
abbrev pub c3·25 : Float
c3·25 = fin false 13 (negsuc 1)

abbrev pub m3·25 : Float
m3·25 = fin true 13 (negsuc 1)

abbrev pub c1/64 : Float
c1/64 = power true 6

abbrev pub c64 : Float
c64 = power false 6

wide-ends : (exp_least ≡ mul binary64 half (power true 1010)) × (exp_most ≡ mul binary64 two (power false 1010))
unfolding mul
wide-ends = (refl, refl)

mid_ends : (c1/64 ≡ mul binary64 half (power true 5)) × (c64 ≡ mul binary64 two (power false 5))
unfolding mul
mid_ends = (refl, refl)

pub exp_in : (v : Float) → T (not (is_nan v)) → Between exp_least exp_most (exp_of v)
unfolding exp_of
exp_in v n =
    let w = clamp_of K.m700 K.c700 v in
    exp_at_lem 1010 exp_least exp_most w (lit≤ tt) wide-ends.0 wide-ends.1 tt tt (in_finite K.m700 K.c700 w (clamp_700 v n)) (quotient_in v n)

pub exp_finite : (v : Float) → T (not (is_nan v)) → T (finite (exp_of v))
exp_finite v n = in_finite exp_least exp_most (exp_of v) (exp_in v n)

pub exp_positive : (v : Float) → T (not (is_nan v)) → T (positive (exp_of v))
exp_positive v n = let i = exp_in v n in between exp_least (exp_of v) exp_most tt tt i.low i.high

mid_clamped : T (le K.m700 m3·25) × T (le c3·25 K.c700)
unfolding of_bits neg le
mid_clamped = (tt, tt)

mid_test : T (encloses over_ln2 (iv m3·25 c3·25 ∷ []) (whole true 5) (whole false 5))
unfolding of_bits div le
mid_test = tt

pub exp_mid : (v : Float) → Between m3·25 c3·25 v → Between c1/64 c64 (exp_of v)
unfolding exp_of
exp_mid v i =
    let w = clamp_of K.m700 K.c700 v in
    let j = clamp_keeps K.m700 K.c700 m3·25 c3·25 v mid_clamped.0 mid_clamped.1 i in
    exp_at_lem 5 c1/64 c64 w (lit≤ tt) mid_ends.0 mid_ends.1 tt tt (in_finite m3·25 c3·25 w j) (enclosed over_ln2 (iv m3·25 c3·25 ∷ []) (w ∷ []) (whole true 5) (whole false 5) mid_test (j, tt))
