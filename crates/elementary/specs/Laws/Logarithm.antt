-- The logarithm of a value above zero is finite: from -745 to 711. Assumes nothing.
use Rattle.std.specs.Prelude.{◌≡◌, ℕ, zero, suc, ◌+◌, ◌-◌, ◌*◌, ◌/◌, ◌^◌, ◌<◌, ◌≤◌, Bool, true, false, cond, not, T, [], ◌∷◌, ℤ, pos, negsuc, nat_le, refl, Float}
use Rattle.std.proofs.Common.{subst, lt_of_lt_of_le, le_of_eq, mul-le-mul, mul-lt-mul_of_pos_right, mul_right_comm, mul-pos, zero-lt-suc, pow-suc, le-div_iff_mul-le, div-lt_iff_lt-mul, arith, leb→le, pow_pos}
use Rattle.std.proofs.Math.Dec.{nleb→lt}
use Rattle.std.specs.Float.{nan, inf, fin, binary64}
use Rattle.std.specs.Float.Ieee.{up, down, minus, size, round, of_int, fits, add, sub, mul, div, le, of_bits}
use Rattle.std.specs.Float.Ieee.Digits.{size-lt, size-le, size_reaches}
use Rattle.std.specs.Float.Ieee.Fits.{up_pos, down_pos}
use Rattle.std.specs.Float.Ieee.Order.{round_mono}
use Rattle.std.specs.Float.Ieee.Positive.{positive}
use Rattle.std.specs.Float.Ieee.Scale.{finite}
use Rattle.float.specs.Laws.Signed.{round_le}
use Rattle.float.specs.Laws.Intervals.{iv, Between, in_finite}
use Rattle.float.specs.Laws.Expressions.{Expr, var, lit, plus, less, times, over, bind, fits_in, range}
use Rattle.float.specs.Laws.Remainder.{fits_digits}
use Rattle.float.specs.Laws.Exact.{fits_top}
use Rattle.elementary.specs.Constants as K
use Rattle.elementary.specs.Series.{odd_of, logarithm_table}
use Rattle.elementary.specs.Functions.{ln_at, ln_of}
use Rattle.elementary.specs.Laws.Codes.{encloses, enclosed, odd_code, odd_is}

-- ---- the units of 2 ^ -1074, and how many digits they have
pub units_some : (m : ℕ) (e : ℤ) → down e ≤ 2 ^ 1074 → 0 < suc m * up e * 2 ^ 1074 / down e
units_some m e h = (le-div_iff_mul-le (down_pos e)).1 (mul-le-mul (mul-pos (zero-lt-suc m) (up_pos e)) h)

pub units_few : (m : ℕ) (e : ℤ) → suc m * up e < 2 ^ 1024 * down e → suc m * up e * 2 ^ 1074 / down e < 2 ^ 2098
units_few m e h = (div-lt_iff_lt-mul (down_pos e)).1 (lt_of_lt_of_le (mul-lt-mul_of_pos_right h (pow_pos 1074)) (le_of_eq (mul_right_comm (2 ^ 1024) (down e) (2 ^ 1074))))

-- 2 ^ k ≤ n < 2 ^ (k + 1)
pub record Digits (n k : ℕ) : Type 0 where
  pub least : 2 ^ k ≤ n
  pub most : n < 2 ^ suc k
  pub few : k ≤ 2097

pub digits : (n : ℕ) → 0 < n → n < 2 ^ 2098 → Digits n (size n - 1)
digits n h l = go (size n) (size-lt n) (size_reaches n) (size-le n 2098 l)
  where
    go : (s : ℕ) → n < 2 ^ s → ((j : ℕ) → j < s → 2 ^ j ≤ n) → s ≤ 2098 → Digits n (s - 1)
    go zero a b c = absurd (none n h a)
      where
        none : (n : ℕ) → 0 < n → n < 1 → ⊥
        none n h a = omega arith
    go (suc k) a b c = subst (Digits n) (one k) (record { least = b k (omega arith); most = a; few = omega arith })
      where
        one : (k : ℕ) → k ≡ suc k - 1
        one k = omega arith

-- ---- the significand and the exponent
pub significand_on : (a c b d n k : ℕ) (lo hi : Float) → round binary64 false a c ≡ lo → round binary64 false b d ≡ hi → T (finite lo) → T (finite hi) → 0 < c → 0 < d → a * 2 ^ k ≤ n * c → n * d ≤ b * 2 ^ k → Between lo hi (round binary64 false n (2 ^ k))
significand_on a c b d n k lo hi l h p q C E x y = record {
  low = subst (λ (z : Float). T (le z (round binary64 false n (2 ^ k)))) l (round_mono binary64 a c n (2 ^ k) C (pow_pos k) x);
  high = subst (λ (z : Float). T (le (round binary64 false n (2 ^ k)) z)) h (round_mono binary64 n (2 ^ k) b d (pow_pos k) E y);
  fl = p;
  fh = q;
}

ends : (round binary64 false 1 1 ≡ K.one) × (round binary64 false 2 1 ≡ K.two)
unfolding round of_bits
ends = (refl, refl)

pub significand_in : (n k : ℕ) → Digits n k → Between K.one K.two (round binary64 false n (2 ^ k))
unfolding of_bits
significand_in n k d =
    significand_on 1 1 2 1 n k K.one K.two ends.0 ends.1 tt tt (pow_pos 0) (pow_pos 0) (let h = d.least in omega arith) (let h = d.most in omega (arith, pow-suc 2 k))

pub exponent_on : (a b k : ℕ) (lo hi : Float) → round binary64 true a 1 ≡ lo → round binary64 false b 1 ≡ hi → T (finite lo) → T (finite hi) → 1074 ≤ k + a → k ≤ 1074 + b → Between lo hi (of_int binary64 (minus k 1074))
unfolding of_int
exponent_on a b k lo hi l h p q x y = go (nat_le 1074 k) (leb→le 1074 k) (nleb→lt 1074 k)
  where
    within : (s : Bool) (n : ℕ) → T (le (round binary64 true a 1) (round binary64 s n 1)) → T (le (round binary64 s n 1) (round binary64 false b 1)) → Between lo hi (round binary64 s n 1)
    within s n u v = record { low = subst (λ (z : Float). T (le z (round binary64 s n 1))) l u; high = subst (λ (z : Float). T (le (round binary64 s n 1) z)) h v; fl = p; fh = q }

    go : (t : Bool) → (T t → 1074 ≤ k) → (T (not t) → k < 1074) → Between lo hi (of_int binary64 (cond t (pos (k - 1074)) (negsuc (1074 - suc k))))
    go true f g = within false (k - 1074) (round_le binary64 true a 1 false (k - 1074) 1 (pow_pos 0) (pow_pos 0) (omega arith)) (round_le binary64 false (k - 1074) 1 false b 1 (pow_pos 0) (pow_pos 0) (omega arith))
    go false f g =
        let n = suc (1074 - suc k) in
        within true n (round_le binary64 true a 1 true n 1 (pow_pos 0) (pow_pos 0) (let z = g tt in omega arith)) (round_le binary64 true n 1 false b 1 (pow_pos 0) (pow_pos 0) (omega arith))

abbrev m1074 : Float
m1074 = fin true 537 (pos 1)

abbrev c1023 : Float
c1023 = fin false 1023 (pos 0)

bounds : (round binary64 true 1074 1 ≡ m1074) × (round binary64 false 1023 1 ≡ c1023)
unfolding round
bounds = (refl, refl)

exponent_in : (k : ℕ) → k ≤ 2097 → Between m1074 c1023 (of_int binary64 (minus k 1074))
exponent_in k h = exponent_on 1074 1023 k m1074 c1023 bounds.0 bounds.1 tt tt (omega arith) (omega arith)

-- ---- the series and the sum
abbrev ratio : Expr
ratio = over (less (var 0) (lit K.one)) (plus (var 0) (lit K.one))

-- the series at the ratio
abbrev pub log_code : Expr
log_code = bind ratio (odd_code logarithm_table)

abbrev pub whole : Expr
whole = plus (times (var 0) (lit K.ln2)) (times (lit K.two) (var 1))

-- m from a to b, e from c to d, and the series from s to t
pub ln_on : (a b c d s t lo hi m e : Float) → T (finite s) → T (finite t) → T (fits_in 8 log_code s t a b) → T (encloses whole (iv c d ∷ iv s t ∷ []) lo hi) → Between a b m → Between c d e → Between lo hi (ln_at m e)
unfolding ln_at
ln_on a b c d s t lo hi m e p q f g i j =
    let u = div binary64 (sub binary64 m K.one) (add binary64 m K.one) in
    let r = range 8 log_code s t a b m f i in
    let w = subst (Between s t) (odd_is logarithm_table u (m ∷ [])) (record { low = r.0; high = r.1; fl = p; fh = q }) in
    enclosed whole (iv c d ∷ iv s t ∷ []) (e ∷ odd_of logarithm_table u ∷ []) lo hi g (j, (w, tt))

-- the series at 1/2 is 0.55
abbrev top : Float
top = fin false 5 (negsuc 2)

series_test : T (fits_in 8 log_code K.zero top K.one K.two)
unfolding of_bits add sub div logarithm_table le
series_test = tt

abbrev pub ln_least : Float
ln_least = fin true 745 (pos 0)

abbrev pub ln_most : Float
ln_most = fin false 711 (pos 0)

whole_test : T (encloses whole (iv m1074 c1023 ∷ iv K.zero top ∷ []) ln_least ln_most)
unfolding of_bits add mul le
whole_test = tt

ln_at_lem : (m e : Float) → Between K.one K.two m → Between m1074 c1023 e → Between ln_least ln_most (ln_at m e)
unfolding of_bits
ln_at_lem m e i j = ln_on K.one K.two m1074 c1023 K.zero top ln_least ln_most m e tt tt series_test whole_test i j

-- ---- the laws
pub ln_in : (v : Float) → T (positive v) → T (fits binary64 v) → Between ln_least ln_most (ln_of v)
unfolding ln_of
ln_in nan p f = absurd p
ln_in (inf s) p f = absurd p
ln_in (fin true m e) p f = absurd p
ln_in (fin false zero e) p f = absurd p
ln_in (fin false (suc m) e) p f =
    let n = suc m * up e * 2 ^ 1074 / down e in
    let d = digits n (units_some m e (fits_digits false (suc m) e f).1) (units_few m e (fits_top false (suc m) e f)) in
    ln_at_lem (round binary64 false n (2 ^ (size n - 1))) (of_int binary64 (minus (size n - 1) 1074)) (significand_in n (size n - 1) d) (exponent_in (size n - 1) d.few)

pub ln_finite : (v : Float) → T (positive v) → T (fits binary64 v) → T (finite (ln_of v))
ln_finite v p f = in_finite ln_least ln_most (ln_of v) (ln_in v p f)
