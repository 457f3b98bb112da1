-- What is rounded is a number; a finite value of the format, halved or more, stays finite; and the remainder by 360
-- that is not negative. Assumes nothing.
use Rattle.std.specs.Prelude.{◌≡◌, refl, Bool, true, false, not, ℕ, ◌+◌, ◌*◌, ◌^◌, ◌≤◌, T, Float}
use Rattle.std.proofs.Common.{sym, subst, zero-add, add-zero, mul-le-mul, le_of_lt, pow-suc, arith, lit<}
use Rattle.std.specs.Float.{nan, inf, fin, Format, binary64}
use Rattle.std.specs.Float.Ieee.{up, down, round, fits, is_nan, neg, add, mul, rem, lt, le, of_bits}
use Rattle.std.specs.Float.Ieee.Scale.{finite}
use Rattle.float.specs.Functions.{pick, rem_euclid360_of}
use Rattle.float.specs.Laws.Signed.{P, N, D, nonneg, →leq, round_neg, round_nonneg}
use Rattle.float.specs.Laws.Operations.{Rounds, mul_rounds, finite_neg}
use Rattle.float.specs.Laws.Order.{le_refl}
use Rattle.float.specs.Laws.Magnitude.{Within, rounds_within}
use Rattle.float.specs.Laws.Intervals.{iv, Between, in_finite, iadd, add_in, inside, inside_in}
use Rattle.float.specs.Laws.Comparisons.{lt→le, not_lt}
use Rattle.float.specs.Laws.Remainder.{Own, rem_high, rem_low}
use Rattle.float.specs.Laws.Exact.{fits_top}

-- ---- numbers
nonneg_number : (z : Float) → T (nonneg z) → T (not (is_nan z)) × T (not (is_nan (neg z)))
unfolding is_nan neg
nonneg_number nan h = absurd h
nonneg_number (inf s) h = (tt, tt)
nonneg_number (fin s m e) h = (tt, tt)

pub rounds_number : (f : Format) (z : Float) (p n c : ℕ) → Rounds f z p n c → T (not (is_nan z))
rounds_number f z p n c r = subst (λ (x : Float). T (not (is_nan x))) (sym r.is) (go r.sign r.size)
  where
    go : (s : Bool) (a : ℕ) → T (not (is_nan (round f s a c)))
    go true a = subst (λ (x : Float). T (not (is_nan x))) (sym (round_neg f a c)) (nonneg_number (round f false a c) (round_nonneg f a c)).1
    go false a = (nonneg_number (round f false a c) (round_nonneg f a c)).0

-- what has no minus sign is at least 0
pub nonneg-low : (z : Float) → T (nonneg z) → T (le (of_bits binary64 0) z)
unfolding le of_bits
nonneg-low nan h = absurd h
nonneg-low (inf true) h = absurd h
nonneg-low (inf false) h = tt
nonneg-low (fin true m e) h = absurd h
nonneg-low (fin false m e) h = →leq false (0 * 1 * down e) false (m * up e * 1) (omega arith)

-- ---- a value of the format times at most 1/2
size_of : (x : Float) → T (finite x) → T (fits binary64 x) → P x + N x ≤ 2 ^ 1024 * D x
size_of nan f t = absurd f
size_of (inf s) f t = absurd f
size_of (fin true m e) f t = rw zero-add (le_of_lt (fits_top true m e t))
size_of (fin false m e) f t = rw add-zero (le_of_lt (fits_top false m e t))

half-size : (p n c q m d t u : ℕ) → u ≡ t * 2 → p + n ≤ u * c → 2 * (q + m) ≤ d → (p * q + n * m ≤ t * (c * d)) × (p * m + n * q ≤ t * (c * d))
half-size p n c q m d t u e h k = let l = rw e at (mul-le-mul h k) in (omega arith, omega arith)

pub half_within : (x y : Float) → T (finite x) → T (fits binary64 x) → T (finite y) → 2 * (P y + N y) ≤ D y → Within 1023 (mul binary64 x y)
half_within x y f t g h =
    let s = half-size (P x) (N x) (D x) (P y) (N y) (D y) (2 ^ 1023) (2 ^ 1024) (pow-suc 2 1023) (size_of x f t) h in
    rounds_within 1023 (mul binary64 x y) _ _ _ (lit< tt) (mul_rounds binary64 x y f g) (more _ _ _ s.0) (more _ _ _ s.1)
  where
    more : (p n k : ℕ) → p ≤ k → p ≤ n + k
    more p n k h = omega arith

-- ---- the remainder by 360
abbrev c0 : Float
c0 = of_bits binary64 0

abbrev pub c360 : Float
c360 = of_bits binary64 0x4076800000000000

own : Own c360
unfolding of_bits round
own = refl

-- [-360, 0] + 360
sums : T (inside (iadd (iv (neg c360) c0) (iv c360 c360)) c0 c360)
unfolding of_bits neg add le
sums = tt

pub euclid_in : (x : Float) → T (finite x) → Between c0 c360 (rem_euclid360_of x)
unfolding rem_euclid360_of of_bits
euclid_in x p = go (lt r c0) (λ h. lt→le r c0 h) (λ h. not_lt r c0 (in_finite (neg c360) c360 r all) tt h)
  where
    r : Float
    r = rem binary64 x c360

    all : Between (neg c360) c360 r
    all = record { low = rem_low x c360 p tt (lit< tt) own; high = rem_high x c360 p tt (lit< tt) own; fl = finite_neg c360 tt; fh = tt }

    go : (b : Bool) → (T b → T (le r c0)) → (T (not b) → T (le c0 r)) → Between c0 c360 (pick b (add binary64 r c360) r)
    go true h k =
        let i : Between (neg c360) c0 r = record { low = all.low; high = h tt; fl = all.fl; fh = tt } in
        let s = inside_in (iadd (iv (neg c360) c0) (iv c360 c360)) c0 c360 (add binary64 r c360) sums (add_in (iv (neg c360) c0) (iv c360 c360) r c360 i (record { low = le_refl c360 tt; high = le_refl c360 tt; fl = tt; fh = tt })) in
        record { low = s.0; high = s.1; fl = tt; fh = tt }
    go false h k = record { low = k tt; high = all.high; fl = tt; fh = tt }
