-- Sine and cosine of every finite value are finite, and at most 1 + 1/64 in size. Assumes nothing.
use Rattle.std.specs.Prelude.{◌≡◌, ℕ, zero, suc, ◌*◌, ◌/◌, ◌%◌, ◌^◌, ◌<◌, ◌≤◌, Bool, true, false, not, T, ◌⊎◌, [], ◌∷◌, pos, negsuc, Float}
use Rattle.std.proofs.Math.Path.{refl}
use Rattle.std.proofs.Common.{sym, ap, subst, le_of_suc-le-suc, div-lt_iff_lt-mul, T_not, lit<}
use Rattle.std.proofs.Math.Logic.{inl, inr}
use native.Mathlib.Omega.{arith}
use Rattle.std.specs.Float.Ieee.{nan, up, down, round, neg, sub, mul, div, rem, lt, eq, le, is_nan, of_bits}
use Rattle.std.specs.Float.{inf, fin, binary64}
use Rattle.std.specs.Float.Ieee.Fits.{down_pos}
use Rattle.std.specs.Float.Ieee.Scale.{finite}
use Rattle.float.specs.Functions.{pick, abs_of, min_of, trunc_of}
use Rattle.float.specs.Laws.Signed.{N, nonneg, neg_le, le→, round_nonneg}
use Rattle.float.specs.Laws.Order.{le_trans, le_total, finite_of, div_up}
use Rattle.float.specs.Laws.Intervals.{iv, Between, in_finite}
use Rattle.float.specs.Laws.Expressions.{Expr, var, lit, less, times, over, fits_in}
use Rattle.float.specs.Laws.Remainder.{Own, rem_high, rem_nonneg, floor_low, floor_high}
use Rattle.elementary.specs.Constants as K
use Rattle.elementary.specs.Series.{even_of, odd_of, sine_table, cosine_table}
use Rattle.elementary.specs.Functions.{rem_tau_of, quadrant_of, rest_of, sine_at, cosine_at, sin_of, cos_of}
use Rattle.elementary.specs.Laws.Codes.{encloses, enclosed, even_code, odd_code, even_range, odd_range}

-- 1 + 1/64, and its opposite
abbrev pub bound : Float
bound = fin false 65 (negsuc 5)

abbrev pub low-bound : Float
low-bound = fin true 65 (negsuc 5)

abbrev pub UnitSize : Float → Type 0
UnitSize x = T (le low-bound x) × T (le x bound)

pub unit_finite : (x : Float) → UnitSize x → T (finite x)
unit_finite x h = finite_of low-bound x bound tt tt h.0 h.1

minus_unit : (x : Float) → UnitSize x → UnitSize (neg x)
minus_unit x h = (subst (λ (z : Float). T (le z (neg x))) neg_bound (neg_le x bound h.1), subst (λ (z : Float). T (le (neg x) z)) neg_low-bound (neg_le low-bound x h.0))
  where
    neg_bound : neg bound ≡ low-bound
    neg_bound = unfold neg in refl

    neg_low-bound : neg low-bound ≡ bound
    neg_low-bound = unfold neg in refl

-- ---- both series on a little more than a quadrant
abbrev slack_lo : Float
slack_lo = fin true 2535301200456459 (negsuc 98)

abbrev slack_hi : Float
slack_hi = fin false 3537118876014229 (negsuc 50)

cosine_fits : T (fits_in 20 (even_code cosine_table) low-bound bound slack_lo slack_hi)
unfolding cosine_table le
cosine_fits = tt

sine_fits : T (fits_in 20 (odd_code sine_table) low-bound bound slack_lo slack_hi)
unfolding sine_table le
sine_fits = tt

series_unit : (u : Float) → Between slack_lo slack_hi u → UnitSize (odd_of sine_table u) × UnitSize (even_of cosine_table u)
series_unit u i =
    let s = odd_range 20 sine_table low-bound bound slack_lo slack_hi u tt tt sine_fits i in
    let c = even_range 20 cosine_table low-bound bound slack_lo slack_hi u tt tt cosine_fits i in
    ((s.low, s.high), (c.low, c.high))

-- ---- the turn's part r, from 0 to 2π, and r / FRAC_PI_2, from 0 to 4
abs_plain : (t : Float) → T (finite t) → T (finite (abs_of t)) × (N (abs_of t) ≡ 0)
unfolding abs_of
abs_plain nan p = absurd p
abs_plain (inf s) p = absurd p
abs_plain (fin s m e) p = (tt, refl)

own : Own K.tau
unfolding of_bits round
own = refl

pub turn_in : (t : Float) → T (finite t) → Between K.zero K.tau (rem_tau_of t)
unfolding rem_tau_of of_bits
turn_in t p =
    let s = abs_plain t p in
    record { low = rem_nonneg (abs_of t) K.tau s.0 tt (lit< tt) s.1; high = rem_high (abs_of t) K.tau s.0 tt (lit< tt) own; fl = tt; fh = tt }

turn_sign : (t : Float) → T (finite t) → T (nonneg (rem_tau_of t))
unfolding rem_tau_of abs_of rem of_bits
turn_sign nan p = absurd p
turn_sign (inf s) p = absurd p
turn_sign (fin s m e) p = round_nonneg binary64 (m * up e * 2 ^ 47 % (884279719003555 * 1 * down e)) (down e * 2 ^ 47)

quotient_sign : (r : Float) → T (finite r) → T (nonneg r) → T (nonneg (div binary64 r K.frac_pi2))
unfolding div of_bits
quotient_sign nan p h = absurd p
quotient_sign (inf s) p h = absurd p
quotient_sign (fin true m e) p h = absurd h
quotient_sign (fin false m e) p h = round_nonneg binary64 (m * up e * 2 ^ 49) (884279719003555 * 1 * down e)

abbrev pub quotient_code : Expr
quotient_code = over (var 0) (lit K.frac_pi2)

quotient_test : T (encloses quotient_code (iv K.zero K.tau ∷ []) K.zero K.four)
unfolding of_bits div le
quotient_test = tt

quotient_in : (r : Float) → Between K.zero K.tau r → Between K.zero K.four (div binary64 r K.frac_pi2)
quotient_in r i = enclosed quotient_code (iv K.zero K.tau ∷ []) (r ∷ []) K.zero K.four quotient_test (i, tt)

-- ---- what a quotient says of what was divided
abbrev below? : Float → Float → Bool
below? x y = not (le y x)

low_end : (q r r0 : Float) → T (finite r) → T (finite r0) → T (le q (div binary64 r K.frac_pi2)) → T (below? (div binary64 r0 K.frac_pi2) q) → T (le r0 r)
unfolding of_bits
low_end q r r0 p p0 h k = elim (le_total r0 r p0 p) [
  | inl l ↦ l
  | inr l ↦ absurd (T_not (le q (div binary64 r0 K.frac_pi2)) k (le_trans q (div binary64 r K.frac_pi2) (div binary64 r0 K.frac_pi2) h (div_up binary64 r r0 K.frac_pi2 p p0 tt (lit< tt) l)))
]

high_end : (q r r1 : Float) → T (finite r) → T (finite r1) → T (le (div binary64 r K.frac_pi2) q) → T (below? q (div binary64 r1 K.frac_pi2)) → T (le r r1)
unfolding of_bits
high_end q r r1 p p1 h k = elim (le_total r r1 p p1) [
  | inl l ↦ l
  | inr l ↦ absurd (T_not (le (div binary64 r1 K.frac_pi2) q) k (le_trans (div binary64 r1 K.frac_pi2) (div binary64 r K.frac_pi2) q (div_up binary64 r1 r K.frac_pi2 p1 p tt (lit< tt) l) h))
]

-- ---- the quadrants: where r lies if the quotient's whole part is n
abbrev l1 : Float
l1 = fin false 7074237752028439 (negsuc 51)

abbrev l2 : Float
l2 = fin false 7074237752028439 (negsuc 50)

abbrev l3 : Float
l3 = fin false 5305678314021329 (negsuc 49)

abbrev h1 : Float
h1 = fin false 7074237752028441 (negsuc 51)

abbrev h2 : Float
h2 = fin false 7074237752028441 (negsuc 50)

abbrev h3 : Float
h3 = fin false 5305678314021331 (negsuc 49)

abbrev whole : ℕ → Float
whole n = fin false n (pos 0)

abbrev pub rest_code : Float → Expr
rest_code q = less (var 0) (times (lit q) (lit K.frac_pi2))

abbrev rest_test : Float → Float → Float → Bool
rest_test q a b = encloses (rest_code q) (iv a b ∷ []) slack_lo slack_hi

abbrev Tests : Type 0
Tests = T (rest_test K.zero K.zero h1) × T (rest_test K.one l1 h2) × T (rest_test K.two l2 h3) × T (rest_test K.three l3 K.tau)
    × T (below? (whole 1) (div binary64 h1 K.frac_pi2)) × T (below? (whole 2) (div binary64 h2 K.frac_pi2)) × T (below? (whole 3) (div binary64 h3 K.frac_pi2))
    × T (below? (div binary64 l1 K.frac_pi2) (whole 1)) × T (below? (div binary64 l2 K.frac_pi2) (whole 2)) × T (below? (div binary64 l3 K.frac_pi2) (whole 3))
    × T (below? (div binary64 l3 K.frac_pi2) (whole 4))

tests : Tests
unfolding of_bits mul sub div le
tests = (tt, tt, tt, tt, tt, tt, tt, tt, tt, tt, tt)

rest_in : (q a b r : Float) → T (rest_test q a b) → Between a b r → quadrant_of r ≡ q → Between slack_lo slack_hi (rest_of r)
unfolding rest_of
rest_in q a b r t i e =
    subst (λ (z : Float). Between slack_lo slack_hi (sub binary64 r (mul binary64 z K.frac_pi2))) (sym e) (enclosed (rest_code q) (iv a b ∷ []) (r ∷ []) slack_lo slack_hi t (i, tt))

-- a quadrant and what is left in it
pub record Quadrant (r : Float) : Type 0 where
  pub rest : Between slack_lo slack_hi (rest_of r)
  pub which : (quadrant_of r ≡ K.zero) ⊎ ((quadrant_of r ≡ K.one) ⊎ ((quadrant_of r ≡ K.two) ⊎ (quadrant_of r ≡ K.three)))

at-most_4 : (a d : ℕ) → 0 < d → a ≤ 4 * d → a / d ≤ 4
at-most_4 a d D h = le_of_suc-le-suc ((div-lt_iff_lt-mul D).1 (room a d D h))
  where
    room : (a d : ℕ) → 0 < d → a ≤ 4 * d → a < 5 * d
    room a d D h = omega arith

-- the quadrant of a whole part
quadrant_is : (r : Float) (n : ℕ) → trunc_of (div binary64 r K.frac_pi2) ≡ round binary64 false n 1 → quadrant_of r ≡ min_of (round binary64 false n 1) K.three
unfolding quadrant_of
quadrant_is r n e = ap (λ (z : Float). min_of z K.three) e

module _ (r : Float) (i : Between K.zero K.tau r) where
  p : T (finite r)
  p = in_finite K.zero K.tau r i

  by_part : (n : ℕ) → n ≤ 4 → quadrant_of r ≡ min_of (round binary64 false n 1) K.three → T (le (whole n) (div binary64 r K.frac_pi2)) → T (le (div binary64 r K.frac_pi2) (whole (suc n))) → Quadrant r
  unfolding min_of is_nan lt round of_bits
  by_part zero h e a b = record {
    rest = rest_in K.zero K.zero h1 r tests.0 (record { low = i.low; high = high_end (whole 1) r h1 p tt b tests.4; fl = tt; fh = tt }) e;
    which = inl e;
  }
  by_part (suc zero) h e a b = record {
    rest = rest_in K.one l1 h2 r tests.1 (record { low = low_end (whole 1) r l1 p tt a tests.7; high = high_end (whole 2) r h2 p tt b tests.5; fl = tt; fh = tt }) e;
    which = inr (inl e);
  }
  by_part (suc (suc zero)) h e a b = record {
    rest = rest_in K.two l2 h3 r tests.2 (record { low = low_end (whole 2) r l2 p tt a tests.8; high = high_end (whole 3) r h3 p tt b tests.6; fl = tt; fh = tt }) e;
    which = inr (inr (inl e));
  }
  by_part (suc (suc (suc zero))) h e a b = record {
    rest = rest_in K.three l3 K.tau r tests.3 (record { low = low_end (whole 3) r l3 p tt a tests.9; high = i.high; fl = tt; fh = tt }) e;
    which = inr (inr (inr e));
  }
  by_part (suc (suc (suc (suc zero)))) h e a b = record {
    rest = rest_in K.three l3 K.tau r tests.3 (record { low = low_end (whole 4) r l3 p tt a tests.10; high = i.high; fl = tt; fh = tt }) e;
    which = inr (inr (inr e));
  }
  by_part (suc (suc (suc (suc (suc n))))) h e a b = absurd (none n h)
    where
      none : (n : ℕ) → suc (suc (suc (suc (suc n)))) ≤ 4 → ⊥
      none n h = omega arith

  by_quotient : (w : Float) → w ≡ div binary64 r K.frac_pi2 → T (nonneg w) → Between K.zero K.four w → Quadrant r
  unfolding trunc_of of_bits
  by_quotient nan e s j = absurd (unfold le in j.low)
  by_quotient (inf true) e s j = absurd (unfold le in j.low)
  by_quotient (inf false) e s j = absurd (unfold le in j.high)
  by_quotient (fin true m d) e s j = absurd s
  by_quotient (fin false m d) e s j =
      let n = m * up d / down d in
      by_part n (at-most_4 (m * up d) (down d) (down_pos d) (let h = le→ (fin false m d) (whole 4) tt tt (four j.high) in omega arith)) (quadrant_is r n (ap trunc_of (sym e)))
      (subst (λ (z : Float). T (le (whole n) z)) e (floor_low m d)) (subst (λ (z : Float). T (le z (whole (suc n)))) e (floor_high m d))
    where
      four : T (le (fin false m d) K.four) → T (le (fin false m d) (whole 4))
      four h = le_trans (fin false m d) K.four (whole 4) h (unfold le in tt)

pub quadrant : (t : Float) → T (finite t) → Quadrant (rem_tau_of t)
quadrant t f =
    let i = turn_in t f in
    by_quotient (rem_tau_of t) i (div binary64 (rem_tau_of t) K.frac_pi2) refl (quotient_sign (rem_tau_of t) (in_finite K.zero K.tau (rem_tau_of t) i) (turn_sign t f)) (quotient_in (rem_tau_of t) i)

-- ---- the bounds
at_quadrant : (r : Float) → Quadrant r → UnitSize (sine_at (quadrant_of r) (rest_of r)) × UnitSize (cosine_at (quadrant_of r) (rest_of r))
unfolding sine_at cosine_at eq of_bits
at_quadrant r Q =
    let s = (series_unit (rest_of r) Q.rest).0 in
    let c = (series_unit (rest_of r) Q.rest).1 in
    let s' = minus_unit (odd_of sine_table (rest_of r)) s in
    let c' = minus_unit (even_of cosine_table (rest_of r)) c in
    elim Q.which [
      | inl e ↦ rw e (s, c)
      | inr x ↦ elim x [
        | inl e ↦ rw e (c, s')
        | inr y ↦ elim y [
          | inl e ↦ rw e (s', c')
          | inr e ↦ rw e (c', s)
        ]
      ]
    ]

pub sin_unit : (t : Float) → T (finite t) → UnitSize (sin_of t)
unfolding sin_of
sin_unit t f = go (lt t K.zero) (sine_at (quadrant_of (rem_tau_of t)) (rest_of (rem_tau_of t))) (at_quadrant (rem_tau_of t) (quadrant t f)).0
  where
    go : (b : Bool) (v : Float) → UnitSize v → UnitSize (pick b (neg v) v)
    go true v h = minus_unit v h
    go false v h = h

pub cos_unit : (t : Float) → T (finite t) → UnitSize (cos_of t)
unfolding cos_of
cos_unit t f = (at_quadrant (rem_tau_of t) (quadrant t f)).1
