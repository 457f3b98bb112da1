-- Laws of `root_of` for callers that rest on its value: it is the nearest value to the root, what the format holds, the
-- order, and bounds. Assumes nothing.
use Rattle.std.specs.Prelude.{◌≡◌, refl, Bool, true, false, ℕ, zero, suc, ◌+◌, ◌*◌, ◌/◌, ◌^◌, ◌≤◌, ◌<◌, Float}
use Rattle.std.proofs.Common.{lt_irrefl, mul-pos, mul-le-mul_right, zero-lt-suc, arith, lt→ltb, pow_pos}
use Rattle.std.proofs.Math.Path.{subst}
use Rattle.std.proofs.Math.Dec.{T}
use Rattle.std.specs.Float.{nan, inf, fin, binary64}
use Rattle.std.specs.Float.Ieee.{down, le, fits}
use Rattle.std.specs.Float.Ieee.Fits.{round-fits, nan-fits, up_pos}
use Rattle.std.specs.Float.Ieee.Order.{round_mono}
use Rattle.std.specs.Float.Ieee.Scale.{finite}
use Rattle.std.specs.Float.Ieee.Positive.{positive, positive-finite, positive_of_value}
use Rattle.float.specs.Laws.Signed.{P, N, le→, →le, round_nonneg}
use Rattle.float.specs.Laws.Order.{le_trans, pos_of}
use Rattle.root.specs.Root.{isqrt, scaled, sticky, root_at, root_of}
use Rattle.root.specs.Laws.Nearest.{plain, Nearest}
use Rattle.root.specs.Laws.Whole.{isqrt_root, isqrt_mono}
use Rattle.root.specs.Laws.Root.{plus_zero, above-none, nonneg-from-zero, sticky_mono, scaled_mono, minus_one, one, two, root_two, one_plus_square, unit_square}
use Rattle.root.proofs.Laws.Shape.{rooted}
use Rattle.root.proofs.Laws.Middles.{is_nearest, is-only}

-- ---- what the format holds
root_at_fits : (n : ℕ) → T (fits binary64 (root_at n))
unfolding root_at
root_at_fits n = round-fits binary64 false (sticky (isqrt n) n) (2 ^ 1076)

pub root_fits : (x : Float) → T (fits binary64 x) → T (fits binary64 (root_of x))
unfolding root_of
root_fits nan h = nan-fits binary64
root_fits (inf true) h = nan-fits binary64
root_fits (inf false) h = h
root_fits (fin s zero e) h = h
root_fits (fin true (suc m) e) h = nan-fits binary64
root_fits (fin false (suc m) e) h = root_at_fits (scaled (suc m) e)

-- ---- the nearest
-- No value of the format is nearer to the root of x than `root_of x`, and none is as near.
pub root_nearest : (x : Float) → T (positive x) → T (fits binary64 x) → Nearest x (root_of x)
root_nearest = is_nearest

-- A value of the format that is nearest to the root of x is `root_of x`.
pub the_nearest : (x z : Float) → T (positive x) → T (fits binary64 x) → T (plain z) → T (fits binary64 z) → Nearest x z → z ≡ root_of x
the_nearest x z p f q g M = is-only x z p f q g (root_fits x f) M

-- ---- signs
pub root_positive : (x : Float) → T (positive x) → T (fits binary64 x) → T (positive (root_of x))
root_positive x p f =
    let r = rooted x p f in
    let s = r.shape in
    positive_of_value (root_of x) ((s.p + 1) / 2 * 2 ^ s.j) (2 ^ 1074) r.root (mul-pos (some s.p s.lo) (pow_pos s.j))
  where
    some : (p : ℕ) → 2 ^ 53 ≤ p → 0 < (p + 1) / 2
    some p h = omega arith

-- ---- from 0 up
root_at-from-zero : (n : ℕ) → T (le plus_zero (root_at n)) × T (le (root_at n) (inf false))
unfolding root_at
root_at-from-zero n = nonneg-from-zero (root_at n) (round_nonneg binary64 (sticky (isqrt n) n) (2 ^ 1076))

pub root_from-zero : (x : Float) → T (le plus_zero x) → T (le plus_zero (root_of x))
unfolding root_of
root_from-zero nan h = absurd (unfold le in h)
root_from-zero (inf true) h = absurd (unfold le in h)
root_from-zero (inf false) h = h
root_from-zero (fin s zero e) h = h
root_from-zero (fin true (suc m) e) h = absurd (above-none m e h)
root_from-zero (fin false (suc m) e) h = (root_at-from-zero (scaled (suc m) e)).0

pub root_finite : (x : Float) → T (finite x) → T (fits binary64 x) → T (le plus_zero x) → T (finite (root_of x))
root_finite nan p f h = absurd p
root_finite (inf s) p f h = absurd p
root_finite (fin s zero e) p f h = unfold root_of in tt
root_finite (fin true (suc m) e) p f h = absurd (above-none m e h)
root_finite (fin false (suc m) e) p f h = positive-finite (root_of (fin false (suc m) e)) (root_positive (fin false (suc m) e) (lt→ltb 0 (suc m) (zero-lt-suc m)) f)

-- ---- the order
root_at_mono : (n k : ℕ) → n ≤ k → T (le (root_at n) (root_at k))
unfolding root_at
root_at_mono n k h =
    round_mono binary64 (sticky (isqrt n) n) (2 ^ 1076) (sticky (isqrt k) k) (2 ^ 1076) (pow_pos 1076) (pow_pos 1076)
    (mul-le-mul_right (2 ^ 1076) (sticky_mono n k (isqrt n) (isqrt k) h (isqrt_root n).least (isqrt_mono n k h)))

-- from 0 up to +infinity a larger value has no smaller root
pub root_mono : (x y : Float) → T (le plus_zero x) → T (le x y) → T (le (root_of x) (root_of y))
unfolding root_of
root_mono nan y h k = absurd (unfold le in h)
root_mono (inf true) y h k = absurd (unfold le in h)
root_mono (inf false) nan h k = absurd (unfold le in k)
root_mono (inf false) (inf true) h k = absurd (unfold le in k)
root_mono (inf false) (inf false) h k = k
root_mono (inf false) (fin t n d) h k = absurd (unfold le in k)
root_mono (fin s zero e) y h k = le_trans (fin s zero e) plus_zero (root_of y) (→le (fin s zero e) plus_zero tt tt (none s)) (root_from-zero y (le_trans plus_zero (fin s zero e) y h k))
  where
    none : (s : Bool) → P (fin s zero e) * 1 + 0 * down e ≤ 0 * 1 * down e + N (fin s zero e) * 1
    none true = omega arith
    none false = omega arith
root_mono (fin true (suc m) e) y h k = absurd (above-none m e h)
root_mono (fin false (suc m) e) nan h k = absurd (unfold le in k)
root_mono (fin false (suc m) e) (inf true) h k = absurd (unfold le in k)
root_mono (fin false (suc m) e) (inf false) h k = (root_at-from-zero (scaled (suc m) e)).1
root_mono (fin false (suc m) e) (fin t n d) h k = above t n (pos_of (fin false (suc m) e) (fin t n d) tt tt (mul-pos (zero-lt-suc m) (up_pos e)) k) k
  where
    above : (t : Bool) (n : ℕ) → 0 < P (fin t n d) → T (le (fin false (suc m) e) (fin t n d)) → T (le (root_at (scaled (suc m) e)) (root_of (fin t n d)))
    above true n p k = absurd (lt_irrefl 0 p)
    above false zero p k = absurd (lt_irrefl 0 (omega arith))
    above false (suc n) p k = root_at_mono (scaled (suc m) e) (scaled (suc n) d) (scaled_mono (suc m) e (suc n) d (omega (arith, le→ (fin false (suc m) e) (fin false (suc n) d) tt tt k)))

-- between two bounds: the bounds' roots are numbers to work out
pub root_between : (lo hi x : Float) → T (le plus_zero lo) → T (le lo x) → T (le x hi) → T (le (root_of lo) (root_of x)) × T (le (root_of x) (root_of hi))
root_between lo hi x z h k = (root_mono lo x z h, root_mono x hi (le_trans plus_zero lo x z h) k)

-- ---- the root of 1 + v * v for a v from -1 to 1 is from 1 to the root of 2
root_one : root_of one ≡ one
unfolding root_of
root_one = refl

root_two_lem : root_of two ≡ root_two
unfolding root_of
root_two_lem = refl

pub unit_root : (v : Float) → T (le minus_one v) → T (le v one) → T (le one (root_of (one_plus_square v))) × T (le (root_of (one_plus_square v)) root_two)
unit_root v h k =
    let x = one_plus_square v in
    let w = unit_square v h k in
    let r = root_between one two x (unfold le in tt) w.0 w.1 in
    (subst (λ (z : Float). T (le z (root_of x))) root_one r.0, subst (λ (z : Float). T (le (root_of x) z)) root_two_lem r.1)
