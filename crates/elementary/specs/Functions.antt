-- The elementary functions of document 01, for every f64, operation by operation.
use Rattle.std.specs.Prelude.{zero, suc, ◌-◌, ◌*◌, ◌/◌, ◌^◌, true, false, pos, neg_ℤ, is_nan, Float}
use Rattle.std.specs.Float.{nan, inf, fin, binary64}
use Rattle.std.specs.Float.Ieee.{up, down, minus, size, round, of_int, neg, add, sub, mul, div, rem, lt, eq}
use Rattle.float.specs.Functions.{pick, abs_of, min_of, trunc_of, round_of}
use Rattle.root.specs.Root.{root_of}
use Rattle.elementary.specs.Constants as K
use Rattle.elementary.specs.Series.{series_of, even_of, odd_of, sine_table, cosine_table, logarithm_table, exponential_table, arctangent_table}

-- v, or lo where v is below lo, or hi where v is above hi
unfoldable pub clamp_of : Float → Float → Float → Float
clamp_of lo hi v = pick (lt v lo) lo (pick (lt hi v) hi v)

unfoldable pub to_radians_of : Float → Float
to_radians_of x = mul binary64 x (div binary64 K.pi K.c180)

unfoldable pub to_degrees_of : Float → Float
to_degrees_of x = mul binary64 x (div binary64 K.c180 K.pi)

unfoldable pub hypot_of : Float → Float → Float
hypot_of x y = root_of (add binary64 (mul binary64 x x) (mul binary64 y y))

-- ---- sine, cosine and tangent: r = |t| % 2π, q the whole part of r / FRAC_PI_2, at most 3, u = r - q * FRAC_PI_2
unfoldable pub rem_tau_of : Float → Float
rem_tau_of t = rem binary64 (abs_of t) K.tau

unfoldable pub quadrant_of : Float → Float
quadrant_of r = min_of (trunc_of (div binary64 r K.frac_pi2)) K.three

unfoldable pub rest_of : Float → Float
unfolding quadrant_of
rest_of r = sub binary64 r (mul binary64 (quadrant_of r) K.frac_pi2)

-- what stands at the quadrant q
abbrev pub quarter : Float → Float → Float → Float → Float → Float
quarter q a b c d = pick (eq q K.zero) a (pick (eq q K.one) b (pick (eq q K.two) c d))

-- the sine and the cosine where the quadrant is q and u is left in it
unfoldable pub sine_at : Float → Float → Float
sine_at q u = quarter q (odd_of sine_table u) (even_of cosine_table u) (neg (odd_of sine_table u)) (neg (even_of cosine_table u))

unfoldable pub cosine_at : Float → Float → Float
cosine_at q u = quarter q (even_of cosine_table u) (neg (odd_of sine_table u)) (neg (even_of cosine_table u)) (odd_of sine_table u)

unfoldable pub sin_of : Float → Float
unfolding rem_tau_of quadrant_of rest_of sine_at
sin_of t =
    let v = sine_at (quadrant_of (rem_tau_of t)) (rest_of (rem_tau_of t)) in
    pick (lt t K.zero) (neg v) v

unfoldable pub cos_of : Float → Float
unfolding rem_tau_of quadrant_of rest_of cosine_at
cos_of t = cosine_at (quadrant_of (rem_tau_of t)) (rest_of (rem_tau_of t))

unfoldable pub tan_of : Float → Float
unfolding sin_of cos_of
tan_of t = div binary64 (sin_of t) (cos_of t)

-- ---- the logarithm of m * 2 ^ e, with 1 ≤ m < 2
unfoldable pub ln_at : Float → Float → Float
ln_at m e =
    let s = div binary64 (sub binary64 m K.one) (add binary64 m K.one) in
    add binary64 (mul binary64 e K.ln2) (mul binary64 K.two (odd_of logarithm_table s))

-- A finite value above zero is n of the format's smallest values, 2 ^ -1074. With 2 ^ k ≤ n < 2 ^ (k + 1), m is n / 2 ^
-- k and e is k - 1074. Document 01 leaves the rest free: -infinity at both zeros, NaN below them, and +infinity at
-- +infinity, as in Rust's library.
unfoldable pub ln_of : Float → Float
unfolding ln_at
ln_of nan = nan
ln_of (inf true) = nan
ln_of (inf false) = inf false
ln_of (fin s zero e) = inf true
ln_of (fin true (suc m) e) = nan
ln_of (fin false (suc m) e) =
    let n = suc m * up e * 2 ^ 1074 / down e in
    let k = size n - 1 in
    ln_at (round binary64 false n (2 ^ k)) (of_int binary64 (minus k 1074))

-- ---- the exponential
-- 2 ^ k, for a whole number k
unfoldable pub two_to : Float → Float
two_to nan = nan
two_to (inf s) = nan
two_to (fin true m e) = fin false 1 (neg_ℤ (pos (m * up e / down e)))
two_to (fin false m e) = fin false 1 (pos (m * up e / down e))

-- v is clamped already, and k is the whole number nearest to v / LN_2
unfoldable pub exp_at : Float → Float → Float
unfolding two_to
exp_at v k = mul binary64 (series_of exponential_table (sub binary64 v (mul binary64 k K.ln2))) (two_to k)

unfoldable pub exp_of : Float → Float
unfolding clamp_of exp_at
exp_of v =
    let w = clamp_of K.m700 K.c700 v in
    exp_at w (round_of (div binary64 w K.ln2))

-- ---- the arc tangent
-- the tangent of half the angle
unfoldable pub half_angle_of : Float → Float
half_angle_of v = div binary64 v (add binary64 K.one (root_of (add binary64 K.one (mul binary64 v v))))

-- the arc tangent of a v from 0 to 1
unfoldable pub atan_small : Float → Float
unfolding clamp_of half_angle_of
atan_small v = clamp_of K.zero K.frac_pi2 (mul binary64 K.four (odd_of arctangent_table (half_angle_of (half_angle_of v))))

-- the arc tangent of a v from 0 on
unfoldable pub atan_nonneg : Float → Float
unfolding atan_small clamp_of
atan_nonneg v = pick (lt K.one v) (clamp_of K.zero K.frac_pi2 (sub binary64 K.frac_pi2 (atan_small (div binary64 K.one v)))) (atan_small v)

-- Document 01 leaves an argument below 0 free: there it is the opposite of the arc tangent of -v, as in Rust's library.
unfoldable pub atan_of : Float → Float
unfolding atan_nonneg
atan_of v = pick (lt v K.zero) (neg (atan_nonneg (neg v))) (atan_nonneg v)

-- the angle between the line to (|x|, |y|) and the x axis. Two zeros, which document 01 leaves free, give FRAC_PI_2, as
-- any y does where x = 0.
unfoldable pub angle_of : Float → Float → Float
unfolding atan_of
angle_of y x = pick (eq x K.zero) K.frac_pi2 (atan_of (div binary64 (abs_of y) (abs_of x)))

-- that angle, or what it lacks to a half turn where x is below 0
unfoldable pub half_plane_of : Float → Float → Float
unfolding angle_of
half_plane_of y x = let a = angle_of y x in pick (lt x K.zero) (sub binary64 K.pi a) a

-- A NaN in x goes through the quotient.
unfoldable pub atan2_of : Float → Float → Float
unfolding half_plane_of
atan2_of y x = let b = half_plane_of y x in pick (is_nan y) y (pick (lt y K.zero) (neg b) b)

unfoldable pub acos_of : Float → Float
unfolding atan_of
acos_of v = mul binary64 K.two (atan_of (root_of (div binary64 (sub binary64 K.one v) (add binary64 K.one v))))
