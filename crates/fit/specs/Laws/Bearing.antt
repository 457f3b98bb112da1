-- The bearing of a fit: where the scale is finite both parts of the similarity are, and then the arc tangent lies in [-π, π]. Assumes nothing.
use Rattle.std.specs.Prelude.{refl, [], ◌∷◌, Bool, true, false, not, ◌||◌, zero, suc, ◌*◌, ℤ, T, eqb, Float}
use Rattle.std.proofs.Common.{subst, mul-pos, zero-lt-suc, arith, T_not, pow_pos}
use Rattle.std.specs.Bool.{beq}
use Rattle.std.specs.Float.{nan, inf, fin, binary64}
use Rattle.std.specs.Float.Ieee.{up, down, round, is_nan, neg, add, sub, mul, div, lt, eq, le, of_bits}
use Rattle.std.specs.Float.Ieee.Fits.{and_i, eq→eqb, up_pos}
use Rattle.std.specs.Float.Ieee.Scale.{finite}
use Rattle.float.specs.Functions.{pick, abs_of}
use Rattle.float.specs.Laws.Operations.{Rounds, rounds_le}
use Rattle.float.specs.Laws.Order.{le_trans, div_rounds}
use Rattle.float.specs.Laws.Intervals.{iv, Between}
use Rattle.float.specs.Laws.Expressions.{Expr, var, lit, minus, less, times, over}
use Rattle.root.specs.Root.{root_of}
use Rattle.root.specs.Laws.Root.{root_nan, root_infinity, root_below_zero}
use Rattle.elementary.specs.Constants as K
use Rattle.elementary.specs.Functions.{to_degrees_of, hypot_of, atan_of, angle_of, half_plane_of, atan2_of}
use Rattle.elementary.specs.Laws.Codes.{encloses, enclosed}
use Rattle.elementary.specs.Laws.Arctangent.{atan_in}
use Rattle.geodesy.specs.Laws.Finite.{m180}

-- ---- from a finite result back to finite arguments
root_part : (z : Float) → T (finite (root_of z)) → T (finite z)
root_part nan h = subst (λ (v : Float). T (finite v)) root_nan h
root_part (inf true) h = subst (λ (v : Float). T (finite v)) (root_below_zero (inf true) (unfold lt in tt)) h
root_part (inf false) h = subst (λ (v : Float). T (finite v)) root_infinity h
root_part (fin s m e) h = tt

sum_parts : (x y : Float) → T (finite (add binary64 x y)) → T (finite x) × T (finite y)
unfolding add
sum_parts nan y h = absurd h
sum_parts (inf s) nan h = absurd h
sum_parts (inf true) (inf true) h = absurd h
sum_parts (inf true) (inf false) h = absurd h
sum_parts (inf false) (inf true) h = absurd h
sum_parts (inf false) (inf false) h = absurd h
sum_parts (inf s) (fin t n d) h = absurd h
sum_parts (fin s m e) nan h = absurd h
sum_parts (fin s m e) (inf t) h = absurd h
sum_parts (fin s m e) (fin t n d) h = (tt, tt)

square_part : (x : Float) → T (finite (mul binary64 x x)) → T (finite x)
unfolding mul
square_part nan h = absurd h
square_part (inf s) h = absurd h
square_part (fin s m e) h = tt

pub hypot_parts : (x y : Float) → T (finite (hypot_of x y)) → T (finite x) × T (finite y)
unfolding hypot_of
hypot_parts x y h =
    let s = sum_parts (mul binary64 x x) (mul binary64 y y) (root_part (add binary64 (mul binary64 x x) (mul binary64 y y)) h) in
    (square_part x s.0, square_part y s.1)

-- ---- the quotient of two sizes
level_zero : (t : Bool) (d : ℤ) → T (eq (fin t 0 d) K.zero)
unfolding eq of_bits
level_zero t d = and_i (eqb (0 * up d * 1) (0 * 1 * down d)) (beq t false || eqb (0 * up d * 1) 0) (eq→eqb {a = 0 * up d * 1} {b = 0 * 1 * down d} (omega arith)) (go t)
  where
    go : (t : Bool) → T (beq t false || eqb (0 * up d * 1) 0)
    go true = eq→eqb {a = 0 * up d * 1} {b = 0} (omega arith)
    go false = tt

zero_rounds : Rounds binary64 K.zero 0 0 1
unfolding of_bits round
zero_rounds = record { sign = false; size = 0; is = refl; val = refl; den = pow_pos 0 }

quotient-low : (y x : Float) → T (finite y) → T (finite x) → T (not (eq x K.zero)) → T (le K.zero (div binary64 (abs_of y) (abs_of x)))
unfolding abs_of
quotient-low nan x f g h = absurd f
quotient-low (inf s) x f g h = absurd f
quotient-low (fin s m e) nan f g h = absurd g
quotient-low (fin s m e) (inf t) f g h = absurd g
quotient-low (fin s m e) (fin t zero d) f g h = absurd (T_not (eq (fin t 0 d) K.zero) h (level_zero t d))
quotient-low (fin s m e) (fin t (suc n) d) f g h =
    rounds_le binary64 K.zero (div binary64 (fin false m e) (fin false (suc n) d)) 0 0 1 _ _ _ zero_rounds (div_rounds binary64 (fin false m e) (fin false (suc n) d) tt tt (mul-pos (zero-lt-suc n) (up_pos d))) (omega arith)

-- ---- the angle, by quadrants
ends : Between K.zero K.frac_pi2 K.frac_pi2 × T (le K.frac_pi2 K.pi)
unfolding of_bits le
ends = (record { low = tt; high = tt; fl = tt; fh = tt }, tt)

angle_in : (y x : Float) → T (finite y) → T (finite x) → Between K.zero K.frac_pi2 (angle_of y x)
unfolding angle_of
angle_in y x f g = go (eq x K.zero) (quotient-low y x f g)
  where
    q : Float
    q = div binary64 (abs_of y) (abs_of x)

    go : (b : Bool) → (T (not b) → T (le K.zero q)) → Between K.zero K.frac_pi2 (pick b K.frac_pi2 (atan_of q))
    go true h = ends.0
    go false h = atan_in q (h tt)

sided_test : T (encloses (less (lit K.pi) (var 0)) (iv K.zero K.frac_pi2 ∷ []) K.zero K.pi)
unfolding of_bits sub le
sided_test = tt

sided_in : (y x : Float) → T (finite y) → T (finite x) → Between K.zero K.pi (half_plane_of y x)
unfolding half_plane_of
sided_in y x f g = go (lt x K.zero) (angle_of y x) (angle_in y x f g)
  where
    go : (b : Bool) (a : Float) → Between K.zero K.frac_pi2 a → Between K.zero K.pi (pick b (sub binary64 K.pi a) a)
    go true a i = enclosed (less (lit K.pi) (var 0)) (iv K.zero K.frac_pi2 ∷ []) (a ∷ []) K.zero K.pi sided_test (i, tt)
    go false a i = record { low = i.low; high = le_trans a K.frac_pi2 K.pi i.high ends.1; fl = i.fl; fh = unfold of_bits in tt }

opposite_test : T (encloses (minus (var 0)) (iv K.zero K.pi ∷ []) (neg K.pi) K.pi) × T (encloses (var 0) (iv K.zero K.pi ∷ []) (neg K.pi) K.pi)
unfolding of_bits neg le
opposite_test = (tt, tt)

number : (y : Float) → T (finite y) → T (not (is_nan y))
unfolding is_nan
number nan f = absurd f
number (inf s) f = tt
number (fin s m e) f = tt

pub atan2_in : (y x : Float) → T (finite y) → T (finite x) → Between (neg K.pi) K.pi (atan2_of y x)
unfolding atan2_of
atan2_in y x f g = go (is_nan y) (number y f) (lt y K.zero) (half_plane_of y x) (sided_in y x f g)
  where
    go : (n : Bool) → T (not n) → (s : Bool) (b : Float) → Between K.zero K.pi b → Between (neg K.pi) K.pi (pick n y (pick s (neg b) b))
    go true h s b i = absurd h
    go false h true b i = enclosed (minus (var 0)) (iv K.zero K.pi ∷ []) (b ∷ []) (neg K.pi) K.pi opposite_test.0 (i, tt)
    go false h false b i = enclosed (var 0) (iv K.zero K.pi ∷ []) (b ∷ []) (neg K.pi) K.pi opposite_test.1 (i, tt)

-- ---- in degrees
abbrev degrees : Expr
degrees = times (var 0) (over (lit K.c180) (lit K.pi))

degrees_test : T (encloses degrees (iv (neg K.pi) K.pi ∷ []) m180 K.c180)
unfolding of_bits neg mul div le
degrees_test = tt

pub bearing_in : (y x : Float) → T (finite y) → T (finite x) → Between m180 K.c180 (to_degrees_of (atan2_of y x))
unfolding to_degrees_of
bearing_in y x f g = enclosed degrees (iv (neg K.pi) K.pi ∷ []) (atan2_of y x ∷ []) m180 K.c180 degrees_test (atan2_in y x f g, tt)
