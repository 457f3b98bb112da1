-- Laws of `root_of` for callers: its cases, and what `proofs/Laws/Root` rests on, which has the others: it is the nearest
-- value to the root, what the format holds, the order, and bounds. Assumes nothing.
use Rattle.std.specs.Prelude.{◌≡◌, refl, ◌⊎◌, Bool, true, false, cond, ℕ, zero, suc, ◌+◌, ◌*◌, ◌^◌, ◌≤◌, ◌<◌, ℤ, pos, negsuc, eqb, Float}
use Rattle.std.proofs.Common.{ap, inl, inr, lt_irrefl, eq-or-lt_of_le, mul-pos, mul-le-mul_right, zero-lt-suc, arith, eqb→eq, ltb→lt}
use Rattle.std.proofs.Math.Path.{subst}
use Rattle.std.proofs.Math.Dec.{T, eqb_refl}
use Rattle.std.specs.Float.{nan, inf, fin, binary64}
use Rattle.std.specs.Float.Ieee.{up, down, add, mul, le, lt}
use Rattle.std.specs.Float.Ieee.Fits.{down_pos, up_pos}
use Rattle.std.specs.Float.Ieee.Nearest.{div_mono}
use Rattle.float.specs.Laws.Signed.{le→, →le, nonneg}
use Rattle.float.specs.Laws.Order.{le_total, finite_of}
use Rattle.float.specs.Laws.Intervals.{Iv, iv, In, iadd, imul, inside, add_in, mul_in, point_in_lem, inside_in}
use Rattle.root.specs.Root.{scaled, sticky, root_of}

-- ---- the cases that need no digits
abbrev pub plus_zero : Float
plus_zero = fin false 0 (pos 0)

pub root_nan : root_of nan ≡ nan
unfolding root_of
root_nan = refl

pub root_infinity : root_of (inf false) ≡ inf false
unfolding root_of
root_infinity = refl

pub root_below_zero : (x : Float) → T (lt x plus_zero) → root_of x ≡ nan
unfolding root_of lt
root_below_zero nan h = absurd h
root_below_zero (inf true) h = refl
root_below_zero (inf false) h = absurd h
root_below_zero (fin true zero e) h = absurd (lt_irrefl 0 (omega (arith, ltb→lt 0 (0 * up e * 1 + 0 * 1 * down e) h)))
root_below_zero (fin true (suc m) e) h = refl
root_below_zero (fin false m e) h = absurd (lt_irrefl 0 (omega (arith, ltb→lt (m * up e * 1) (0 * 1 * down e) h)))

-- from 0 up: no minus sign but at a zero
pub above-none : (m : ℕ) (e : ℤ) → T (le plus_zero (fin true (suc m) e)) → ⊥
above-none m e h = lt_irrefl 0 (omega (arith, le→ plus_zero (fin true (suc m) e) tt tt h, mul-pos (zero-lt-suc m) (up_pos e)))

pub nonneg-from-zero : (x : Float) → T (nonneg x) → T (le plus_zero x) × T (le x (inf false))
unfolding le
nonneg-from-zero nan h = absurd h
nonneg-from-zero (inf true) h = absurd h
nonneg-from-zero (inf false) h = (tt, tt)
nonneg-from-zero (fin true m e) h = absurd h
nonneg-from-zero (fin false m e) h = (→le plus_zero (fin false m e) tt tt (omega arith), tt)

-- ---- the order
pub sticky_mono : (n k r s : ℕ) → n ≤ k → r * r ≤ n → r ≤ s → sticky r n ≤ sticky s k
sticky_mono n k r s h l m = go (eqb (r * r) n) (eqb (s * s) k) (λ e. subst (λ (x : ℕ). T (eqb (r * r) x)) e (eqb_refl (r * r))) (eqb→eq (s * s) k) (eq-or-lt_of_le m)
  where
    go : (a b : Bool) → (r * r ≡ n → T a) → (T b → s * s ≡ k) → (r ≡ s) ⊎ (r < s) → 2 * r + cond a 0 1 ≤ 2 * s + cond b 0 1
    go true b f g (inl e) = omega arith
    go true b f g (inr e) = omega arith
    go false true f g (inl e) = absurd (f (omega (arith, ap (λ (x : ℕ). x * x) e, g tt)))
    go false true f g (inr e) = omega arith
    go false false f g (inl e) = omega arith
    go false false f g (inr e) = omega arith

pub scaled_mono : (m : ℕ) (e : ℤ) (n : ℕ) (d : ℤ) → m * up e * down d ≤ n * up d * down e → scaled m e ≤ scaled n d
unfolding scaled
scaled_mono m e n d h =
    div_mono (m * up e * 2 ^ 2150) (down e) (n * up d * 2 ^ 2150) (down d) (down_pos e) (down_pos d) (turn (m * up e) (down e) (n * up d) (down d) (2 ^ 2150) h)
  where
    turn : (a b c d k : ℕ) → a * d ≤ c * b → a * k * d ≤ c * k * b
    turn a b c d k h = omega (arith, mul-le-mul_right k h)

-- ---- the root of 1 + v * v for a v from -1 to 1 is from 1 to the root of 2
abbrev pub minus_one : Float
minus_one = fin true 1 (pos 0)

abbrev pub one : Float
one = fin false 1 (pos 0)

abbrev pub two : Float
two = fin false 1 (pos 1)

-- the root of 2, 0x3ff6a09e667f3bcd
abbrev pub root_two : Float
root_two = fin false 6369051672525773 (negsuc 51)

abbrev pub one_plus_square : Float → Float
one_plus_square v = add binary64 one (mul binary64 v v)

square_in : (I : Iv) (v : Float) → In I v → T (inside (iadd (iv one one) (imul I I)) one two) → T (le one (one_plus_square v)) × T (le (one_plus_square v) two)
square_in I v i t = inside_in (iadd (iv one one) (imul I I)) one two (one_plus_square v) t (add_in (iv one one) (imul I I) one (mul binary64 v v) (point_in_lem one) (mul_in I I v v i i))

pub unit_square : (v : Float) → T (le minus_one v) → T (le v one) → T (le one (one_plus_square v)) × T (le (one_plus_square v) two)
unfolding le mul add
unit_square v h k = elim (le_total plus_zero v tt (finite_of minus_one v one tt tt h k)) [
  | inl z ↦ square_in (iv plus_zero one) v (record { low = z; high = k; fl = tt; fh = tt }) tt
  | inr z ↦ square_in (iv minus_one plus_zero) v (record { low = h; high = z; fl = tt; fh = tt }) tt
]
