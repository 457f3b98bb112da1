-- A value of the format is settled by its sign and the number it stands for, and it is its own rounding. Assumes
-- nothing.
use Rattle.std.specs.Prelude.{◌≡◌, refl, Bool, ◌&&◌, cond, ℕ, zero, suc, ◌+◌, ◌-◌, ◌*◌, ◌/◌, ◌%◌, ◌^◌, ◌<◌, ℤ, T, leb, ltb, eqb, Float}
use Rattle.std.proofs.Common.{sym, ap, ◌∙◌, arith, ltb→lt, pow_pos}
use native.Mathlib.Nat.{eq_of_mul-eq-mul_right}
use Rattle.std.specs.Float.{nan, inf, fin, binary64}
use Rattle.std.specs.Float.Ieee.{up, down, size, round, fits, of_bits, to_bits, top}
use Rattle.std.specs.Float.Ieee.Bits.{of_bits-to_bits}
use Rattle.std.specs.Float.Ieee.Fits.{and_r, down_pos, round-fits}
use Rattle.std.specs.Float.Ieee.Exact.{HasValue}
use Rattle.std.specs.Float.Ieee.Nearest.{div_same}
use Rattle.float.specs.Laws.Remainder.{exact_at, fits_digits}

cross : (x y d e a c : ℕ) → 0 < c → x * c ≡ a * d → y * c ≡ a * e → x * 2 ^ 1074 * e ≡ y * 2 ^ 1074 * d
cross x y d e a c C p q =
    eq_of_mul-eq-mul_right c C (x * 2 ^ 1074 * e) (y * 2 ^ 1074 * d)
    (turn x (2 ^ 1074) e c ∙ ap (λ (j : ℕ). j * (2 ^ 1074 * e)) p ∙ swap a d e (2 ^ 1074) ∙ ap (λ (j : ℕ). j * (2 ^ 1074 * d)) (sym q) ∙ sym (turn y (2 ^ 1074) d c))
  where
    turn : (x k e c : ℕ) → x * k * e * c ≡ x * c * (k * e)
    turn x k e c = omega arith

    swap : (a d e k : ℕ) → a * d * (k * e) ≡ a * e * (k * d)
    swap a d e k = omega arith

pub same_value : (x y : Float) (s : Bool) (a c : ℕ) → 0 < c → T (fits binary64 x) → T (fits binary64 y) → HasValue x s a c → HasValue y s a c → x ≡ y
unfolding to_bits
same_value nan y s a c C f g h k = absurd h
same_value (inf t) y s a c C f g h k = absurd h
same_value (fin t m e) nan s a c C f g h k = absurd k
same_value (fin t m e) (inf u) s a c C f g h k = absurd k
same_value (fin t m e) (fin u n d) s a c C f g h k =
    sym (of_bits-to_bits binary64 (fin t m e) f) ∙ ap (of_bits binary64) bits ∙ of_bits-to_bits binary64 (fin u n d) g
  where
    bits : to_bits binary64 (fin t m e) ≡ to_bits binary64 (fin u n d)
    bits =
        ap (λ (b : Bool). cond b (top binary64) 0 + (size (m * up e * 2 ^ 1074 / down e) - 53) * 2 ^ 52 + m * up e * 2 ^ 1074 / down e / 2 ^ (size (m * up e * 2 ^ 1074 / down e) - 53)) (h.0 ∙ sym k.0)
        ∙ ap (λ (j : ℕ). cond u (top binary64) 0 + (size j - 53) * 2 ^ 52 + j / 2 ^ (size j - 53))
        (div_same (m * up e * 2 ^ 1074) (down e) (n * up d * 2 ^ 1074) (down d) (down_pos e) (down_pos d) (cross (m * up e) (n * up d) (down e) (down d) a c C h.1 k.1))

-- below the format's end
pub fits_top : (s : Bool) (m : ℕ) (e : ℤ) → T (fits binary64 (fin s m e)) → m * up e < 2 ^ 1024 * down e
unfolding fits
fits_top s zero e t = none (up e) (down e) (down_pos e)
  where
    none : (u d : ℕ) → 0 < d → 0 * u < 2 ^ 1024 * d
    none u d h = native.Mathlib.Nat.lt_of_le_of_lt (native.Mathlib.Nat.le_of_eq (native.Mathlib.Nat.zero-mul u)) (native.Mathlib.Nat.mul-pos (pow_pos 1024) h)
fits_top s (suc m) e t =
    let A = eqb (suc m % 2) 1 in
    let B = ltb (suc m) (2 ^ 53) in
    let C = leb (down e) (2 ^ 1074) in
    let E = ltb (suc m * up e) (2 ^ 1024 * down e) in
    ltb→lt (suc m * up e) (2 ^ 1024 * down e) (and_r (A && B && C) E t)

pub own_round : (s : Bool) (m : ℕ) (e : ℤ) → T (fits binary64 (fin s m e)) → round binary64 s (m * up e) (down e) ≡ fin s m e
own_round s m e t =
    let w = fits_digits s m e t in
    same_value (round binary64 s (m * up e) (down e)) (fin s m e) s (m * up e) (down e) (down_pos e) (round-fits binary64 s (m * up e) (down e)) t
    (exact_at s m e w.0 w.1 (fits_top s m e t)) (refl, refl)
