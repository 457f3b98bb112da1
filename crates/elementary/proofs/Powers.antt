-- 2 ^ k by the exponent's field. Assumes nothing.
use Rattle.std.proofs.Common.{◌≡◌, ℕ, zero, suc, ◌+◌, ◌-◌, ◌*◌, ◌/◌, ◌%◌, ◌^◌, ◌≤◌, Bool, true, false, cond, not, T, leb, pos, negsuc, neg_ℤ, sym, refl, ap, ◌∙◌, subst, le_trans, arith, lit≤, le→leb}
use lib.Arith.{le→nltb, lt→nleb}
use lib.Ieee.{Float, fin, binary64, minus, odd, add, of_int, in_float, in_unsigned, to_unsigned, nan_bits, of_bits}
use lib.Ieee.Back.{unsigned_back}
use lib.Ieee.Bits.{is_true, is_false, nan_bits_above}
use lib.Ieee.Exact.{HasValue}
use Rattle.float.specs.Laws.Integers.{moved, whole-add, minus_shift}
use Rattle.float.specs.Laws.Patterns.{normal}
use Rattle.elementary.specs.Functions.{two_to}
use Rattle.elementary.specs.Inner.Powers.{Small}
use Rattle.elementary.specs.Laws.Powers.{two_to_is}

field_in : (b : Bool) (n : ℕ) → n ≤ 1010 → (13 ≤ moved b n 1023) × (moved b n 1023 ≤ 2033)
field_in true n h = (omega arith, omega arith)
field_in false n h = (omega arith, omega arith)

offset : HasValue (of_bits binary64 4652209618980700160) false 1023 1
unfolding of_bits
offset = (refl, refl)

sum_is : (k : Float) (s : Small k) → add binary64 k (of_bits binary64 4652209618980700160) ≡ of_int binary64 (pos (moved s.minus s.size 1023))
sum_is k s = whole-add k (of_bits binary64 4652209618980700160) s.minus s.size 1023 s.whole offset (let h = s.most in omega arith)

in_float_lem : (n : ℕ) → n ≤ 2033 → T (in_float binary64 (pos n))
unfolding in_float
in_float_lem n h = le→leb n (2 ^ 53) (le_trans h (lit≤ tt))

back : (k : Float) (s : Small k) → T (in_unsigned binary64 64 (add binary64 k (of_bits binary64 4652209618980700160))) × (to_unsigned 64 (add binary64 k (of_bits binary64 4652209618980700160)) ≡ moved s.minus s.size 1023)
back k s =
    let n = moved s.minus s.size 1023 in
    let r = field_in s.minus s.size s.most in
    rw (sum_is k s) (unsigned_back binary64 64 n (in_float_lem n r.1) (let h = r.1 in omega arith))

pub casts : (k : Float) (s : Small k) → T (in_unsigned binary64 64 (add binary64 k (of_bits binary64 4652209618980700160)))
casts k s = (back k s).0

pub field_small : (k : Float) (s : Small k) → (13 ≤ to_unsigned 64 (add binary64 k (of_bits binary64 4652209618980700160))) × (to_unsigned 64 (add binary64 k (of_bits binary64 4652209618980700160)) ≤ 2033)
field_small k s = rw (back k s).1 (field_in s.minus s.size s.most)

pub no_nan : (f : ℕ) → f ≤ 2033 → T (not (nan_bits binary64 (f * 4503599627370496)))
no_nan f h = subst (λ (b : Bool). T (not b)) (sym (nan_bits_above binary64 (f * 4503599627370496))) (le→nltb (2047 * 2 ^ 52) (f * 4503599627370496 % 2 ^ 63) (omega arith))

-- a field with no digits after it
power : (f : ℕ) → 13 ≤ f → f ≤ 2033 → of_bits binary64 (f * 4503599627370496) ≡ fin false 1 (minus f 1023)
unfolding odd
power f l h =
    normal (f * 4503599627370496) (omega arith) (omega arith)
    ∙ ap (λ (t : ℕ). odd 53 false (4503599627370496 + t) (f * 4503599627370496 / 4503599627370496 - 1) 1074) (none f)
    ∙ ap (λ (x : ℕ). fin false 1 (minus (x - 1 + 52) 1074)) (one f)
    ∙ ap (λ (x : ℕ). fin false 1 (minus x 1074)) (sum f l)
    ∙ ap (fin false 1) (minus_shift f 1023 51)
  where
    none : (f : ℕ) → f * 4503599627370496 % 4503599627370496 ≡ 0
    none f = omega arith

    one : (f : ℕ) → f * 4503599627370496 / 4503599627370496 ≡ f
    one f = omega arith

    sum : (f : ℕ) → 13 ≤ f → f - 1 + 52 ≡ f + 51
    sum f h = omega arith

-- 1023 + k - 1023
exponent : (b : Bool) (n : ℕ) → n ≤ 1010 → minus (moved b n 1023) 1023 ≡ cond b (neg_ℤ (pos n)) (pos n)
exponent false n h = ap (λ (t : Bool). cond t (pos (1023 + n - 1023)) (negsuc (1023 - suc (1023 + n)))) (is_true (leb 1023 (1023 + n)) (le→leb 1023 (1023 + n) (omega arith))) ∙ ap pos (plain n)
  where
    plain : (n : ℕ) → 1023 + n - 1023 ≡ n
    plain n = omega arith
exponent true zero h = refl
exponent true (suc n) h =
    ap (λ (t : Bool). cond t (pos (1023 - suc n - 1023)) (negsuc (1023 - suc (1023 - suc n)))) (is_false (leb 1023 (1023 - suc n)) (lt→nleb 1023 (1023 - suc n) (omega arith)))
    ∙ ap negsuc (plain n h)
  where
    plain : (n : ℕ) → suc n ≤ 1010 → 1023 - suc (1023 - suc n) ≡ n
    plain n h = omega arith

pub two_to_read : (k : Float) (s : Small k) → of_bits binary64 (to_unsigned 64 (add binary64 k (of_bits binary64 4652209618980700160)) * 4503599627370496) ≡ two_to k
two_to_read k s =
    let r = field_in s.minus s.size s.most in
    ap (λ (f : ℕ). of_bits binary64 (f * 4503599627370496)) (back k s).1
    ∙ power (moved s.minus s.size 1023) r.0 r.1
    ∙ ap (fin false 1) (exponent s.minus s.size s.most)
    ∙ sym (two_to_is k s.minus s.size s.whole)
