-- The bit patterns of the positive normal values of binary64: what number each stands for. Assumes nothing.
use Rattle.std.specs.Prelude.{◌≡◌, refl, ℕ, suc, ◌+◌, ◌-◌, ◌/◌, ◌%◌, ◌≤◌, ◌<◌, false, cond, T, leb, eqb}
use Rattle.std.proofs.Common.{sym, ap, ◌∙◌, lt_of_lt_of_le, arith, lit≤, eqb→eq}
use Rattle.std.proofs.Math.Dec.{not_T}
use Rattle.std.specs.Float.{nan, inf, binary64}
use Rattle.std.specs.Float.Ieee.{odd, of_fields, of_bits}
use Rattle.std.specs.Float.Ieee.Bits.{cond_no}
use Rattle.float.specs.Laws.Units.{plus_fields}

pub of_bits_is : (b : ℕ) → of_bits binary64 b ≡ of_fields binary64 (leb 9223372036854775808 b) (b % 9223372036854775808 / 4503599627370496) (b % 4503599627370496)
unfolding of_bits
of_bits_is b = refl

differ : (x : ℕ) → suc x < 2047 → suc x ≡ 2047 → ⊥
differ x h e = omega arith

under_ones : (t x : ℕ) → suc x < 2047 → of_fields binary64 false (suc x) t ≡ odd 53 false (4503599627370496 + t) x 1074
unfolding of_fields
under_ones t x h = cond_no (eqb (suc x) 2047) (cond (eqb t 0) (inf false) nan) (odd 53 false (4503599627370496 + t) x 1074) (not_T (eqb (suc x) 2047) (λ (u : T (eqb (suc x) 2047)). differ x h (eqb→eq (suc x) 2047 u)))

field : (b : ℕ) → 4503599627370496 ≤ b → suc (b / 4503599627370496 - 1) ≡ b / 4503599627370496
field b h = omega arith

field_lt : (b : ℕ) → 4503599627370496 ≤ b → b < 9218868437227405312 → suc (b / 4503599627370496 - 1) < 2047
field_lt b h k = omega arith

-- 9218868437227405312 is 2047 * 2 ^ 52, the pattern of the infinity
pub normal : (b : ℕ) → 4503599627370496 ≤ b → b < 9218868437227405312 → of_bits binary64 b ≡ odd 53 false (4503599627370496 + b % 4503599627370496) (b / 4503599627370496 - 1) 1074
normal b h k =
    plus_fields b (lt_of_lt_of_le k (lit≤ tt))
    ∙ ap (λ (x : ℕ). of_fields binary64 false x (b % 4503599627370496)) (sym (field b h))
    ∙ under_ones (b % 4503599627370496) (b / 4503599627370496 - 1) (field_lt b h k)
