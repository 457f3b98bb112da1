-- Which patterns are finite: those whose exponent's field is not all ones.
use Rattle.std.specs.Prelude.{None, Some}
use Rattle.std.proofs.Common.{◌≡◌, ℕ, zero, suc, ◌+◌, ◌/◌, ◌%◌, ◌^◌, Bool, true, false, cond, not, T, eqb, sym, refl, ap, ◌∙◌, subst, eq-eqb, ne_eqb}
use lib.Ieee.{Float, nan, inf, fin, binary64, odd, of_fields, of_bits, is_nan, nan_bits}
use lib.Ieee.Bits.{nan_bits_is}
use lib.Ieee.Scale.{finite}
use Rattle.stream.specs.Numbers.{float_of}

odd_finite : (d : ℕ) (s : Bool) (q k l : ℕ) → finite (odd d s q k l) ≡ true
unfolding odd
odd_finite d s zero k l = refl
odd_finite d s (suc q) k l = refl

unless : (a b s : Bool) (v : Float) → finite v ≡ true → finite (cond a (cond b (inf s) nan) v) ≡ not a
unless true true s v h = refl
unless true false s v h = refl
unless false b s v h = h

fields_finite : (s : Bool) (x t : ℕ) → finite (of_fields binary64 s x t) ≡ not (eqb x 2047)
unfolding of_fields
fields_finite s zero t = odd_finite 53 s t 0 1074
fields_finite s (suc x) t = unless (eqb (suc x) 2047) (eqb t 0) s _ (odd_finite 53 s (2 ^ 52 + t) x 1074)

bits_finite : (n : ℕ) → finite (of_bits binary64 n) ≡ not (eqb (n % 2 ^ 63 / 2 ^ 52) 2047)
unfolding of_bits
bits_finite n = fields_finite _ (n % 2 ^ 63 / 2 ^ 52) (n % 2 ^ 52)

is-value : (v : Float) → finite v ≡ true → Some v ≡ float_of v
unfolding float_of
is-value nan h = absurd (subst T (sym h) tt)
is-value (inf s) h = absurd (subst T (sym h) tt)
is-value (fin s m e) h = refl

is_none : (v : Float) → finite v ≡ false → None ≡ float_of v
unfolding float_of
is_none nan h = refl
is_none (inf s) h = refl
is_none (fin s m e) h = absurd (subst T h tt)

no_nan : (v : Float) → finite v ≡ true → T (not (is_nan v))
unfolding is_nan
no_nan nan h = absurd (subst T (sym h) tt)
no_nan (inf s) h = tt
no_nan (fin s m e) h = tt

pub all_ones : (n : ℕ) → n % 2 ^ 63 / 2 ^ 52 ≡ 2047 → None ≡ float_of (of_bits binary64 n)
all_ones n e = is_none (of_bits binary64 n) (bits_finite n ∙ ap not (eq-eqb (n % 2 ^ 63 / 2 ^ 52) 2047 e))

module _ (n : ℕ) (e : n % 2 ^ 63 / 2 ^ 52 ≡ 2047 → ⊥) where
  value_finite : finite (of_bits binary64 n) ≡ true
  value_finite = bits_finite n ∙ ap not (ne_eqb (n % 2 ^ 63 / 2 ^ 52) 2047 e)

  pub value : Some (of_bits binary64 n) ≡ float_of (of_bits binary64 n)
  value = is-value (of_bits binary64 n) value_finite

  pub readable : T (not (nan_bits binary64 n))
  readable = subst (λ (b : Bool). T (not b)) (sym (nan_bits_is binary64 n)) (no_nan (of_bits binary64 n) value_finite)
