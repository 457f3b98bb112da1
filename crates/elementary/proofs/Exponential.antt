-- The exponential from its parts: the argument in its limits, the exponent, the series of what is left, and the power
-- of 2. Assumes nothing.
use Rattle.std.proofs.Common.{◌≡◌, true, false, not, T, refl, sym, ap, ◌∙◌, subst, ap₂}
use Rattle.std.proofs.lemmas.Bool.{false≢true}
use lib.Ieee.{Float, nan, inf, fin, binary64, is_nan, sub, mul, div}
use Rattle.float.specs.Functions.{round_of}
use Rattle.elementary.specs.Constants as K
use Rattle.elementary.specs.Series.{series_of, exponential_table}
use Rattle.elementary.specs.Functions.{clamp_of, two_to, exp_at, exp_of}
use Rattle.elementary.specs.Inner.Powers.{Small}
use Rattle.elementary.specs.Laws.Exponential.{exp_nan, exponent_small}

pub of_nan : (v : Float) → is_nan v ≡ true → v ≡ exp_of v
unfolding is_nan
of_nan nan h = exp_nan nan refl
of_nan (inf s) h = absurd (false≢true h)
of_nan (fin s m e) h = absurd (false≢true h)

module _ (v w k : Float) (W : w ≡ clamp_of K.m700 K.c700 v) (E : k ≡ round_of (div binary64 w K.ln2)) where
  exponent_is : k ≡ round_of (div binary64 (clamp_of K.m700 K.c700 v) K.ln2)
  exponent_is = E ∙ ap (λ (x : Float). round_of (div binary64 x K.ln2)) W

  pub small : is_nan v ≡ false → Small k
  small h = subst Small (sym exponent_is) (exponent_small v (subst (λ b. T (not b)) (sym h) tt))

  pub made : {s p : Float} → s ≡ series_of exponential_table (sub binary64 w (mul binary64 k K.ln2)) → p ≡ two_to k → mul binary64 s p ≡ exp_of v
  unfolding exp_of exp_at
  made S P = ap₂ (mul binary64) S P ∙ ap (exp_at w) exponent_is ∙ ap (λ (x : Float). exp_at x (round_of (div binary64 (clamp_of K.m700 K.c700 v) K.ln2))) W
