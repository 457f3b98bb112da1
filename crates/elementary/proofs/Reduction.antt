-- The sine and the cosine of t, from its quadrant q and the angle u that is left in it. Assumes nothing.
use Rattle.std.proofs.Common.{◌≡◌, true, false, ap, ◌∙◌}
use lib.Ieee.{Float, lt, neg}
use Rattle.float.specs.Laws.Tests.{taken, left}
use Rattle.elementary.specs.Constants as K
use Rattle.elementary.specs.Functions.{rem_tau_of, quadrant_of, rest_of, sine_at, cosine_at, sin_of, cos_of}

module _ (t q u v : Float) (p : (q ≡ quadrant_of (rem_tau_of t)) × (u ≡ rest_of (rem_tau_of t))) where
  parts : (f : Float → Float → Float) → v ≡ f q u → v ≡ f (quadrant_of (rem_tau_of t)) (rest_of (rem_tau_of t))
  parts f e = e ∙ ap (λ (a : Float). f a u) p.0 ∙ ap (f (quadrant_of (rem_tau_of t))) p.1

  pub cosine_is : v ≡ cosine_at q u → v ≡ cos_of t
  unfolding cos_of
  cosine_is e = parts cosine_at e

  -- the sine, by the sign of t
  pub sine_below : v ≡ sine_at q u → lt t K.zero ≡ true → neg v ≡ sin_of t
  unfolding sin_of
  sine_below e h = ap neg (parts sine_at e) ∙ taken _ _ _ h

  pub sine_above : v ≡ sine_at q u → lt t K.zero ≡ false → v ≡ sin_of t
  unfolding sin_of
  sine_above e h = parts sine_at e ∙ left _ _ _ h
