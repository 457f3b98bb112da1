use Rattle.std.proofs.Common.{◌≡◌, ap, ◌∙◌}
use lib.Ieee.{Float, binary64, div, rem, sub, mul}
use Rattle.float.specs.Functions.{min_of, trunc_of}
use Rattle.elementary.specs.Constants as K
use Rattle.elementary.specs.Functions.{rem_tau_of, quadrant_of, rest_of}
use Rattle.elementary.proofs.reduce.Goals as goal

pub returns : goal.returns
unfolding rem_tau_of quadrant_of rest_of
returns c = let t = c.args.t in
    let r : rem binary64 c.abs-r.result K.tau ≡ rem_tau_of t = ap (λ (a : Float). rem binary64 a K.tau) c.abs-r.ensures in
    let q : c.min-q.result ≡ quadrant_of (rem_tau_of t) =
    c.min-q.ensures ∙ ap (λ (a : Float). min_of a K.three) (c.trunc.ensures ∙ ap (λ (a : Float). trunc_of (div binary64 a K.frac_pi2)) r)
    in
    (q, ap (λ (a : Float). sub binary64 a (mul binary64 c.min-q.result K.frac_pi2)) r ∙ ap (λ (a : Float). sub binary64 (rem_tau_of t) (mul binary64 a K.frac_pi2)) q)
