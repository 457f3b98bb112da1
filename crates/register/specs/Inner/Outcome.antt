-- What registration answers: 0 and the registration, or the number of a refusal and zeros.
use Rattle.std.specs.Prelude.{◌≡◌, ℕ, Bool, true, false, not, ◌&&◌, List, length, eqb, Option, Some, None, Result, Ok, Err}
use Rattle.std.specs.Float.Ieee.{le, lt}
use Rattle.std.specs.Float.Ieee.Scale.{finite}
use Rattle.stream.specs.Conditions.{first_of}
use Rattle.scene.specs.Scene.{Scene}
use Rattle.values.specs.declared.Point.{Point}
use Rattle.values.specs.declared.refusal.Refusal.{Refusal}
use Rattle.values.specs.Inner.Refusals.{number_of}
use Rattle.fit.specs.declared.Fit.{Fit}
use Rattle.fit.specs.declared.Control.{Control}
use Rattle.projection.specs.declared.Registration.{Registration}
use Rattle.fit.specs.Fit.{fit_of}
use Rattle.register.specs.Register.{var, geo_frame, is_mercator, all_within_limits, anchor_within_limits, anchor_of, controls_of, f0, max_scale, above0, px_mode, scale_value, declared_at, fitted, registration_of, of_registration}

-- the number by which conditions 7 to 14 refuse a scene, 0 where they let it pass
abbrev pub register_refusal : Scene → ℕ
register_refusal sc = first_of (of_registration sc)

abbrev pub no_registration : Registration
no_registration = record { lon = f0; lat = f0; x = f0; y = f0; scale = f0; bearing = f0; method = 0; controls = 0 }

pub record Outcome : Type 0 where
  pub number : ℕ
  pub registration : Registration

abbrev pub refused_by : ℕ → Outcome
refused_by number = record { number = number; registration = no_registration }

abbrev pub accepted : Registration → Outcome
accepted r = record { number = 0; registration = r }

abbrev pub outcome_by : Result Registration Refusal → Outcome
outcome_by (Ok r) = accepted r
outcome_by (Err e) = refused_by (number_of e)

abbrev pub pick_outcome : Bool → Outcome → Outcome → Outcome
pick_outcome true a b = a
pick_outcome false a b = b

unfoldable pub outcome_of : Scene → Outcome
outcome_of sc = pick_outcome (eqb (register_refusal sc) 0) (accepted (registration_of sc)) (refused_by (register_refusal sc))

-- ---- parts of it
-- 14
unfoldable pub checked_of : Registration → Outcome
checked_of r = pick_outcome (finite r.scale && le r.scale max_scale) (accepted r) (refused_by 14)

-- 12 to 14, with fewer than two control points
unfoldable pub declared_outcome : Scene → Point → Point → ℕ → Outcome
declared_outcome sc anchor o n =
    pick_outcome (not (lt f0 (scale_value sc))) (refused_by 12)
    (pick_outcome (px_mode sc && not (above0 sc.view_scale)) (refused_by 13)
    (checked_of (declared_at sc anchor o n)))

-- 11 and 14, with more
abbrev pub fit_outcome : Option Fit → ℕ → Outcome
fit_outcome (Some f) n = checked_of (fitted f n)
fit_outcome None n = refused_by 11

unfoldable pub fitted_outcome : List Control → Outcome
fitted_outcome cs = fit_outcome (fit_of cs) (length cs)

-- conditions 7 and 8 let the scene pass
pub record Passed (sc : Scene) : Type 0 where
  pub mercator : is_mercator sc.frame (var sc geo_frame) ≡ true
  pub all : all_within_limits (controls_of sc) ≡ true
  pub anchor : anchor_within_limits (anchor_of sc) ≡ true
