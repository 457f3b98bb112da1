-- Projected control points: their sums and moments one by one, the fit by its rounds, and that of the control points themselves. Assumes nothing.
use Rattle.std.specs.Prelude.{◌≡◌, refl, List, [], ◌∷◌, ◌++◌, map, ℕ, ◌+◌, length, take, pos, Option, Some, None}
use Rattle.std.specs.List.{slice_get}
use Rattle.std.specs.Float.{binary64}
use Rattle.std.specs.Float.Ieee.{of_int}
use Rattle.std.proofs.Common.{sym, ◌∙◌}
use Rattle.std.proofs.lemmas.Option.{none-some, same_Some, slice_get_within, get_or_from_slice_get}
use Rattle.std.proofs.lemmas.List.{take_more}
use Rattle.geodesy.specs.declared.Metres.{Metres}
use Rattle.geodesy.specs.Geodesy.{mercator_forward_of}
use Rattle.fit.specs.declared.Control.{Control}
use Rattle.fit.specs.declared.Fit.{Fit}
use Rattle.fit.specs.declared.ProjectedControl.{ProjectedControl}
use Rattle.fit.specs.declared.Moments.{Moments}
use Rattle.fit.specs.Fit.{projected_of, no_sums, added, sums_of, divided_by, means_of, momented, moments_of, round_of, again, fit_projected, fit_of}

-- what a loop over them has after one more
pub one_more : {S : Type 0} (F : List ProjectedControl → S) (step : S → ProjectedControl → S) → ((ms : List ProjectedControl) (m : ProjectedControl) → F (ms ++ m ∷ []) ≡ step (F ms) m)
    → (ms : List ProjectedControl) (k : ℕ) (m : ProjectedControl) {s t : S} → s ≡ F (take k ms) → Some m ≡ slice_get ms k → t ≡ step s m → t ≡ F (take (k + 1) ms)
one_more F step more ms k m e d h =
    rw (take_more ms k m (slice_get_within ms k m (sym d)), get_or_from_slice_get ms k m m (sym d), more, h, e) refl

pub sums_more : (a : Metres) (ms : List ProjectedControl) (m s : ProjectedControl) → sums_of a (ms ++ m ∷ []) s ≡ added a (sums_of a ms s) m
unfolding sums_of
sums_more a [] m s = refl
sums_more a (l ∷ ms) m s = sums_more a ms m (added a s l)

pub moments_more : (a : Metres) (c : ProjectedControl) (ms : List ProjectedControl) (m : ProjectedControl) (s : Moments) → moments_of a c (ms ++ m ∷ []) s ≡ momented a c (moments_of a c ms s) m
unfolding moments_of
moments_more a c [] m s = refl
moments_more a c (l ∷ ms) m s = moments_more a c ms m (momented a c s l)

pub means_all : (a : Metres) (ms : List ProjectedControl) {s t : ProjectedControl} → s ≡ sums_of a ms no_sums → t ≡ divided_by s (of_int binary64 (pos (length ms))) → t ≡ means_of a ms
unfolding means_of
means_all a ms e d = rw (d, e) refl

-- ---- the fit: of none, by a first round that finds none, by both
-- the first round is about the first control point's position
abbrev position : ProjectedControl → Metres
position m = record { x = m.e; y = m.n }

pub fit_none : (ms : List ProjectedControl) {r : Option Fit} → None ≡ slice_get ms 0 → r ≡ None → r ≡ fit_projected ms
unfolding fit_projected
fit_none [] e d = d
fit_none (m ∷ ms) e d = absurd (none-some m e)

first_round : (ms : List ProjectedControl) (m : ProjectedControl) → Some m ≡ slice_get ms 0 → fit_projected ms ≡ again (round_of (position m) ms) ms
unfolding fit_projected
first_round [] m e = absurd (none-some m (sym e))
first_round (l ∷ ms) m e = rw (same_Some m l e) refl

module _ (ms : List ProjectedControl) {m : ProjectedControl} {f : Option Fit} (first : Some m ≡ slice_get ms 0) (about : f ≡ round_of (position m) ms) where
  pub fit_once : {r : Option Fit} → f ≡ None → r ≡ None → r ≡ fit_projected ms
  unfolding again
  fit_once e d = d ∙ sym (first_round ms m first ∙ rw (← about, e) refl)

  pub fit_twice : {r : Option Fit} {a : Metres} {g : Fit} → f ≡ Some g → a ≡ mercator_forward_of (record { lon = g.lon; lat = g.lat }) → r ≡ round_of a ms → r ≡ fit_projected ms
  unfolding again
  fit_twice e d h = h ∙ sym (first_round ms m first ∙ rw (← about, e, d) refl)

-- ---- control points, projected
pub projected_fit : (cs : List Control) (n : ℕ) (ms : List ProjectedControl) {r : Option Fit} → take n ms ≡ map projected_of cs → r ≡ fit_projected (take n ms) → r ≡ fit_of cs
unfolding fit_of
projected_fit cs n ms d e = rw (e, d) refl
