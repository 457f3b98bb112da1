-- What has been gathered stands for the list of control points, and each return of `register` answers outcome_of.
use borrow.Author.Tests.{lt-ltb, le-ltb, ne_eqb, ltb-true, ltb-false}
use Rattle.std.specs.Prelude.{◌≡◌, ◌⊎◌, Bool, true, false, not, ◌&&◌, cond, List, [], ◌∷◌, ℕ, ◌≤◌, ◌<◌, take, get_or, eqb, ltb, Option, None, Some, is_some, unwrap_or}
use Rattle.std.proofs.Math.Path.{refl, sym}
use Rattle.std.proofs.Common.{◌∙◌, inl, inr, ⊎_elim, arith}
use Rattle.std.proofs.Math.ListN.{length}
use Rattle.std.specs.Float.Ieee.{lt, le}
use Rattle.std.specs.Float.Ieee.Scale.{finite}
use Rattle.stream.specs.Conditions.{first_of}
use Rattle.stream.specs.Laws.Conditions.{Numbered}
use Rattle.scene.specs.Scene.{Scene}
use Rattle.values.specs.declared.Point.{Point}
use Rattle.fit.specs.declared.Control.{Control}
use Rattle.fit.specs.declared.Fit.{Fit}
use Rattle.projection.specs.declared.Registration.{Registration}
use Rattle.fit.specs.Fit.{fit_of}
use Rattle.register.specs.declared.controls.Tally.{Tally}
use Rattle.register.specs.declared.declared.Declared.{Declared}
use Rattle.register.specs.Register.{f0, max_scale, var, geo_frame, is_mercator, all_within_limits, anchor_within_limits, anchor_of, controls_of, scale_value, px_mode, above0, declared_at, fitted, no_fit, registration_by, registration_of, of_registration}
use Rattle.register.specs.Inner.Outcome.{Outcome, accepted, refused_by, pick_outcome, outcome_of, checked_of, declared_outcome, fit_outcome, fitted_outcome, Passed}
use Rattle.register.specs.Inner.Survey.{Declares}
use Rattle.register.specs.Inner.Gathered.{up_to65, Holds}

-- ---- what has been gathered
up_to : (n : ℕ) → ((n ≤ 64) × (up_to65 n ≡ n)) ⊎ ((64 < n) × (up_to65 n ≡ 65))
up_to n = by (ltb 64 n) refl
  where
    by : (b : Bool) → ltb 64 n ≡ b → ((n ≤ 64) × (up_to65 n ≡ n)) ⊎ ((64 < n) × (up_to65 n ≡ 65))
    by true e = inr (ltb-true 64 n e, rw e)
    by false e = inl (ltb-false 64 n e, rw e)

module _ {cs : List Control} {js : List ℕ} {g : Tally} {held : List Control} {kept : List ℕ} (h : Holds true cs js g held kept) where
  pub counted : g.n ≤ 64 → length cs ≡ g.n
  counted few = ⊎_elim (λ w. omega (arith, w, h.count)) (λ w. absurd (omega (arith, w, h.count))) (up_to (length cs))

  pub over : 64 < g.n → 64 < length cs
  over many = ⊎_elim (λ w. absurd (omega (arith, w, h.count))) (λ w. w.0) (up_to (length cs))

  pub all-kept : g.n ≤ 64 → take g.n held ≡ cs
  all-kept few =
      let e = counted few in
      rw e at (h.controls refl (omega arith))

  pub keeps : g.n ≤ 64 → take (length cs) kept ≡ js
  keeps few = h.numbers refl (omega (arith, counted few))

-- ---- none and one, by how many there are
pub none_of : (cs : List Control) → length cs < 1 → cs ≡ []
none_of [] h = refl
none_of (c ∷ cs) h = absurd (omega arith)

pub one_of : (cs : List Control) (d : Control) → 1 ≤ length cs → length cs < 2 → cs ≡ get_or cs 0 d ∷ []
one_of [] d h k = absurd (omega arith)
one_of (c ∷ []) d h k = refl
one_of (c ∷ b ∷ cs) d h k = absurd (omega arith)

-- ---- each return of `register`
pub registration_numbered : (sc : Scene) → Numbered (of_registration sc)
unfolding of_registration
registration_numbered sc =
    (omega arith, (omega arith, (omega arith, (omega arith, (omega arith, (omega arith, (omega arith, (omega arith, tt))))))))

-- the number k of a refusal, 0 for the registration r
abbrev answer : ℕ → Registration → Outcome
answer k r = pick_outcome (eqb k 0) (accepted r) (refused_by k)

-- 14 does not hold
abbrev fine : Registration → Bool
fine r = finite r.scale && le r.scale max_scale

checked-answer : (r : Registration) → checked_of r ≡ answer (cond (not (fine r)) 14 0) r
unfolding checked_of
checked-answer r = by (fine r)
  where
    by : (b : Bool) → pick_outcome b (accepted r) (refused_by 14) ≡ answer (cond (not b) 14 0) r
    by true = refl
    by false = refl

-- one condition before others
first-answer : (b : Bool) (k m : ℕ) (o : Outcome) (r : Registration) → eqb k 0 ≡ false → o ≡ answer m r → pick_outcome b (refused_by k) o ≡ answer (cond b k m) r
first-answer true k m o r q e = rw q
first-answer false k m o r q e = e

declared_answer : (sc : Scene) (a o : Point) (n : ℕ) →
    declared_outcome sc a o n ≡ answer (cond (not (lt f0 (scale_value sc))) 12 (cond (px_mode sc && not (above0 sc.view_scale)) 13 (cond (not (fine (declared_at sc a o n))) 14 0))) (declared_at sc a o n)
unfolding declared_outcome
declared_answer sc a o n =
    let r = declared_at sc a o n in
    first-answer (not (lt f0 (scale_value sc))) 12 _ _ r refl (first-answer (px_mode sc && not (above0 sc.view_scale)) 13 _ _ r refl (checked-answer r))

registered_fit : (sc : Scene) (m : Option Point) (cs : List Control) → 2 ≤ length cs → registration_by sc m cs ≡ fitted (unwrap_or (fit_of cs) no_fit) (length cs)
unfolding registration_by
registered_fit sc m [] h = absurd (omega arith)
registered_fit sc m (c ∷ []) h = absurd (omega arith)
registered_fit sc m (c ∷ d ∷ cs) h = refl

pub not-mercator : (sc : Scene) → is_mercator sc.frame (var sc geo_frame) ≡ false → refused_by 7 ≡ outcome_of sc
unfolding outcome_of of_registration first_of
not-mercator sc h = rw h

pub beyond_limits : (sc : Scene) → is_mercator sc.frame (var sc geo_frame) ≡ true → all_within_limits (controls_of sc) ≡ false → refused_by 8 ≡ outcome_of sc
unfolding outcome_of of_registration first_of
beyond_limits sc m h = rw (m, h)

pub beyond_limits_anchor : (sc : Scene) → is_mercator sc.frame (var sc geo_frame) ≡ true → all_within_limits (controls_of sc) ≡ true → anchor_within_limits (anchor_of sc) ≡ false → refused_by 8 ≡ outcome_of sc
unfolding outcome_of of_registration first_of
beyond_limits_anchor sc m all h = rw (m, all, h)

-- by what the code tests
pub passed : {sc : Scene} {d : Declared} {js : List ℕ} {g : Tally} {held : List Control} {kept : List ℕ} {b : Bool} → Declares sc d → Holds true (controls_of sc) js g held kept
    → d.mercator ≡ true → g.within ≡ true → b ≡ anchor_within_limits d.anchor → b ≡ true → Passed sc
passed x h m w e f = record { mercator = sym x.mercator ∙ m; all = sym h.within ∙ w; anchor = rw (← x.anchor) (sym e ∙ f) }

module _ {sc : Scene} (p : Passed sc) where
  pub too_many : 64 < length (controls_of sc) → refused_by 9 ≡ outcome_of sc
  unfolding outcome_of of_registration first_of
  too_many h = rw (p.mercator, p.all, p.anchor, lt-ltb 64 (length (controls_of sc)) h)

  pub by_fit : 2 ≤ length (controls_of sc) → length (controls_of sc) ≤ 64 → fitted_outcome (controls_of sc) ≡ outcome_of sc
  unfolding outcome_of of_registration first_of fitted_outcome registration_of
  by_fit h k =
      let n = length (controls_of sc) in
      rw
      (p.mercator, p.all, p.anchor, le-ltb 64 n k, ne_eqb n 0 (λ e. omega arith), le-ltb n 2 h, registered_fit sc (anchor_of sc) (controls_of sc) h)
      (go (fit_of (controls_of sc)))
    where
      go : (f : Option Fit) → fit_outcome f (length (controls_of sc))
          ≡ answer (cond (not (is_some f)) 11 (cond (not (fine (fitted (unwrap_or f no_fit) (length (controls_of sc))))) 14 0)) (fitted (unwrap_or f no_fit) (length (controls_of sc)))
      go None = refl
      go (Some f) = checked-answer (fitted f (length (controls_of sc)))

  pub by_one : (c : Control) → controls_of sc ≡ c ∷ [] → declared_outcome sc (record { x = c.lon; y = c.lat }) (record { x = c.x; y = c.y }) 1 ≡ outcome_of sc
  unfolding outcome_of of_registration first_of registration_of registration_by
  by_one c e = rw (p.mercator, p.all, p.anchor, e) (declared_answer sc _ _ 1)

  pub no_anchor : controls_of sc ≡ [] → anchor_of sc ≡ None → refused_by 10 ≡ outcome_of sc
  unfolding outcome_of of_registration first_of
  no_anchor e a = rw (p.mercator, p.all, p.anchor, e, a)

  pub by_anchor : (q : Point) → controls_of sc ≡ [] → anchor_of sc ≡ Some q → declared_outcome sc q (record { x = f0; y = f0 }) 0 ≡ outcome_of sc
  unfolding outcome_of of_registration first_of registration_of registration_by
  by_anchor q e a = rw (p.mercator, p.all, p.anchor, e, a) (declared_answer sc q _ 0)
