-- How many control points a registration has: as many as the scene, and as many numbers of names are kept.
use Rattle.std.specs.Prelude.{◌≡◌, refl, List, [], ◌∷◌, ℕ, suc, ◌≤◌, length, Option}
use Rattle.std.proofs.Common.{ap, arith, length-take}
use Rattle.values.specs.declared.Point.{Point}
use Rattle.scene.specs.Scene.{Scene}
use Rattle.fit.specs.declared.Control.{Control}
use Rattle.projection.specs.declared.Registration.{Registration}
use Rattle.register.specs.Register.{Event, control, warn, events, controls_in, controls_of, anchor_of, registration_by, registration_of}
use Rattle.register.specs.Inner.Gathered.{numbers_in, Kept, KeptControls}

counted : (sc : Scene) (a : Option Point) (cs : List Control) → (registration_by sc a cs).controls ≡ length cs
unfolding registration_by
counted sc a [] = refl
counted sc a (c ∷ []) = refl
counted sc a (c ∷ d ∷ cs) = refl

pub controls_are : (sc : Scene) {r : Registration} → r ≡ registration_of sc → r.controls ≡ length (controls_of sc)
unfolding registration_of
controls_are sc e = rw e (counted sc (anchor_of sc) (controls_of sc))

pub numbers_length : (j : ℕ) (es : List Event) → length (numbers_in j es) ≡ length (controls_in es)
unfolding numbers_in controls_in
numbers_length j [] = refl
numbers_length j (control c ∷ es) = ap suc (numbers_length (suc j) es)
numbers_length j (warn w ∷ es) = numbers_length (suc j) es

kept_few : (sc : Scene) (kept : List ℕ) → length kept ≡ 64 → Kept sc kept → length (controls_of sc) ≤ 64
unfolding controls_of
kept_few sc kept n h = omega (arith, ap length h, numbers_length 0 (events sc), length-take (length (controls_in (events sc))) kept)

pub controls_few : {sc : Scene} {n : ℕ} {kept : List ℕ} → KeptControls sc n kept → n ≤ 64
controls_few h = omega (arith, h.count, kept_few _ _ h.kept-room h.numbers)

pub controls_fit : {sc : Scene} {n : ℕ} {kept : List ℕ} → KeptControls sc n kept → n ≤ length kept
controls_fit h = omega (arith, controls_few h, h.kept-room)
