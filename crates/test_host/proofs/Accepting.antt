-- What an accepted registration says of the scene.
use Rattle.std.specs.Prelude.{◌≡◌, refl, ℕ, Bool, true, false, length, eqb}
use Rattle.std.proofs.Common.{sym, ap}
use Rattle.std.proofs.lemmas.Bool.{eqb-false}
use Rattle.scene.specs.Scene.{Scene}
use Rattle.projection.specs.declared.Registration.{Registration}
use Rattle.register.specs.Register.{controls_of}
use Rattle.register.specs.Inner.Outcome.{Outcome, register_refusal, accepted, refused_by, pick_outcome, outcome_of}
use Rattle.register.specs.Laws.Kept.{controls_are}

-- it, and no refusal, was picked
taken : (b : Bool) (n : ℕ) {r t : Registration} → b ≡ eqb n 0 → accepted r ≡ pick_outcome b (accepted t) (refused_by n) → r ≡ t
taken true n p e = ap (λ (o : Outcome). o.registration) e
taken false n p e = absurd (eqb-false n 0 (sym p) (sym (ap (λ (o : Outcome). o.number) e)))

pub counted : (sc : Scene) {r : Registration} → accepted r ≡ outcome_of sc → r.controls ≡ length (controls_of sc)
unfolding outcome_of
counted sc e = controls_are sc (taken (eqb (register_refusal sc) 0) (register_refusal sc) refl e)
