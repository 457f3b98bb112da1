-- What an answer of `open_stream` stands for: document 01's number, or the registration.
use Rattle.std.specs.Prelude.{ℕ, ◌≡◌, List, Result, IfOk}
use Rattle.stream.specs.Conditions.{first_of}
use Rattle.stream.specs.Payload.{payload}
use Rattle.values.specs.declared.refusal.Refusal.{Refusal}
use Rattle.values.specs.Inner.Refusals.{number_by}
use Rattle.scene.specs.Scene.{scene_of}
use Rattle.projection.specs.declared.Registration.{Registration}
use Rattle.register.specs.declared.survey.Survey.{Survey}
use Rattle.register.specs.Register.{registration_of}
use Rattle.register.specs.Inner.Survey.{Registrable}
use Rattle.register.specs.Inner.Gathered.{KeptControls}
use Rattle.geopic.specs.Geopic.{early}

-- no early condition holds, and these are the scene's
pub record Registers (s kinds : List ℕ) (v : Survey) (r : Registration) (kept : List ℕ) : Type 0 where
  pub none : first_of (early s kinds) ≡ 0
  pub is : r ≡ registration_of (scene_of (payload s))
  pub registrable : Registrable s v
  pub controls : KeptControls (scene_of (payload s)) r.controls kept

-- the number of the first early condition that holds; the registration where none does
pub record Opens (s kinds kept : List ℕ) (o : Result (Survey × Registration) Refusal) : Type 0 where
  pub number : number_by o ≡ first_of (early s kinds)
  pub comes : IfOk o (λ p. Registers s kinds p.0 p.1 kept)
