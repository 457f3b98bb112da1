-- What the comparison asks: refusals 1 to 14 and 19 in one number, and the warnings where there is none.
use Rattle.std.specs.Prelude.{◌≡◌, List, ℕ, true, eqb, Result, Ok, Err, IfOk}
use Rattle.stream.specs.Payload.{payload}
use Rattle.values.specs.declared.refusal.Refusal.{Refusal}
use Rattle.records.specs.Inner.Refusals.{refusal_of}
use Rattle.scene.specs.Scene.{scene_of}
use Rattle.projection.specs.declared.Registration.{Registration}
use Rattle.register.specs.declared.survey.Survey.{Survey}
use Rattle.register.specs.Register.{register_warnings}
use Rattle.register.specs.Inner.Survey.{Registrable}
use Rattle.register.specs.Inner.Gathered.{KeptControls}
use Rattle.register.specs.Inner.Outcome.{Outcome, pick_outcome, refused_by, outcome_by, outcome_of}
use Rattle.values.specs.Inner.Warnings.{WarningCursor, WarningSlice, pick_slice, all_pushed}
use Rattle.test_host.specs.declared.register_calls.Outcome as code-outcome
use Rattle.test_host.specs.declared.register_calls.WarningCursor as code-cursor

-- ---- the C structs
abbrev pub outcome_in : code-outcome.Outcome → Outcome
outcome_in r = record { number = r.number; registration = r.registration }

abbrev pub cursor_in : code-cursor.WarningCursor → WarningCursor
cursor_in r = record { ok = r.ok; used = r.used }

-- ---- what they answer
unfoldable pub answer_of : List ℕ → Outcome
answer_of s = pick_outcome (eqb (refusal_of s) 0) (outcome_of (scene_of (payload s))) (refused_by (refusal_of s))

abbrev pub nothing : List ℕ → WarningSlice
nothing out = record { out = out; cursor = record { ok = true; used = 0 } }

unfoldable pub warned_of : List ℕ → List ℕ → WarningSlice
warned_of s out = pick_slice (eqb (answer_of s).number 0) (all_pushed (register_warnings (scene_of (payload s))) (nothing out)) (nothing out)

-- ---- what a stream comes to before its warnings
pub record Opened (s kept : List ℕ) (v : Survey) (r : Registration) : Type 0 where
  pub registrable : Registrable s v
  pub controls : KeptControls (scene_of (payload s)) r.controls kept

abbrev pub registration_in : Result (Survey × Registration) Refusal → Result Registration Refusal
registration_in (Ok p) = Ok p.1
registration_in (Err r) = Err r

pub record Opens (s kept : List ℕ) (o : Result (Survey × Registration) Refusal) : Type 0 where
  pub is : outcome_by (registration_in o) ≡ answer_of s
  pub comes : IfOk o (λ p. Opened s kept p.0 p.1)
