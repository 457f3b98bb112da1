-- What a larger allowance changes where no draw fell short from a smaller one: what is left, and nothing else.
use Rattle.std.specs.Prelude.{ℕ, ◌≤◌, ◌≡◌, refl, Bool, true, false, cond, List, eqb}
use Rattle.std.proofs.Math.Path.{sym}
use Rattle.std.proofs.Common.{subst, ◌∙◌}
use Rattle.stream.specs.Payload.{payload}
use Rattle.kind_table.specs.KindTable.{entry_of}
use Rattle.scene.specs.Scene.{Scene, scene_of}
use Rattle.register.specs.Register.{register_warnings}
use Rattle.budget.specs.Budget.{allowance_of, fresh}
use Rattle.budget.specs.Laws.Allowances.{allowance-least}
use Rattle.densify.specs.Laws.Allowances.{Enough}
use Rattle.strokes.specs.Strokes.{draws_in}
use Rattle.strokes.specs.Features.{features_at, warnings_at, any_of_kind}
use Rattle.convert.specs.Laws.Allowances.{SameTrace, convert_keeps}
use Rattle.geopic.specs.Geopic.{ctx_of, trace_of, Buffers, output_of, conditions, number_of, answer_of, buffers_after}
use Rattle.geopic.specs.Laws.Conditions.{number_is}
use Rattle.geopic.specs.Laws.Scenes.{warnings_draws, answer-is, scene-spent, scene_six}

pub scene_keeps : (sc : Scene) (kinds : List ℕ) (x y : ℕ) → x ≤ y → Enough (draws_in (trace_of kinds x sc).events) → SameTrace (trace_of kinds x sc) (trace_of kinds y sc)
unfolding trace_of
scene_keeps sc kinds x y l h =
    let enough = subst Enough (warnings_draws (register_warnings sc) _) h in
    let same = convert_keeps (ctx_of sc) (entry_of kinds) sc.items (fresh x) (fresh y) (record { left = l; hit = refl }) enough in
    record { events = rw same.events; after = same.after }

-- ---- the host's call: warning 6 stands where the mark is set
marked : (b : Bool) → b ≡ eqb (cond b 1 0) 1
marked true = refl
marked false = refl

pub spent_six : (s kinds : List ℕ) (tier : ℕ) (t : Buffers) → (answer_of s kinds tier t).number ≡ 0
    → any_of_kind 6 (warnings_at (buffers_after s kinds tier t).warnings 0 (answer_of s kinds tier t).warnings) ≡ eqb (answer_of s kinds tier t).spent 1
spent_six s kinds tier t h = scene_six s kinds tier t h ∙ rw (scene-spent s kinds tier t h) (marked _)

-- ---- in the entry tier and in any other
module _ (s kinds : List ℕ) (t : Buffers) (tier : ℕ) (h : (answer_of s kinds 0 t).number ≡ 0)
    (six : any_of_kind 6 (warnings_at (buffers_after s kinds 0 t).warnings 0 (answer_of s kinds 0 t).warnings) ≡ false) where
  abbrev sc : Scene
  sc = scene_of (payload s)

  same : SameTrace (trace_of kinds (allowance_of 0) sc) (trace_of kinds (allowance_of tier) sc)
  same = scene_keeps sc kinds (allowance_of 0) (allowance_of tier) (allowance-least tier) (sym (scene_six s kinds 0 t h) ∙ six)

  same_output : output_of kinds (allowance_of tier) sc t ≡ output_of kinds (allowance_of 0) sc t
  unfolding output_of
  same_output = rw same.events

  same_number : number_of s kinds tier t ≡ number_of s kinds 0 t
  unfolding number_of conditions
  same_number = rw same_output

  pub same_buffers : buffers_after s kinds tier t ≡ buffers_after s kinds 0 t
  unfolding buffers_after
  same_buffers = rw (same_number, same_output)

  accepted : (answer_of s kinds tier t).number ≡ 0
  unfolding number_of
  accepted = number_is s kinds tier t ∙ same_number ∙ sym (number_is s kinds 0 t) ∙ h

  pub same_answer : answer_of s kinds tier t
      ≡ (let a = answer_of s kinds 0 t in
      record {
        number = a.number;
        method = a.method;
        controls = a.controls;
        spent = a.spent;
        positions = a.positions;
        features = a.features;
        warnings = a.warnings;
        left = (answer_of s kinds tier t).left;
      })
  same_answer = rw (answer-is s kinds tier t accepted, answer-is s kinds 0 t h, same_output, same.after.hit)

  pub no_less_left : (answer_of s kinds 0 t).left ≤ (answer_of s kinds tier t).left
  no_less_left = rw (answer-is s kinds tier t accepted, answer-is s kinds 0 t h) same.after.left

  pub same_features : features_at (buffers_after s kinds tier t).features (buffers_after s kinds tier t).positions 0 0 (answer_of s kinds tier t).features
      ≡ features_at (buffers_after s kinds 0 t).features (buffers_after s kinds 0 t).positions 0 0 (answer_of s kinds 0 t).features
  same_features = rw (same_buffers, same_answer)
