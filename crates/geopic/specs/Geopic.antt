-- The host's call: its answer, and what each of the four lent slices holds after it, for every stream, every kind table, every tier and every length of the slices.
use Rattle.std.specs.Prelude.{ℕ, zero, suc, ◌/◌, Bool, true, false, cond, List, [], ◌∷◌, ◌++◌, map, length, eqb, Float}
use Rattle.stream.specs.Conditions.{Condition, first_of}
use Rattle.stream.specs.Payload.{payload}
use Rattle.records.specs.Conditions.{of_stream}
use Rattle.kind_table.specs.KindTable.{entry_of, of_kind_table}
use Rattle.scene.specs.Scene.{Scene, scene_of}
use Rattle.projection.specs.declared.Registration.{Registration}
use Rattle.projection.specs.Projection.{projection_of}
use Rattle.register.specs.Register.{f0, registration_of, of_registration, register_warnings}
use Rattle.budget.specs.declared.Budget.{Budget}
use Rattle.budget.specs.Budget.{allowance_of, fresh}
use Rattle.strokes.specs.declared.state.Ctx.{Ctx}
use Rattle.convert.specs.Convert.{convert_of}
use Rattle.strokes.specs.Strokes.{warned, Trace}
use Rattle.strokes.specs.Space.{Output, apply_all, of_space}
use Rattle.geopic.specs.declared.Answer.{Answer}

-- ---- what a scene draws
abbrev pub ctx_of : Scene → Ctx
ctx_of sc = record { projection = projection_of (registration_of sc); step = sc.step; flatten = sc.flatten }

-- the registration's warnings, then everything that its items draw, by the kind table, from so many vertices
unfoldable pub trace_of : List ℕ → ℕ → Scene → Trace
trace_of kinds allowance sc =
    let t = convert_of (entry_of kinds) (ctx_of sc) sc.items (fresh allowance) in
    record { events = map warned (register_warnings sc) ++ t.events; after = t.after }

-- ---- what is lent, and the sheet that comes of it
pub record Buffers : Type 0 where
  pub work : List Float
  pub positions : List Float
  pub features : List ℕ
  pub warnings : List ℕ

abbrev pub buffers_by : List Float → List Float → List ℕ → List ℕ → Buffers
buffers_by work positions features warnings = record { work = work; positions = positions; features = features; warnings = warnings }

abbrev pub unused : Buffers → Output
unused t =
    record {
      work = length t.work;
      positions = t.positions;
      features = t.features;
      warnings = t.warnings;
      used_positions = 0;
      used_features = 0;
      used_warnings = 0;
      number = 0;
    }

unfoldable pub output_of : List ℕ → ℕ → Scene → Buffers → Output
output_of kinds allowance sc t = apply_all (trace_of kinds allowance sc).events (unused t)

-- ---- document 01's eighteen conditions, and 19 and 20 of 02, in the order of checking
-- those that are checked before the lent slices are looked at: 20 of the kind table, 1 to 5, 19 and 6 of the stream,
-- 7 to 14 of the registration
unfoldable pub early : List ℕ → List ℕ → List Condition
early s kinds = of_kind_table kinds ++ (of_stream s ++ of_registration (scene_of (payload s)))

-- and 15 to 18: the first thing that lacks room
unfoldable pub conditions : List ℕ → List ℕ → ℕ → Buffers → List Condition
conditions s kinds tier t = early s kinds ++ of_space (output_of kinds (allowance_of tier) (scene_of (payload s)) t)

unfoldable pub number_of : List ℕ → List ℕ → ℕ → Buffers → ℕ
number_of s kinds tier t = first_of (conditions s kinds tier t)

-- ---- the answer
-- a refusal's number, and zero for everything else
abbrev pub refusal : ℕ → Answer
refusal n = record { number = n; method = 0; controls = 0; spent = 0; positions = 0; features = 0; warnings = 0; left = 0 }

-- method, control points, used counts, what is left of the allowance, and whether it was spent
abbrev pub acceptance : Registration → Output → Budget → Answer
acceptance r u b =
    record {
      number = 0;
      method = r.method;
      controls = r.controls;
      spent = cond b.hit 1 0;
      positions = u.used_positions / 2;
      features = u.used_features / 6;
      warnings = u.used_warnings / 2;
      left = b.left;
    }

abbrev pub pick_answer : Bool → Answer → Answer → Answer
pick_answer true a b = a
pick_answer false a b = b

unfoldable pub answer_of : List ℕ → List ℕ → ℕ → Buffers → Answer
answer_of s kinds tier t =
    let sc = scene_of (payload s) in
    let allowance = allowance_of tier in
    let n = number_of s kinds tier t in
    pick_answer (eqb n 0) (acceptance (registration_of sc) (output_of kinds allowance sc t) (trace_of kinds allowance sc).after) (refusal n)

-- ---- the slices
unfoldable pub clear : {A : Type 0} → A → ℕ → List A
clear z zero = []
clear z (suc n) = z ∷ clear z n

abbrev pub pick_list : {A : Type 0} → Bool → List A → List A → List A
pick_list true a b = a
pick_list false a b = b

-- by the number of the first early condition, and of the first of all: an early one leaves a slice as it is, a later one clears it
unfoldable pub slice_by : {A : Type 0} → ℕ → ℕ → A → List A → List A → List A
slice_by first n z before written = pick_list (eqb first 0) (pick_list (eqb n 0) written (clear z (length before))) before

-- an accepted call clears work too; the others hold what was written, and their tails are as they were
unfoldable pub buffers_after : List ℕ → List ℕ → ℕ → Buffers → Buffers
buffers_after s kinds tier t =
    let first = first_of (early s kinds) in
    let n = number_of s kinds tier t in
    let u = output_of kinds (allowance_of tier) (scene_of (payload s)) t in
    record {
      work = slice_by first n f0 t.work (clear f0 (length t.work));
      positions = slice_by first n f0 t.positions u.positions;
      features = slice_by first n 0 t.features u.features;
      warnings = slice_by first n 0 t.warnings u.warnings;
    }
