-- What the host's call draws and answers, case by case. Assumes nothing.
use Rattle.std.specs.Prelude.{ℕ, ◌+◌, ◌≡◌, Bool, cond, List, [], ◌∷◌, map, length, leb, Float, Result, Ok, Err}
use Rattle.std.proofs.Math.Path.{refl}
use Rattle.std.proofs.Common.{sym, ap, subst, ◌∙◌, arith}
use Rattle.std.proofs.Math.Bool.{true, false}
use Rattle.std.proofs.Math.Dec.{eqb}
use borrow.Author.Tests.{leb-true, leb-false, eq-eqb, ne_eqb, eqb-true, eqb-false}
use Rattle.stream.specs.Conditions.{first_of}
use Rattle.stream.specs.Payload.{payload}
use Rattle.records.specs.Inner.Refusals.{refusal_of}
use Rattle.kind_table.specs.KindTable.{entry_of, unusable, of_kind_table}
use Rattle.kind_table.specs.Laws.KindTable.{refused_table}
use Rattle.scene.specs.Scene.{Scene, scene_of}
use Rattle.scene.specs.Inner.Answers.{items_at}
use Rattle.scene.specs.Laws.Answers.{scene_lists}
use Rattle.projection.specs.declared.Projection.{Projection}
use Rattle.projection.specs.declared.Registration.{Registration}
use Rattle.projection.specs.Projection.{projection_of}
use Rattle.values.specs.declared.refusal.Refusal.{Refusal}
use Rattle.values.specs.declared.refusal.Refusal.TheVariants.{WarningRoom}
use Rattle.values.specs.Inner.Refusals as refusals
use Rattle.register.specs.declared.survey.Survey.{Survey}
use Rattle.register.specs.Inner.Survey.{Surveyed}
use Rattle.register.specs.Inner.Gathered.{Kept}
use Rattle.register.specs.Register.{f0, registration_of, register_warnings}
use Rattle.values.specs.Warnings.{Warning}
use Rattle.register.specs.Inner.Outcome.{Outcome, outcome_by, register_refusal, accepted, refused_by, pick_outcome, outcome_of}
use Rattle.register.specs.Laws.Kept.{controls_are}
use Rattle.register.specs.Laws.Registrable.{is_registrable}
use Rattle.values.specs.Inner.Warnings.{WarningSlice, pushed, all_pushed}
use Rattle.budget.specs.declared.Budget.{Budget}
use Rattle.budget.specs.Budget.{allowance_of, fresh}
use Rattle.budget.specs.Laws.Allowances.{allowance-most}
use Rattle.values.specs.Slices.{put}
use Rattle.geopic.specs.declared.Answer.{Answer}
use Rattle.convert.specs.Convert.{convert_of}
use Rattle.strokes.specs.Strokes.{warned, Trace}
use Rattle.strokes.specs.Space.{Output, out_of_room, with_warning}
use Rattle.strokes.specs.Inner.Space.{state_by, output_by, Fits, Applied}
use Rattle.geopic.specs.Geopic.{ctx_of, trace_of, Buffers, unused, output_of, early, conditions, number_of, refusal, acceptance, answer_of, clear, slice_by, buffers_after}
use Rattle.strokes.specs.Laws.Applying.{applied_no_events, applied_stuck, applied_then, applied_err, applied_stop, refused_some}
use Rattle.strokes.specs.Laws.Events.{warned_fits, warned_lacks}
use Rattle.geopic.specs.Inner.Opened.{Opens}
use Rattle.geopic.specs.Laws.Conditions.{number_is, early-table, early-stream, early_registration, by_early, by_space}

-- ---- the registration's warnings: what `register` pushes is what is played
abbrev Pushed : Type 0
Pushed = WarningSlice

abbrev pushing : List ℕ → Bool → ℕ → Pushed
pushing out ok n = record { out = out; cursor = record { ok = ok; used = n } }

abbrev telling : List Warning → Budget → Trace
telling ws b = record { events = map warned ws; after = b }

-- the sheet with the warnings as they were pushed
abbrev told_by : Output → Pushed → Output
told_by t r =
    record {
      work = t.work;
      positions = t.positions;
      features = t.features;
      warnings = r.out;
      used_positions = t.used_positions;
      used_features = t.used_features;
      used_warnings = r.cursor.used;
      number = cond r.cursor.ok 0 18;
    }

module _ (w : Warning) (out : List ℕ) (n : ℕ) where
  push_fits : leb (n + 2) (length out) ≡ true → pushed w (pushing out true n) ≡ pushing (put out n (w.kind ∷ w.index ∷ [])) true (n + 2)
  unfolding pushed
  push_fits e = rw e

  push_lacks : leb (n + 2) (length out) ≡ false → pushed w (pushing out true n) ≡ pushing out false n
  unfolding pushed
  push_lacks e = rw e

push_none : (ws : List Warning) (out : List ℕ) (n : ℕ) → all_pushed ws (pushing out false n) ≡ pushing out false n
unfolding all_pushed pushed
push_none [] out n = refl
push_none (w ∷ ws) out n = push_none ws out n

abbrev Tells : List Warning → Budget → Type 0
Tells ws b =
    (t : Output) → t.number ≡ 0 → Fits t b → Applied (telling ws b) t (told_by t (all_pushed ws (pushing t.warnings true t.used_warnings))) b

one_told : (w : Warning) (ws : List Warning) (b : Budget) → Tells ws b → Tells (w ∷ ws) b
unfolding all_pushed
one_told w ws b rest t start h = go (leb (t.used_warnings + 2) (length t.warnings)) refl
  where
    Goal : Pushed → Type 0
    Goal r = Applied (telling (w ∷ ws) b) t (told_by t (all_pushed ws r)) b

    go : (x : Bool) → leb (t.used_warnings + 2) (length t.warnings) ≡ x → Goal (pushed w (pushing t.warnings true t.used_warnings))
    go true e =
        let one = warned_fits w t b start h (leb-true _ _ e) in
        subst Goal (sym (push_fits w t.warnings t.used_warnings e)) (applied_then (telling ws) one (rest (out_of_room 0 (with_warning w t)) refl one.fits))
    go false e =
        let one = warned_lacks w t b start h (leb-false _ _ e) in
        subst Goal (sym (push_lacks w t.warnings t.used_warnings e))
        (rw (push_none ws t.warnings t.used_warnings) (applied_then (telling ws) one (applied_stuck (telling ws b) (out_of_room 18 t) b (λ z. eqb-false 18 0 refl z) one.fits)))

all_told : (ws : List Warning) (b : Budget) → Tells ws b
unfolding all_pushed
all_told [] b t start h = subst (λ (u : Output). Applied (telling [] b) t u b) (ap (λ (n : ℕ). out_of_room n t) start) (applied_no_events t b h)
all_told (w ∷ ws) b t start h = one_told w ws b (all_told ws b) t start h

-- ---- everything that is drawn
module _ (s : List ℕ) where
  abbrev sc : Scene
  sc = scene_of (payload s)

  module _ (tier : ℕ) (t : Buffers) {v : List ℕ} {n : ℕ} {ok : Bool} (told : record { out = v; cursor = record { ok = ok; used = n } } ≡ all_pushed (register_warnings sc) (pushing t.warnings true 0)) where
    room : {whole : Budget} → whole ≡ fresh (allowance_of tier) → Fits (unused t) whole
    room is = record { positions = omega arith; features = omega arith; warnings = omega arith; left = rw is (omega (arith, allowance-most tier)) }

    warns : {whole : Budget} → whole ≡ fresh (allowance_of tier) → Applied (telling (register_warnings sc) whole) (unused t) (told_by (unused t) (pushing v ok n)) whole
    warns {whole} is =
        subst (λ (r : Pushed). Applied (telling (register_warnings sc) whole) (unused t) (told_by (unused t) r) whole) (sym told)
        (all_told (register_warnings sc) whole (unused t) refl (room is))

  -- the warnings have room
  module _ (tier : ℕ) (t : Buffers) {v : List ℕ} {n : ℕ} (told : record { out = v; cursor = record { ok = true; used = n } } ≡ all_pushed (register_warnings sc) (pushing t.warnings true 0))
      {whole : Budget} (is : whole ≡ fresh (allowance_of tier)) where
    -- the sheet with which the items begin
    abbrev begin : Output
    begin = output_by (length t.work) t.positions t.features v (Ok (record { positions = 0; features = 0; warnings = n; budget = whole }))

    pub begun : Applied (telling (register_warnings sc) whole) (unused t) begin whole
    begun = warns tier t told is

    pub drawn : (kinds : List ℕ) {r : Registration} {p : Projection} {step tol : Float} {u : Output} {b : Budget} → r ≡ registration_of sc → p ≡ projection_of r → step ≡ sc.step → tol ≡ sc.flatten
        → Applied (convert_of (entry_of kinds) (record { projection = p; step = step; flatten = tol }) (items_at (payload s) 0) whole) begin u b → Applied (trace_of kinds (allowance_of tier) sc) (unused t) u b
    unfolding trace_of
    drawn kinds e f g h d = rw (← is) (applied_then (convert_of (entry_of kinds) (ctx_of sc) sc.items) begun (rw (f, e, g, h, ← (scene_lists (payload s)).3) at d))

  -- a warning lacks room
  pub warning_lacks : (kinds : List ℕ) (tier : ℕ) (t : Buffers) {v : List ℕ} {n : ℕ}
      → record { out = v; cursor = record { ok = false; used = n } } ≡ all_pushed (register_warnings sc) (pushing t.warnings true 0)
      → Applied (trace_of kinds (allowance_of tier) sc) (unused t) (output_by (length t.work) t.positions t.features v (Err WarningRoom)) (state_by (Err WarningRoom)).budget
  unfolding trace_of
  warning_lacks kinds tier t told =
      applied_stop WarningRoom (convert_of (entry_of kinds) (ctx_of sc) sc.items)
      (applied_err WarningRoom refl (warns tier t told {whole = fresh (allowance_of tier)} refl))

-- ---- what registration says
module _ (sc : Scene) {o : Outcome} (e : o ≡ outcome_of sc) where
  outcome : (o.number ≡ register_refusal sc) × (register_refusal sc ≡ 0 → o.registration ≡ registration_of sc)
  unfolding outcome_of
  outcome = go (eqb (register_refusal sc) 0) refl e
    where
      go : (b : Bool) → eqb (register_refusal sc) 0 ≡ b → o ≡ pick_outcome b (accepted (registration_of sc)) (refused_by (register_refusal sc))
          → (o.number ≡ register_refusal sc) × (register_refusal sc ≡ 0 → o.registration ≡ registration_of sc)
      go true z is = (rw is (sym (eqb-true (register_refusal sc) 0 z)), λ k. rw is)
      go false z is = (rw is, λ k. absurd (eqb-false (register_refusal sc) 0 z k))

  pub outcome_number : o.number ≡ register_refusal sc
  outcome_number = outcome.0

  pub outcome_is : o.number ≡ 0 → o.registration ≡ registration_of sc
  outcome_is h = outcome.1 (sym outcome.0 ∙ h)

-- ---- the answer and the slices
module _ (s kinds : List ℕ) (tier : ℕ) (t : Buffers) where
  refused : {n : ℕ} → number_of s kinds tier t ≡ n → (n ≡ 0 → ⊥) → {a : Answer} → a ≡ refusal n → a ≡ answer_of s kinds tier t
  unfolding answer_of
  refused {n} is some e = rw (e, is, ne_eqb n 0 some)

  -- an early condition holds
  module _ {n : ℕ} (is : n ≡ first_of (early s kinds)) (some : n ≡ 0 → ⊥) where
    first : first_of (early s kinds) ≡ 0 → ⊥
    first z = some (is ∙ z)

    pub early-answer : {a : Answer} → a ≡ refusal n → a ≡ answer_of s kinds tier t
    early-answer e = refused (by_early s kinds tier t first ∙ sym is) some e

    pub early_buffers : t ≡ buffers_after s kinds tier t
    unfolding buffers_after slice_by
    early_buffers = rw (ne_eqb (first_of (early s kinds)) 0 first)

  pub untouched : (first_of (early s kinds) ≡ 0 → ⊥) → buffers_after s kinds tier t ≡ t
  untouched h = sym (early_buffers refl h)

  -- a table that can't be used
  pub table_refused : unusable kinds ≡ true → ((answer_of s kinds tier t).number ≡ 20) × (buffers_after s kinds tier t ≡ t)
  unfolding number_of
  table_refused h =
      let twenty = refused_table kinds h in
      let first = early-table s kinds (λ z. omega (arith, twenty)) ∙ twenty in
      let some : first_of (early s kinds) ≡ 0 → ⊥ = λ z. omega (arith, first) in
      (number_is s kinds tier t ∙ by_early s kinds tier t some ∙ first, untouched some)

  pub cleared : first_of (early s kinds) ≡ 0 → ((answer_of s kinds tier t).number ≡ 0 → ⊥) → buffers_after s kinds tier t
      ≡ record { work = clear f0 (length t.work); positions = clear f0 (length t.positions); features = clear 0 (length t.features); warnings = clear 0 (length t.warnings) }
  unfolding buffers_after slice_by number_of
  cleared e h = rw (e, ne_eqb (first_of (conditions s kinds tier t)) 0 (λ z. h (number_is s kinds tier t ∙ z)))

  module _ (none : first_of (early s kinds) ≡ 0) {u : Output} {b : Budget} (d : Applied (trace_of kinds (allowance_of tier) (sc s)) (unused t) u b) where
    space : u.number ≡ (output_of kinds (allowance_of tier) (sc s) t).number
    unfolding output_of
    space = d.number

    late_number : number_of s kinds tier t ≡ u.number
    late_number = by_space s kinds tier t none ∙ sym space

    -- something lacks room
    module _ (some : u.number ≡ 0 → ⊥) where
      pub late_answer : {a : Answer} → a ≡ refusal u.number → a ≡ answer_of s kinds tier t
      late_answer e = refused late_number some e

      pub late_buffers : {w p : List Float} {f v : List ℕ} → w ≡ clear f0 u.work → p ≡ clear f0 (length u.positions) → f ≡ clear 0 (length u.features) → v ≡ clear 0 (length u.warnings)
          → record { work = w; positions = p; features = f; warnings = v } ≡ buffers_after s kinds tier t
      unfolding buffers_after slice_by
      late_buffers work positions features warnings =
          rw (work, positions, features, warnings, d.work, d.positions, d.features, d.warnings, none, late_number, ne_eqb u.number 0 some)

    module _ (room : u.number ≡ 0) where
      sheet : u ≡ output_of kinds (allowance_of tier) (sc s) t
      unfolding output_of
      sheet = d.same room

      pub accepted-answer : {r : Registration} {a : Answer} → r ≡ registration_of (sc s) → a ≡ acceptance r u b → a ≡ answer_of s kinds tier t
      unfolding answer_of
      accepted-answer e f = rw (late_number, eq-eqb u.number 0 room, ← e, ← sheet, ← d.after room) f

      pub accepted_buffers : {w : List Float} → w ≡ clear f0 u.work → record { work = w; positions = u.positions; features = u.features; warnings = u.warnings } ≡ buffers_after s kinds tier t
      unfolding buffers_after slice_by
      accepted_buffers e = rw (e, none, late_number, eq-eqb u.number 0 room, ← sheet, d.work)

-- ---- what `open_stream` comes to
module _ (s kinds : List ℕ) where
  pub table_opens : {kept : List ℕ} {e : Refusal} → refusals.number_of e ≡ first_of (of_kind_table kinds) → Opens s kinds kept (Err e)
  table_opens {e = e} is = record { number = is ∙ sym (early-table s kinds (λ z. refused_some e (is ∙ z))); comes = tt }

  module _ (usable : first_of (of_kind_table kinds) ≡ 0) where
    pub stream_opens : {kept : List ℕ} {e : Refusal} → refusals.number_of e ≡ refusal_of s → Opens s kinds kept (Err e)
    stream_opens {e = e} is = record { number = is ∙ sym (early-stream s kinds usable (λ z. refused_some e (is ∙ z))); comes = tt }

    module _ (read : refusal_of s ≡ 0) where
      number : (o : Result Registration Refusal) → outcome_by o ≡ outcome_of (sc s) → refusals.number_by o ≡ first_of (early s kinds)
      number (Ok r) is = outcome_number (sc s) is ∙ sym (early_registration s kinds usable read)
      number (Err e) is = outcome_number (sc s) is ∙ sym (early_registration s kinds usable read)

      pub registration_opens : {kept : List ℕ} {e : Refusal} → outcome_by (Err e) ≡ outcome_of (sc s) → Opens s kinds kept (Err e)
      registration_opens {e = e} is = record { number = number (Err e) is; comes = tt }

      pub registered_opens : {v : Survey} {r : Registration} {kept : List ℕ} → outcome_by (Ok r) ≡ outcome_of (sc s) → Surveyed (payload s) v → length kept ≡ 64 → Kept (scene_of (payload s)) kept → Opens s kinds kept (Ok (v, r))
      registered_opens {r = r} is w n k =
          let none = number (Ok r) is in
          let same = outcome_is (sc s) is refl in
          record {
            number = none;
            comes =
                record {
                  none = sym none;
                  is = same;
                  registrable = is_registrable s read w;
                  controls = record { count = controls_are (sc s) same; kept-room = n; numbers = k };
                };
          }
