-- What the number of an answer says of the conditions, and how it comes from the numbers of the crates below. Assumes nothing.
use Rattle.std.specs.Prelude.{ℕ, ◌+◌, ◌*◌, ◌≡◌, Bool, true, false, ◌||◌, List, [], ◌∷◌, ◌++◌, length, eqb, leb}
use Rattle.std.proofs.Math.Path.{refl}
use Rattle.std.proofs.Common.{sym, ◌∙◌, arith, eqb-true}
use Rattle.std.proofs.lemmas.Bool.{false≢true}
use Rattle.stream.specs.Conditions.{Condition, first_of, NoneHolds}
use Rattle.stream.specs.Payload.{payload}
use Rattle.stream.specs.Laws.Conditions.{Numbered, none_first, first-none, first_ahead, first_behind, append-none, numbered_append}
use Rattle.records.specs.Conditions.{of_stream}
use Rattle.records.specs.Inner.Refusals.{refusal_of}
use Rattle.records.specs.Laws.Refusals.{stream_numbered}
use Rattle.kind_table.specs.KindTable.{of_kind_table}
use Rattle.kind_table.specs.Laws.KindTable.{table_numbered}
use Rattle.scene.specs.Scene.{Scene, scene_of}
use Rattle.register.specs.Register.{of_registration}
use Rattle.register.specs.Inner.Outcome.{register_refusal}
use Rattle.register.specs.Laws.Outcomes.{registration_numbered}
use Rattle.values.specs.Points.{flats}
use Rattle.budget.specs.Budget.{allowance_of}
use Rattle.strokes.specs.Strokes.{Event, drew, need, feature, warned}
use Rattle.strokes.specs.Space.{Output, pick_output, out_of_room, with_feature, with_warning, apply, apply_all, of_space}
use Rattle.geopic.specs.declared.Answer.{Answer}
use Rattle.geopic.specs.Geopic.{trace_of, Buffers, unused, output_of, early, conditions, number_of, refusal, pick_answer, answer_of}

-- ---- 15 to 18: what is apply onto a sheet
abbrev known : ℕ → Bool
known n = eqb n 0 || (eqb n 15 || (eqb n 16 || (eqb n 17 || eqb n 18)))

known-pick : (b : Bool) (t u : Output) → known t.number ≡ true → known u.number ≡ true → known (pick_output b t u).number ≡ true
known-pick true t u h k = h
known-pick false t u h k = k

known_applied : (e : Event) (t : Output) → known t.number ≡ true → known (apply e t).number ≡ true
unfolding apply
known_applied (drew d) t h = h
known_applied (need n) t h = known-pick (leb (2 * n) t.work) t (out_of_room 15 t) h refl
known_applied (feature f ps) t h =
    known-pick (leb (t.used_positions + length (flats ps)) (length t.positions))
    (pick_output (leb (t.used_features + 6) (length t.features)) (with_feature f ps t) (out_of_room 17 t))
    (out_of_room 16 t)
    (known-pick (leb (t.used_features + 6) (length t.features)) (with_feature f ps t) (out_of_room 17 t) h refl)
    refl
known_applied (warned w) t h = known-pick (leb (t.used_warnings + 2) (length t.warnings)) (with_warning w t) (out_of_room 18 t) h refl

known-all : (es : List Event) (t : Output) → known t.number ≡ true → known (apply_all es t).number ≡ true
unfolding apply_all
known-all [] t h = h
known-all (e ∷ es) t h = known-all es _ (known-pick (eqb t.number 0) _ t (known_applied e t h) h)

late : (a b c d e : Bool) (n : ℕ) → a ≡ eqb n 0 → b ≡ eqb n 15 → c ≡ eqb n 16 → d ≡ eqb n 17 → e ≡ eqb n 18 → a || (b || (c || (d || e))) ≡ true
    → first_of ((15, b) ∷ (16, c) ∷ (17, d) ∷ (18, e) ∷ []) ≡ n
unfolding first_of
late a true c d e n p q r s u h = sym (eqb-true n 15 (sym q))
late a false true d e n p q r s u h = sym (eqb-true n 16 (sym r))
late a false false true e n p q r s u h = sym (eqb-true n 17 (sym s))
late a false false false true n p q r s u h = sym (eqb-true n 18 (sym u))
late true false false false false n p q r s u h = sym (eqb-true n 0 (sym p))
late false false false false false n p q r s u h = absurd (false≢true h)

space_first : (t : Output) → known t.number ≡ true → first_of (of_space t) ≡ t.number
unfolding of_space
space_first t h = late _ _ _ _ _ t.number refl refl refl refl refl h

space_numbered : (t : Output) → Numbered (of_space t)
unfolding of_space
space_numbered t = (omega arith, (omega arith, (omega arith, (omega arith, tt))))

-- an acceptance's number is 0, a refusal's its own
picked : (b : Bool) (n : ℕ) (a : Answer) → a.number ≡ 0 → eqb n 0 ≡ b → (pick_answer b a (refusal n)).number ≡ n
picked true n a h e = h ∙ sym (eqb-true n 0 e)
picked false n a h e = refl

module _ (s kinds : List ℕ) where
  abbrev sc : Scene
  sc = scene_of (payload s)

  -- those of the stream, then those of the registration
  abbrev behind_table : List Condition
  behind_table = of_stream s ++ of_registration sc

  early_numbered : Numbered (early s kinds)
  unfolding early
  early_numbered =
      numbered_append (of_kind_table kinds) behind_table (table_numbered kinds)
      (numbered_append (of_stream s) (of_registration sc) (stream_numbered s) (registration_numbered sc))

  -- that of the kind table is the first
  pub early-table : (first_of (of_kind_table kinds) ≡ 0 → ⊥) → first_of (early s kinds) ≡ first_of (of_kind_table kinds)
  unfolding early
  early-table h = first_ahead (of_kind_table kinds) behind_table (table_numbered kinds) h

  module _ (usable : first_of (of_kind_table kinds) ≡ 0) where
    early_behind : first_of (early s kinds) ≡ first_of behind_table
    unfolding early
    early_behind = first_behind (of_kind_table kinds) behind_table (table_numbered kinds) usable

    pub early-stream : (refusal_of s ≡ 0 → ⊥) → first_of (early s kinds) ≡ refusal_of s
    early-stream h = early_behind ∙ first_ahead (of_stream s) (of_registration sc) (stream_numbered s) h

    pub early_registration : refusal_of s ≡ 0 → first_of (early s kinds) ≡ register_refusal sc
    early_registration h = early_behind ∙ first_behind (of_stream s) (of_registration sc) (stream_numbered s) h

  pub early-none : first_of (early s kinds) ≡ 0 → (refusal_of s ≡ 0) × (register_refusal sc ≡ 0)
  unfolding early
  early-none h =
      append-none (of_stream s) (of_registration sc) (stream_numbered s) (append-none (of_kind_table kinds) behind_table (table_numbered kinds) h).1

  module _ (tier : ℕ) (t : Buffers) where
    space_known : known (output_of kinds (allowance_of tier) sc t).number ≡ true
    unfolding output_of
    space_known = known-all (trace_of kinds (allowance_of tier) sc).events (unused t) refl

    -- an early condition decides, and else what lacks room
    pub by_early : (first_of (early s kinds) ≡ 0 → ⊥) → number_of s kinds tier t ≡ first_of (early s kinds)
    unfolding number_of conditions
    by_early h = first_ahead (early s kinds) (of_space (output_of kinds (allowance_of tier) sc t)) early_numbered h

    pub by_space : first_of (early s kinds) ≡ 0 → number_of s kinds tier t ≡ (output_of kinds (allowance_of tier) sc t).number
    unfolding number_of conditions
    by_space h = first_behind (early s kinds) (of_space (output_of kinds (allowance_of tier) sc t)) early_numbered h ∙ space_first (output_of kinds (allowance_of tier) sc t) space_known

    pub none-early : number_of s kinds tier t ≡ 0 → first_of (early s kinds) ≡ 0
    unfolding number_of conditions
    none-early h = (append-none (early s kinds) (of_space (output_of kinds (allowance_of tier) sc t)) early_numbered h).0

    -- ---- the answer's number
    pub number_is : (answer_of s kinds tier t).number ≡ first_of (conditions s kinds tier t)
    unfolding answer_of number_of
    number_is = picked _ (first_of (conditions s kinds tier t)) _ refl refl

    pub none_number : NoneHolds (conditions s kinds tier t) → (answer_of s kinds tier t).number ≡ 0
    none_number h = number_is ∙ none_first (conditions s kinds tier t) h

    numbered : Numbered (conditions s kinds tier t)
    unfolding conditions
    numbered = numbered_append (early s kinds) (of_space (output_of kinds (allowance_of tier) sc t)) early_numbered (space_numbered (output_of kinds (allowance_of tier) sc t))

    pub number_none : (answer_of s kinds tier t).number ≡ 0 → NoneHolds (conditions s kinds tier t)
    number_none h = first-none (conditions s kinds tier t) numbered (sym number_is ∙ h)
