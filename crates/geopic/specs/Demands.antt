-- The three demands, as theorems about every stream s, every kind table, every tier and whatever slices are lent with it (t), and what the changes of document 02 promise. The contract of `geopic_place` says that its answer is `answer_of s kinds tier t` and that the slices then hold `buffers_after s kinds tier t`; both are read off one list of events, `trace_of`.
use Rattle.std.specs.Prelude.{ℕ, suc, ◌*◌, ◌^◌, ◌≤◌, ◌≡◌, refl, true, false, not, ◌||◌, cond, List, ◌∷◌, ℤ, T, eqb, Float, length, drop, Some}
use Rattle.std.proofs.Common.{sym, ◌∙◌}
use Rattle.std.specs.Float.{fin, binary64}
use Rattle.std.specs.Float.Ieee.{fits, round, lt}
use Rattle.root.specs.Root.{scaled, sticky, root_of}
use Rattle.root.specs.Digits.{digits_of, worked_out}
use Rattle.root.proofs.Laws.SingleDigits.{single_digits}
use Rattle.stream.specs.Conditions.{first_of, NoneHolds}
use Rattle.stream.specs.Payload.{payload}
use Rattle.records.specs.Walk.{entries}
use Rattle.records.specs.Search.{records_of}
use Rattle.records.specs.Values.{float_or, hundred, one, thousand, step_in}
use Rattle.kind_table.specs.KindTable.{entry_of, any_above, unusable, built_in}
use Rattle.kind_table.specs.Laws.KindTable.{built_in_usable, built_in_rule}
use Rattle.scene.specs.Scene.{value_of, DrawnItem, Scene, scene_of}
use Rattle.values.specs.declared.Point.{Point}
use Rattle.projection.specs.Projection.{geo_of, project_point}
use Rattle.register.specs.Register.{f0, registration_of}
use Rattle.budget.specs.declared.Budget.{Budget}
use Rattle.budget.specs.Budget.{allowance_of, fresh}
use Rattle.budget.specs.Draws.{Draw, left_after, Claim}
use Rattle.budget.specs.Laws.Allowances.{allowance_entry, allowance_larger}
use Rattle.budget.specs.Laws.Draws.{claim}
use Rattle.densify.specs.Densify.{segment_parts, arc_vertices_of, quarter_of}
use Rattle.densify.specs.Draws.{draws_of, Granted, fell_short}
use Rattle.densify.specs.Laws.Counts.{parts_within, arc_within}
use Rattle.densify.specs.Laws.Sizes.{quarter_within}
use Rattle.strokes.specs.declared.state.Ctx.{Ctx}
use Rattle.strokes.specs.Strokes.{draws_in}
use Rattle.strokes.specs.Features.{AllWellFormed, positions_in, features_in, warnings_in, features_at, warnings_at, any_of_kind}
use Rattle.convert.specs.Convert.{shape_of, props_of, items_of}
use Rattle.convert.specs.Laws.Kinds.{hidden_goes_on, two_goes_on, same_shape, placement_is}
use Rattle.geopic.specs.Geopic.{ctx_of, trace_of, Buffers, early, conditions, answer_of, clear, buffers_after}
use Rattle.geopic.specs.Laws.Conditions.{number_is, number_none, none_number}
use Rattle.geopic.specs.Laws.Calls.{untouched, cleared, table_refused}
use Rattle.geopic.specs.Laws.Scenes.{drawn_left, drawn_hit, answer-is, formed_read, scene-geo, scene_features, scene_warnings, scene-counts, scene_tails, scene-step, scene_claim, scene_grants, scene_left, scene-spent, scene_six}
use Rattle.geopic.specs.Laws.Tiers.{scene_keeps, spent_six, same_features, same_buffers, same_answer, no_less_left}

-- 3, its first sentence. The claim holds of any list of draws from any allowance.
pub demand_3_any : (allowance : ℕ) (ds : List Draw) → Claim allowance ds
demand_3_any allowance ds = claim allowance ds

-- So it holds of every scene's draws, by any kind table and from any allowance: each is granted what that list grants it, what is left is what that list leaves, and the budget is hit exactly if a grant fell short or a piece that was not flat met fewer than 2 left.
pub demand_3_scene : (kinds : List ℕ) (allowance : ℕ) (sc : Scene) →
    let draws = draws_in (trace_of kinds allowance sc).events in
    Claim allowance (draws_of draws) × Granted (fresh allowance) draws × ((trace_of kinds allowance sc).after.left ≡ left_after allowance (draws_of draws)) × ((trace_of kinds allowance sc).after.hit ≡ fell_short draws)
demand_3_scene kinds allowance sc = (scene_claim sc kinds allowance, scene_grants sc kinds allowance, drawn_left sc kinds allowance, drawn_hit sc kinds allowance)

module _ (s kinds : List ℕ) (tier : ℕ) (t : Buffers) where
  abbrev sc : Scene
  sc = scene_of (payload s)

  abbrev allowance : ℕ
  allowance = allowance_of tier

  -- 1. The number is that of the first of 01's eighteen conditions, and 19 and 20 of 02, that holds, in the order of checking ..
  pub demand_1 : (answer_of s kinds tier t).number ≡ first_of (conditions s kinds tier t)
  demand_1 = number_is s kinds tier t

  -- .. and a stream of which none holds is accepted, as is no other
  pub demand_1_accepted : NoneHolds (conditions s kinds tier t) → (answer_of s kinds tier t).number ≡ 0
  demand_1_accepted h = none_number s kinds tier t h

  pub demand_1_only : (answer_of s kinds tier t).number ≡ 0 → NoneHolds (conditions s kinds tier t)
  demand_1_only h = number_none s kinds tier t h

  -- a condition that is checked before the slices are looked at leaves them as they were ..
  pub demand_1_untouched : (first_of (early s kinds) ≡ 0 → ⊥) → buffers_after s kinds tier t ≡ t
  demand_1_untouched h = untouched s kinds tier t h

  -- .. and one that is checked later clears them all
  pub demand_1_cleared : first_of (early s kinds) ≡ 0 → ((answer_of s kinds tier t).number ≡ 0 → ⊥) → buffers_after s kinds tier t
      ≡ record { work = clear f0 (length t.work); positions = clear f0 (length t.positions); features = clear 0 (length t.features); warnings = clear 0 (length t.warnings) }
  demand_1_cleared e h = cleared s kinds tier t e h

  module _ (h : (answer_of s kinds tier t).number ≡ 0) where
    -- 2. Features with their positions, and warnings, read off the slices as the header says, are those of `trace_of`, the Rust's definition of them ..
    pub demand_2 : features_at (buffers_after s kinds tier t).features (buffers_after s kinds tier t).positions 0 0 (answer_of s kinds tier t).features ≡ features_in (trace_of kinds allowance sc).events
    demand_2 = scene_features s kinds tier t h

    pub demand_2_warnings : warnings_at (buffers_after s kinds tier t).warnings 0 (answer_of s kinds tier t).warnings ≡ warnings_in (trace_of kinds allowance sc).events
    demand_2_warnings = scene_warnings s kinds tier t h

    -- .. there are as many as the answer says, and what stands behind them is as it was
    pub demand_2_counts : ((answer_of s kinds tier t).positions ≡ length (positions_in (features_in (trace_of kinds allowance sc).events))) × ((answer_of s kinds tier t).features ≡ length (features_in (trace_of kinds allowance sc).events))
        × ((answer_of s kinds tier t).warnings ≡ length (warnings_in (trace_of kinds allowance sc).events))
    demand_2_counts = scene-counts s kinds tier t h

    pub demand_2_tails : (drop (2 * (answer_of s kinds tier t).positions) (buffers_after s kinds tier t).positions ≡ drop (2 * (answer_of s kinds tier t).positions) t.positions)
        × (drop (6 * (answer_of s kinds tier t).features) (buffers_after s kinds tier t).features ≡ drop (6 * (answer_of s kinds tier t).features) t.features)
        × (drop (2 * (answer_of s kinds tier t).warnings) (buffers_after s kinds tier t).warnings ≡ drop (2 * (answer_of s kinds tier t).warnings) t.warnings)
    demand_2_tails = scene_tails s kinds tier t h

    -- Each that the host holds is what RFC 7946 says of its geometry: a point is one finite position, a line two or more (3.1.4), a polygon one ring of four or more whose first and last are identical (3.1.6); its line counts them; and all lie on the globe.
    pub demand_2_formed : AllWellFormed (features_at (buffers_after s kinds tier t).features (buffers_after s kinds tier t).positions 0 0 (answer_of s kinds tier t).features)
    demand_2_formed = formed_read s kinds tier t h

    -- each position is the Rust's `geo` of its canvas point
    pub demand_2_geo : (p : Point) → project_point (ctx_of sc).projection p ≡ (let g = geo_of (registration_of sc) p.x p.y in record { x = g.lon; y = g.lat })
    demand_2_geo p = scene-geo s p

    -- 3. The scene's draws, in their order, are a list of draws from the tier's fresh allowance; its rings and lines are as 2 says ..
    pub demand_3 : Claim allowance (draws_of (draws_in (trace_of kinds allowance sc).events))
    demand_3 = scene_claim sc kinds allowance

    -- .. each is granted what that list grants it ..
    pub demand_3_grants : Granted (fresh allowance) (draws_in (trace_of kinds allowance sc).events)
    demand_3_grants = scene_grants sc kinds allowance

    -- .. what is left is what that list leaves ..
    pub demand_3_left : (answer_of s kinds tier t).left ≡ left_after allowance (draws_of (draws_in (trace_of kinds allowance sc).events))
    demand_3_left = scene_left s kinds tier t h

    -- .. and the mark is set, and warning 6 stands, exactly if a grant fell short or a piece that was not flat met fewer than 2 left
    pub demand_3_spent : (answer_of s kinds tier t).spent ≡ cond (fell_short (draws_in (trace_of kinds allowance sc).events)) 1 0
    demand_3_spent = scene-spent s kinds tier t h

    pub demand_3_warning : any_of_kind 6 (warnings_at (buffers_after s kinds tier t).warnings 0 (answer_of s kinds tier t).warnings) ≡ fell_short (draws_in (trace_of kinds allowance sc).events)
    demand_3_warning = scene_six s kinds tier t h

-- 02, iii. Binary digits of the root, worked out one by one from the highest until nothing remains to be taken off, round to the root, and their number is that of `digits_of`: for every f64 above zero, (m + 1) * 2 ^ e.
pub change_iii : (m : ℕ) (e : ℤ) → T (fits binary64 (fin false (suc m) e)) →
    (round binary64 false (sticky (worked_out (scaled (suc m) e)).0 (scaled (suc m) e)) (2 ^ 1076) ≡ root_of (fin false (suc m) e))
    × ((worked_out (scaled (suc m) e)).1 ≡ digits_of (fin false (suc m) e))
change_iii m e f = single_digits m e f

-- 02, iv. A stream is drawn with the step of option 7, 100 where it is absent ..
pub change_iv : (s : List ℕ) → (ctx_of (scene_of (payload s))).step ≡ value_of (float_or (records_of 2 7 (entries (payload s) 0)) (Some hundred))
unfolding scene_of step_in
change_iv s = refl

-- .. which is finite, not below 1 and not above 1,000 in one that is accepted ..
pub change_iv_bounds : (s kinds : List ℕ) (tier : ℕ) (t : Buffers) → (answer_of s kinds tier t).number ≡ 0 →
    (step_in (payload s) ≡ Some (scene_of (payload s)).step) × (lt (scene_of (payload s)).step one ≡ false) × (lt thousand (scene_of (payload s)).step ≡ false)
change_iv_bounds s kinds tier t h = scene-step s kinds tier t h

-- .. and under any step the old caps and floors hold: 1 to 100,000 parts of a segment, 32 to 4,096 vertices of a full curve, two or more of a quarter
pub change_iv_caps : (step scale r tol metres : Float) →
    (1 ≤ segment_parts step metres) × (segment_parts step metres ≤ 100000) × (32 ≤ arc_vertices_of step scale r tol) × (arc_vertices_of step scale r tol ≤ 4096) × (2 ≤ quarter_of step scale r tol)
change_iv_caps step scale r tol metres =
    let parts = parts_within step metres in
    let arc = arc_within step scale r tol in
    (parts.least, parts.most, arc.least, arc.most, (quarter_within step scale r tol).least)

-- 02, viii. The entry tier, 0, has 20,000 vertices, and every other number 2,000,000.
pub change_viii_tiers : (allowance_of 0 ≡ 20000) × ((tier : ℕ) → (tier ≡ 0 → ⊥) → allowance_of tier ≡ 2000000)
change_viii_tiers = (allowance_entry, λ tier some. allowance_larger tier some)

-- A scene that is drawn from an allowance without falling short comes to the same from any larger one: the same draws with the same grants, needs of work, features with their positions, and warnings; and no less is left.
pub change_viii_any : (sc : Scene) (kinds : List ℕ) (x y : ℕ) → x ≤ y → (trace_of kinds x sc).after.hit ≡ false →
    ((trace_of kinds y sc).events ≡ (trace_of kinds x sc).events) × ((trace_of kinds y sc).after.hit ≡ false) × ((trace_of kinds x sc).after.left ≤ (trace_of kinds y sc).after.left)
change_viii_any sc kinds x y l h = let same = scene_keeps sc kinds x y l (sym (drawn_hit sc kinds x) ∙ h) in (same.events, same.after.hit ∙ h, same.after.left)

-- Warning 6 stands exactly if the mark is set.
pub change_viii_mark : (s kinds : List ℕ) (tier : ℕ) (t : Buffers) → (answer_of s kinds tier t).number ≡ 0
    → any_of_kind 6 (warnings_at (buffers_after s kinds tier t).warnings 0 (answer_of s kinds tier t).warnings) ≡ eqb (answer_of s kinds tier t).spent 1
change_viii_mark s kinds tier t h = spent_six s kinds tier t h

-- A stream that is accepted in the entry tier, and without warning 6 ..
module _ (s kinds : List ℕ) (t : Buffers) (h : (answer_of s kinds 0 t).number ≡ 0) (six : any_of_kind 6 (warnings_at (buffers_after s kinds 0 t).warnings 0 (answer_of s kinds 0 t).warnings) ≡ false) (tier : ℕ) where
  -- .. has equal features in every tier ..
  pub change_viii : features_at (buffers_after s kinds tier t).features (buffers_after s kinds tier t).positions 0 0 (answer_of s kinds tier t).features
      ≡ features_at (buffers_after s kinds 0 t).features (buffers_after s kinds 0 t).positions 0 0 (answer_of s kinds 0 t).features
  change_viii = same_features s kinds t tier h six

  -- .. all four slices are equal ..
  pub change_viii_slices : buffers_after s kinds tier t ≡ buffers_after s kinds 0 t
  change_viii_slices = same_buffers s kinds t tier h six

  -- .. and so is the answer, but for what is left, which is no less
  pub change_viii_answer : answer_of s kinds tier t
      ≡ (let a = answer_of s kinds 0 t in
      record {
        number = a.number;
        method = a.method;
        controls = a.controls;
        spent = a.spent;
        positions = a.positions;
        features = a.features;
        warnings = a.warnings;
        left = (answer_of s kinds tier t).left;
      })
  change_viii_answer = same_answer s kinds t tier h six

  pub change_viii_left : (answer_of s kinds 0 t).left ≤ (answer_of s kinds tier t).left
  change_viii_left = no_less_left s kinds t tier h six

-- 02, vi. A kind table that is not 11 bytes long, or has an entry above 2, or another than 2 for block, is refused by 20 before anything of the stream is looked at, and every slice stays as it was.
pub change_vi : (s kinds : List ℕ) (tier : ℕ) (t : Buffers) → not (eqb (length kinds) 11) || (any_above kinds || not (eqb (entry_of kinds 10) 2)) ≡ true →
    ((answer_of s kinds tier t).number ≡ 20) × (buffers_after s kinds tier t ≡ t)
unfolding unusable
change_vi s kinds tier t h = table_refused s kinds tier t h

-- An item of a kind whose entry is 2 is as if hidden, whatever its class: both come to no draw, no need of work, no feature and no warning, and what follows keeps its index.
pub change_vi_not-drawn : (entry : ℕ → ℕ) (cx : Ctx) (i : ℕ) (it : DrawnItem) (its : List DrawnItem) (b : Budget) →
    (entry it.kind ≡ 2 → items_of entry cx i (it ∷ its) b ≡ items_of entry cx (suc i) its b)
    × (it.hidden ≡ true → items_of entry cx i (it ∷ its) b ≡ items_of entry cx (suc i) its b)
change_vi_not-drawn entry cx i it its b = (two_goes_on entry cx i it its b, hidden_goes_on entry cx i it its b)

-- Whether it is drawn does not tell in the registration, which is of the scene alone (`registration_of` takes no table): two calls that are accepted by different tables answer the same method and as many control points.
pub change_vi_registration : (s kinds kinds' : List ℕ) (tier tier' : ℕ) (t t' : Buffers) → (answer_of s kinds tier t).number ≡ 0 → (answer_of s kinds' tier' t').number ≡ 0 →
    ((answer_of s kinds tier t).method ≡ (answer_of s kinds' tier' t').method) × ((answer_of s kinds tier t).controls ≡ (answer_of s kinds' tier' t').controls)
change_vi_registration s kinds kinds' tier tier' t t' h h' = rw (answer-is s kinds tier t h, answer-is s kinds' tier' t' h') (refl, refl)

-- What is drawn has the shape of its kind by either other entry, and is on the screen if it is of a screen class or its kind's entry is 1, and only then.
pub change_vi_placement : (it : DrawnItem) → (shape_of 0 it ≡ shape_of 1 it) × ((e i : ℕ) → (props_of e i it).placement ≡ cond (it.screen || eqb e 1) 1 0)
change_vi_placement it = (same_shape it, λ e i. placement_is e i it)

-- The built-in table can be used, and says of each kind what the Rust's fixed rule does: block is not drawn, text and dot are on the screen, the rest is geographic.
pub change_vi_built_in : (unusable built_in ≡ false) × ((k : ℕ) → k ≤ 10 → entry_of built_in k ≡ cond (eqb k 10) 2 (cond (eqb k 7 || eqb k 8) 1 0))
change_vi_built_in = (built_in_usable, λ k h. built_in_rule k h)
