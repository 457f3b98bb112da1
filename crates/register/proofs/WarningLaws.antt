-- The loops over features and variables that write warnings: what is done, and one turn.
use Rattle.std.specs.Prelude.{is_some, Result, Ok, Err}
use mathlib.Core.Path.{◌≡◌, refl, ap, sym, ◌∙◌}
use mathlib.Core.Bool.{Bool, true, false, and-false, false≢true}
use mathlib.Core.List.{List, [], ◌∷◌, ◌++◌}
use Prim.Native.Nat.{ℕ, suc, ◌+◌, ◌-◌, ◌≤◌, ◌<◌}
use native.Mathlib.Numerals.{add-one}
use native.Mathlib.Omega.{arith}
use lib.ListN.{length, take, drop, set, replicate, length-drop, length-set}
use lib.Seq.{take_all, length-take-le, take-suc-set}
use Rattle.stream.specs.Payload.{payload}
use Rattle.stream.specs.Inner.Payload.{room}
use Rattle.records.specs.Records.{bytes_at}
use Rattle.scene.specs.declared.readers.FeatureName.{FeatureName}
use Rattle.scene.specs.Scene.{Scene, NamedFeature, float_value_at, scene_of}
use Rattle.scene.specs.Inner.Answers.{features_at, features_by, feature_by, variables_at, VariablesFrom, Within, LengthPrefixed}
use Rattle.scene.specs.Laws.Answers.{scene_lists}
use Rattle.scene.specs.Laws.Rising.{Rising}
use Rattle.register.specs.declared.mentions.Cursor.{Cursor}
use Rattle.register.specs.declared.mentions.Mention as code-mention
use Rattle.register.specs.Register.{Event, control, warn, resolved, mentioned, feature_event, feature_events, variable_events, events, warnings_in}
use Rattle.register.specs.Inner.Gathered.{numbers_in, KeptNumbers}
use Rattle.register.specs.Inner.Mentions.{lon_mentions, mentions_at, mention_by, Follows, Asked}
use Rattle.register.specs.Inner.Warnings.{first_is, any_name_is, ResolvedNames, AfterFeatures, kind_by, slice_by, Warned}
use Rattle.values.specs.declared.warning.NoRoom.{NoRoom}
use Rattle.values.specs.Inner.Warnings.{WarningSlice, pushed, all_pushed}
use Rattle.register.proofs.VariableSteps.{along}
use Rattle.register.proofs.PartEvents.{event_at, events_at, mention_events}
use Rattle.register.proofs.KeptNumbers.{is_control, kept-is, kept_fits, kept_control, kept_warn, taken_more, feature_warns, names_same, names_more, lon_warns}
use Rattle.values.specs.Laws.Warnings.{push_fits, all_shut}
use Rattle.register.proofs.PushedWarnings.{none_written, both_written, first_shut, warnings_append}

-- ---- one event more
control_next : (e : Event) (es : List Event) (t : WarningSlice) → is_control e ≡ true → all_pushed (warnings_in (e ∷ es)) t ≡ all_pushed (warnings_in es) t
unfolding warnings_in
control_next (control c) es t h = refl
control_next (warn w) es t h = absurd (false≢true h)

warn_next : (e : Event) (es : List Event) (t : WarningSlice) {kind index : ℕ} → e ≡ warn (record { kind = kind; index = index }) → all_pushed (warnings_in (e ∷ es)) t ≡ all_pushed (warnings_in es) (pushed (record { kind = kind; index = index }) t)
unfolding all_pushed warnings_in
warn_next e es t h = rw h refl

-- ---- the first i features are done, which lie before q; h of them are control points
pub record Told (s kept positions : List ℕ) (h : ℕ) (out₀ : List ℕ) (n₀ : ℕ) (out : List ℕ) (n q i : ℕ) : Type 0 where
  pub all : all_pushed (warnings_in (feature_events (scene_of (payload s)) 0 (scene_of (payload s)).features)) (slice_by out₀ (Ok n₀)) ≡ all_pushed (warnings_in (feature_events (scene_of (payload s)) i (features_at (payload s) q))) (slice_by out (Ok n))
  pub left : drop h kept ≡ numbers_in i (feature_events (scene_of (payload s)) i (features_at (payload s) q) ++ variable_events (scene_of (payload s)) 0 (scene_of (payload s)).variables)
  pub resolved_names : ResolvedNames s (take h positions) (take i (scene_of (payload s)).features)
  pub rest : drop i (scene_of (payload s)).features ≡ features_at (payload s) q
  pub few : h ≤ length kept
  pub fits : n ≤ length out
  pub sized : length positions ≡ 64
  pub short : i ≤ q
  pub within : q ≤ room s

module _ (s kept positions out : List ℕ) (n : ℕ) where
  pub none_told : n ≤ length out → length positions ≡ 64 → KeptNumbers (scene_of (payload s)) kept → Told s kept positions 0 out n out n 0 0
  unfolding events any_name_is mentioned
  none_told f k e =
      record {
        all = rw (scene_lists (payload s)).0 refl;
        left = e.numbers ∙ rw (scene_lists (payload s)).0 refl;
        resolved_names = record { stands = record { within = λ j g. absurd (omega arith) }; names = λ x. sym (and-false (is_some (resolved (scene_of (payload s)) x))) };
        rest = (scene_lists (payload s)).0;
        few = omega arith;
        fits = f;
        sized = k;
        short = omega arith;
        within = omega arith;
      }

module _ {s kept positions : List ℕ} {h : ℕ} {out₀ : List ℕ} {n₀ : ℕ} {out : List ℕ} {n q i : ℕ} (d : Told s kept positions h out₀ n₀ out n q i) where
  abbrev scene : Scene
  scene = scene_of (payload s)

  pub all_told : features_at (payload s) q ≡ [] → h ≤ 64 → Warned (warnings_in (feature_events scene 0 scene.features)) out₀ n₀ out (Ok n) × (h ≤ 64) × AfterFeatures s kept (take h positions) i
  unfolding all_pushed warnings_in feature_events
  all_told g k =
      let m : length (take h positions) ≡ h = length-take-le h positions (omega (arith, d.sized)) in
      (record { written = rw (d.all, g) refl; fits = d.fits }, k, record { resolved_names = rw (take_all i scene.features (omega (arith, ap length (d.rest ∙ g), length-drop i scene.features))) at d.resolved_names; left = rw m (rw g at d.left); short = omega (arith, d.short, d.within) })

  -- one more feature
  module _ (r : FeatureName) (here : features_at (payload s) q ≡ features_by (payload s) (feature_by (payload s) (Ok r))) (w : Within (room s) q r.at (r.len + 16) r.next) {b : Bool} (is : b ≡ first_is i (drop h kept)) where
    abbrev feature : NamedFeature
    feature = record { name = bytes_at (payload s) r.at r.len; lon = float_value_at (payload s) (r.at + r.len); lat = float_value_at (payload s) (r.at + r.len + 8) }

    left : drop h kept ≡ numbers_in i (feature_event scene i feature ∷ (feature_events scene (suc i) (features_at (payload s) r.next) ++ variable_events scene 0 scene.variables))
    unfolding feature_events
    left = rw here at d.left

    all : all_pushed (warnings_in (feature_events scene 0 scene.features)) (slice_by out₀ (Ok n₀)) ≡ all_pushed (warnings_in (feature_event scene i feature ∷ feature_events scene (suc i) (features_at (payload s) r.next))) (slice_by out (Ok n))
    unfolding feature_events
    all = rw here at d.all

    rest : drop i scene.features ≡ feature ∷ features_at (payload s) r.next
    rest = d.rest ∙ here

    event : is_control (feature_event scene i feature) ≡ b
    event = kept-is _ h i _ _ left is

    pub one_fits : b ≡ true → h < length kept
    one_fits c = kept_fits kept h i _ _ left (event ∙ c)

    pub one_control : length kept ≤ 64 → LengthPrefixed (payload s) r.at r.len → b ≡ true → Told s kept (set positions h (r.at - 1)) (h + 1) out₀ n₀ out n r.next (i + 1)
    one_control m a c =
        let free : h < length positions = omega (arith, one_fits c, d.sized) in
        rw
        (add-one i)
        (record {
          all = all ∙ control_next _ _ _ (event ∙ c);
          left = kept_control kept h i _ _ left (event ∙ c);
          resolved_names = rw (add-one h, take-suc-set positions h (r.at - 1) free) (names_more i feature _ rest d.resolved_names refl a (omega (arith, w.name)) (event ∙ c));
          rest = (taken_more _ i _ _ rest).1;
          few = omega (arith, one_fits c);
          fits = d.fits;
          sized = length-set positions h (r.at - 1) ∙ d.sized;
          short = omega (arith, d.short, w.more);
          within = w.fits;
        })

    module _ (c : b ≡ false) (out' : List ℕ) (p : Result ℕ NoRoom) (u : slice_by out' p ≡ pushed (record { kind = 2; index = i }) (slice_by out (Ok n))) where
      pushed_all : all_pushed (warnings_in (feature_events scene 0 scene.features)) (slice_by out₀ (Ok n₀)) ≡ all_pushed (warnings_in (feature_events scene (suc i) (features_at (payload s) r.next))) (slice_by out' p)
      pushed_all = rw u (all ∙ warn_next _ _ _ (feature_warns scene i feature (event ∙ c)))

      -- the warning lacks room
      pub none_more : {e : NoRoom} → p ≡ Err e → Warned (warnings_in (feature_events scene 0 scene.features)) out₀ n₀ out' p
      none_more {e} z = record { written = rw (pushed_all, z, all_shut _ out' e.used) refl; fits = push_fits _ (slice_by out (Ok n)) u d.fits }

      pub one-warned : {m : ℕ} → p ≡ Ok m → Told s kept positions h out₀ n₀ out' m r.next (i + 1)
      one-warned z =
          rw
          (add-one i)
          (record {
            all = rw z at pushed_all;
            left = kept_warn kept h i _ _ left (event ∙ c);
            resolved_names = names_same i feature _ rest d.resolved_names (event ∙ c);
            rest = (taken_more _ i _ _ rest).1;
            few = d.few;
            fits = rw z at (push_fits _ (slice_by out (Ok n)) u d.fits);
            sized = d.sized;
            short = omega (arith, d.short, w.more);
            within = w.fits;
          })

-- ---- variables, by their mentions
-- those before the cursor c are done, behind f host features; j is the number of the next
pub record WarningLoop (s kept out₀ : List ℕ) (n₀ : ℕ) (out : List ℕ) (n : ℕ) (starts : List ℕ) (c : Cursor) (k f j : ℕ) : Type 0 where
  pub follows : Follows s true c starts
  pub all : all_pushed (warnings_in (variable_events (scene_of (payload s)) 0 (scene_of (payload s)).variables)) (slice_by out₀ (Ok n₀)) ≡ all_pushed (warnings_in (events_at (scene_of (payload s)) (mentions_at (payload s) true c))) (slice_by out (Ok n))
  pub left : drop k kept ≡ numbers_in j (events_at (scene_of (payload s)) (mentions_at (payload s) true c))
  pub fits : n ≤ length out
  pub short : j ≤ f + c.q

pub warning_loop : (s kept out : List ℕ) (n : ℕ) {q h f : ℕ} → n ≤ length out → VariablesFrom (payload s) q → Rising [] (variables_at (payload s) 0) → drop h kept ≡ numbers_in f (variable_events (scene_of (payload s)) 0 (scene_of (payload s)).variables)
    → WarningLoop s kept out n out n (replicate 32 0) (record { q = q; i = 0; at = 0; len = 0 }) h f f
warning_loop s kept out n {q} k e r g =
    record {
      follows = record { short = omega arith; along = λ o. along s e r };
      all = ap (λ (x : List Event). all_pushed (warnings_in x) (slice_by out (Ok n))) from;
      left = g ∙ ap (numbers_in _) from;
      fits = k;
      short = omega arith;
    }
  where
    from : variable_events (scene_of (payload s)) 0 (scene_of (payload s)).variables ≡ events_at (scene_of (payload s)) (lon_mentions (scene_of (payload s)) 0 (variables_at (payload s) q))
    from = ap (variable_events (scene_of (payload s)) 0) ((scene_lists (payload s)).1 ∙ e.all) ∙ (mention_events (scene_of (payload s)) 0 (variables_at (payload s) q))

module _ {s kept out₀ : List ℕ} {n₀ : ℕ} {out : List ℕ} {n : ℕ} {starts : List ℕ} {c : Cursor} {k f j : ℕ} (d : WarningLoop s kept out₀ n₀ out n starts c k f j) where
  abbrev lons : Scene
  lons = scene_of (payload s)

  pub all_variables : {end : Cursor} {starts' : List ℕ} → Asked s true c (Err end) starts' → Warned (warnings_in (variable_events lons 0 lons.variables)) out₀ n₀ out (Ok n)
  unfolding all_pushed warnings_in
  all_variables a = record { written = sym (d.all ∙ rw a.lists refl); fits = d.fits }

  -- one more mention
  module _ (m : code-mention.Mention) {starts' : List ℕ} (a : Asked s true c (Ok m) starts') {b : Bool} (is : b ≡ first_is j (drop k kept)) where
    lons_left : drop k kept ≡ numbers_in j (event_at lons (mention_by (payload s) m) ∷ events_at lons (mentions_at (payload s) true m.next))
    lons_left = rw a.lists at d.left

    lons-all : all_pushed (warnings_in (variable_events lons 0 lons.variables)) (slice_by out₀ (Ok n₀)) ≡ all_pushed (warnings_in (event_at lons (mention_by (payload s) m) ∷ events_at lons (mentions_at (payload s) true m.next))) (slice_by out (Ok n))
    lons-all = rw a.lists at d.all

    lon_event_lem : is_control (event_at lons (mention_by (payload s) m)) ≡ b
    lon_event_lem = kept-is _ k j _ _ lons_left is

    pub lon_fits : b ≡ true → k < length kept
    lon_fits y = kept_fits kept k j _ _ lons_left (lon_event_lem ∙ y)

    pub lon_control : b ≡ true → WarningLoop s kept out₀ n₀ out n starts' m.next (k + 1) f (j + 1)
    lon_control y =
        rw
        (add-one j)
        (record {
          follows = a.follows;
          all = lons-all ∙ control_next _ _ _ (lon_event_lem ∙ y);
          left = kept_control kept k j _ _ lons_left (lon_event_lem ∙ y);
          fits = d.fits;
          short = omega (arith, d.short, a.first.more);
        })

    module _ {positions : List ℕ} (g : ResolvedNames s positions lons.features) (y : b ≡ false) {kind : ℕ} (x : kind ≡ kind_by m.lat (any_name_is (payload s) positions (bytes_at (payload s) m.at m.len))) (out' : List ℕ) (p : Result ℕ NoRoom) (u : slice_by out' p ≡ pushed (record { kind = kind; index = m.index }) (slice_by out (Ok n))) where
      pushed-lons : all_pushed (warnings_in (variable_events lons 0 lons.variables)) (slice_by out₀ (Ok n₀)) ≡ all_pushed (warnings_in (events_at lons (mentions_at (payload s) true m.next))) (slice_by out' p)
      pushed-lons = rw (u, x) (lons-all ∙ warn_next _ _ _ (lon_warns lons m.index _ m.lon m.lat (g.names _) (lon_event_lem ∙ y)))

      -- the warning lacks room
      pub lon_shut : {e : NoRoom} → p ≡ Err e → Warned (warnings_in (variable_events lons 0 lons.variables)) out₀ n₀ out' p
      lon_shut {e} z = record { written = rw (pushed-lons, z, all_shut _ out' e.used) refl; fits = push_fits _ (slice_by out (Ok n)) u d.fits }

      pub lon_warned : {m' : ℕ} → p ≡ Ok m' → WarningLoop s kept out₀ n₀ out' m' starts' m.next k f (j + 1)
      lon_warned z =
          rw
          (add-one j)
          (record {
            follows = a.follows;
            all = rw z at pushed-lons;
            left = kept_warn kept k j _ _ lons_left (lon_event_lem ∙ y);
            fits = rw z at (push_fits _ (slice_by out (Ok n)) u d.fits);
            short = omega (arith, d.short, a.first.more);
          })

-- ---- features, then variables
module _ (sc : Scene) {out out' : List ℕ} {n : ℕ} where
  pub names_told : {m : ℕ} {out'' : List ℕ} {r : Result ℕ NoRoom} → Warned (warnings_in (feature_events sc 0 sc.features)) out n out' (Ok m) → Warned (warnings_in (variable_events sc 0 sc.variables)) out' m out'' r → Warned (warnings_in (events sc)) out n out'' r
  unfolding events
  names_told f g = rw (warnings_append (feature_events sc 0 sc.features) (variable_events sc 0 sc.variables)) (both_written f g)

  pub features_shut : {e : NoRoom} → Warned (warnings_in (feature_events sc 0 sc.features)) out n out' (Err e) → Warned (warnings_in (events sc)) out n out' (Err e)
  unfolding events
  features_shut f = rw (warnings_append (feature_events sc 0 sc.features) (variable_events sc 0 sc.variables)) (first_shut _ f)

  pub features_told : {m : ℕ} → Warned (warnings_in (feature_events sc 0 sc.features)) out n out' (Ok m) → variable_events sc 0 sc.variables ≡ [] → Warned (warnings_in (events sc)) out n out' (Ok m)
  unfolding warnings_in
  features_told f h = names_told f (rw h (none_written f.fits))
