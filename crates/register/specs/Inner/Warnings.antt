-- Warnings as the code writes them into a lent slice, two numbers each, up to the first that lacks room, and of which names.
use Rattle.std.specs.Prelude.{ℕ, ◌+◌, ◌≤◌, ◌<◌, ◌≡◌, Bool, false, ◌&&◌, ◌||◌, cond, List, [], ◌∷◌, length, drop, get_or, eqb, Float, Option, None, Some, is_some, Result, Ok, Err}
use Rattle.stream.specs.Payload.{payload}
use Rattle.stream.specs.Inner.Payload.{room}
use Rattle.records.specs.Records.{bytes_at}
use Rattle.scene.specs.Scene.{NamedFeature, scene_of}
use Rattle.scene.specs.Labels.{same_bytes}
use Rattle.values.specs.Warnings.{Warning}
use Rattle.values.specs.declared.warning.NoRoom.{NoRoom}
use Rattle.values.specs.Inner.Warnings.{WarningSlice, cursor_by, all_pushed}
use Rattle.register.specs.declared.warnings.FeatureWarnings.{FeatureWarnings}
use Rattle.register.specs.Register.{resolved, mentioned, variable_events}
use Rattle.register.specs.Inner.Gathered.{numbers_in}

-- ---- numbers of names that are control points
-- the first of these is j
unfoldable pub first_is : ℕ → List ℕ → Bool
first_is j [] = false
first_is j (k ∷ ks) = eqb k j

-- ---- names, by where their lengths stand
-- one of these is x
unfoldable pub any_name_is : List ℕ → List ℕ → List ℕ → Bool
any_name_is l [] x = false
any_name_is l (p ∷ ps) x = same_bytes (bytes_at l (p + 1) (get_or l p 0)) x || any_name_is l ps x

-- the names at these positions lie within the payload
pub record NamesFit (s positions : List ℕ) : Type 0 where
  pub within : (k : ℕ) → k < length positions → get_or positions k 0 + 1 + get_or (payload s) (get_or positions k 0) 0 ≤ room s

-- the names at these positions are those of fs that resolve
pub record ResolvedNames (s positions : List ℕ) (fs : List NamedFeature) : Type 0 where
  pub stands : NamesFit s positions
  pub names : (x : List ℕ) → any_name_is (payload s) positions x ≡ (is_some (resolved (scene_of (payload s)) x) && mentioned x fs)

-- 64 positions in a stream, as numbers of 32 bits, have room
pub record PositionRoom (s positions : List ℕ) : Type 0 where
  pub small : room s < 33554432
  pub sized : length positions ≡ 64

-- what is known behind the host features: where the names of control points stand, and which of the kept numbers are left for the variables
pub record AfterFeatures (s kept positions : List ℕ) (features : ℕ) : Type 0 where
  pub resolved_names : ResolvedNames s positions (scene_of (payload s)).features
  pub left : drop (length positions) kept
      ≡ numbers_in features (variable_events (scene_of (payload s)) 0 (scene_of (payload s)).variables)
  pub short : features ≤ room s

-- the warning of a mention that is no control point, where b says that a host feature which resolves has its name
unfoldable pub kind_by : Option Float → Bool → ℕ
kind_by None b = 2
kind_by (Some lat) b = cond b 3 2

-- ---- what is written
-- the slice `out` and how far it is used, as an answer tells it
abbrev pub slice_by : List ℕ → Result ℕ NoRoom → WarningSlice
slice_by out r = record { out = out; cursor = cursor_by r }

-- these warnings are written behind `used` numbers, up to the first that lacks room
pub record Warned (ws : List Warning) (out : List ℕ) (used : ℕ) (out' : List ℕ) (r : Result ℕ NoRoom) : Type 0 where
  pub written : slice_by out' r ≡ all_pushed ws (slice_by out (Ok used))
  pub fits : (cursor_by r).used ≤ length out'

abbrev pub used_of : Result FeatureWarnings NoRoom → Result ℕ NoRoom
used_of (Ok f) = Ok f.used
used_of (Err e) = Err e
