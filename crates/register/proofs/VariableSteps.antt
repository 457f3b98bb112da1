-- One turn of a loop over the variables, in the order of their names: where it stands, and what the lookup of `<L>_lat` asks for.
use mathlib.Core.Path.{◌≡◌, refl, sym, ◌∙◌}
use mathlib.Core.Bool.{Bool, true}
use mathlib.Core.List.{List, [], ◌++◌}
use Prim.Native.Nat.{ℕ, ◌+◌, ◌-◌, ◌≤◌}
use native.Mathlib.Omega.{arith}
use lib.ListN.{length, get_or, replicate}
use Rattle.stream.specs.Payload.{payload}
use Rattle.records.specs.Records.{bytes_at}
use Rattle.scene.specs.declared.readers.Variable.{Variable}
use Rattle.scene.specs.Scene.{NamedValue, scene_of}
use Rattle.scene.specs.Labels.{variable_of}
use Rattle.scene.specs.Inner.Answers.{variables_at, VariablesFrom}
use Rattle.scene.specs.Laws.Rising.{Rising}
use Rattle.register.specs.Register.{suffix_lon, suffix_lat, stem, var, is_lon}
use Rattle.records.specs.Inner.Names.{common_prefix}
use Rattle.register.specs.Inner.LatLookup.{prefix_starts, Along, FirstVariable}
use Rattle.records.specs.Laws.Names.{name-length}
use Rattle.register.proofs.LonNames.{stem-at, ending_at, lon_ends, lon_long, lon_near}
use Rattle.register.proofs.Lookup.{none_passed, one_passed}

pub along : (s : List ℕ) {q : ℕ} → VariablesFrom (payload s) q → Rising [] (variables_at (payload s) 0) → Along s (replicate 32 0) 0 0 q
unfolding bytes_at
along s {q} e r = record { passed = none_passed (variables_at (payload s)) q e.all r; within = omega arith; short = omega arith }

-- the variable of an answer
abbrev pub here_of : List ℕ → Variable → NamedValue
here_of s v = record { name = bytes_at (payload s) v.at v.len; value = v.value }

pub turned : {s starts : List ℕ} {at len q : ℕ} {v : Variable} {to : List ℕ} {common : ℕ} → Along s starts at len q → FirstVariable s q v
    → (common ≡ common_prefix (bytes_at (payload s) at len) (bytes_at (payload s) v.at v.len)) × (common ≤ len) → to ≡ prefix_starts starts common q → Along s to v.at v.len v.next
turned {s} {v = v} before first alike next =
    record {
      passed = rw next (one_passed (variables_at (payload s)) before.passed (here_of s v) v.next first.lists alike.0 (omega (arith, alike.1, before.short)));
      within = first.within.name;
      short = first.prefixed.short;
    }

-- ---- the current variable is `<L>_lon`
module _ {s starts : List ℕ} {at len q : ℕ} (p : Along s starts at len q) {t : Bool} (e : t ≡ is_lon (bytes_at (payload s) at len)) (h : t ≡ true) where
  abbrev name : List ℕ
  name = bytes_at (payload s) at len

  pub is_lon_lem : is_lon name ≡ true
  is_lon_lem = sym e ∙ h

  length-is : length name ≡ len
  length-is = name-length s at len p.within

  pub long : 4 ≤ len
  long = omega (arith, lon_long name is_lon_lem, length-is)

  pub stem-is : stem name ≡ bytes_at (payload s) at (len - 4)
  stem-is = stem-at s at len p.within long

  -- what the lookup asks for
  pub suffix : bytes_at (payload s) (at + (len - 4)) 4 ≡ suffix_lon
  suffix = sym (ending_at s at len p.within long refl) ∙ lon_ends name is_lon_lem

  pub start_rises : Rising [] (variables_at (payload s) (get_or starts (len - 2) 0))
  start_rises = p.passed.starts_rise (len - 2) (omega (arith, p.short))

  -- what is found from a start on is found among all variables
  pub start_finds : variable_of (stem name ++ suffix_lat) (variables_at (payload s) (get_or starts (len - 2) 0)) ≡ var (scene_of (payload s)) (stem name ++ suffix_lat)
  unfolding scene_of
  start_finds =
      let y : len - 2 ≡ length name - 2 = omega (arith, length-is) in
      sym (p.passed.near (len - 2) _ (omega (arith, p.short)) (omega (arith, length-is)) (rw y (lon_near name is_lon_lem)))
