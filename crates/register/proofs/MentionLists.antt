-- The first name from a cursor on: of a host feature, or of a `<L>_lon` variable behind those that are none.
use mathlib.Core.Path.{◌≡◌, refl, sym, ◌∙◌}
use Rattle.std.specs.Prelude.{Option, Some, Ok, Err}
use mathlib.Core.Bool.{Bool, true, false, false≢true}
use mathlib.Core.List.{List, [], ◌∷◌, ◌++◌}
use Prim.Native.Nat.{ℕ, ◌+◌, ◌-◌, ◌≤◌}
use native.Mathlib.Numerals.{add-one}
use native.Mathlib.Omega.{arith}
use lib.ListN.{get_or}
use lib.Ieee.{Float}
use Rattle.stream.specs.Payload.{payload}
use Rattle.stream.specs.Inner.Payload.{room}
use Rattle.stream.specs.Laws.Payload.{payload-length}
use Rattle.records.specs.Records.{bytes_at}
use Rattle.scene.specs.declared.readers.Feature.{Feature}
use Rattle.scene.specs.declared.readers.Variable.{Variable}
use Rattle.scene.specs.Scene.{Scene, NamedValue, scene_of}
use Rattle.scene.specs.Labels.{variable_of}
use Rattle.scene.specs.Inner.Answers.{Within, LengthPrefixed, features_at, features_by, variables_at}
use Rattle.register.specs.declared.mentions.Cursor.{Cursor}
use Rattle.register.specs.declared.mentions.Mention as code-mention
use Rattle.register.specs.Register.{suffix_lat, var, stem, is_lon}
use Rattle.register.specs.Inner.LatLookup.{Along, FirstVariable}
use Rattle.register.specs.Inner.Mentions.{lon_mention, feature_mentions, lon_mentions, mentions_at, Follows, Asked}
use Rattle.register.proofs.VariableSteps.{here_of, is_lon_lem, stem-is, start_finds, long}

-- ---- host features
-- where there is none, nothing is asked of the variables
featured : (s starts : List ℕ) (c : Cursor) → c.i ≤ c.q → Follows s false c starts
featured s starts c h = record { short = h; along = λ e. absurd (false≢true e) }

module _ (s : List ℕ) (c : Cursor) (h : c.i ≤ c.q) where
  pub no_feature : features_at (payload s) c.q ≡ [] → (starts : List ℕ) → Asked s false c (Err c) starts
  unfolding feature_mentions
  no_feature e starts =
      let z : mentions_at (payload s) false c ≡ [] = rw e refl in
      record { lists = z; ends = z; follows = featured s starts c h; onward = omega arith; first = tt }

  -- the mention of a feature
  abbrev pub feature_answer : Feature → code-mention.Mention
  feature_answer f = record { at = f.at; len = f.len; lon = f.lon; lat = Some f.lat; index = c.i; next = record { q = f.next; i = c.i + 1; at = 0; len = 0 } }

  pub one-feature : (f : Feature) → features_at (payload s) c.q ≡ features_by (payload s) (Some f) → Within (room s) c.q f.at f.len f.next → LengthPrefixed (payload s) f.at f.len → (starts : List ℕ) → Asked s false c (Ok (feature_answer f)) starts
  unfolding feature_mentions
  one-feature f e w d starts =
      record {
        lists = rw (e, add-one) refl;
        ends = tt;
        follows = featured s starts (feature_answer f).next (omega (arith, w.more));
        onward = omega (arith, w.more);
        first =
            record {
              more = w.more;
              fits = w.fits;
              index = refl;
              stands = record { behind = d.behind; prefix = d.prefix ∙ omega arith; few = omega (arith, d.short); within = omega (arith, d.fits, payload-length s) };
            };
      }

-- ---- variables
-- those from the cursor c₀ on have the same mentions as those from c on
pub record Looking (s : List ℕ) (c₀ : Cursor) (starts : List ℕ) (c : Cursor) : Type 0 where
  pub along : Along s starts c.at c.len c.q
  pub short : c.i ≤ c.q
  pub onward : c₀.q ≤ c.q
  pub rest : lon_mentions (scene_of (payload s)) c₀.i (variables_at (payload s) c₀.q) ≡ lon_mentions (scene_of (payload s)) c.i (variables_at (payload s) c.q)

lon_next : (sc : Scene) (i : ℕ) (v : NamedValue) (vs : List NamedValue) → is_lon v.name ≡ true → lon_mentions sc i (v ∷ vs) ≡ lon_mention sc i v ∷ lon_mentions sc (i + 1) vs
unfolding lon_mentions
lon_next sc i v vs e = rw (e, add-one) refl

other_next : (sc : Scene) (i : ℕ) (v : NamedValue) (vs : List NamedValue) → is_lon v.name ≡ false → lon_mentions sc i (v ∷ vs) ≡ lon_mentions sc (i + 1) vs
unfolding lon_mentions
other_next sc i v vs e = rw (e, add-one) refl

-- the cursor behind the variable v
abbrev pub cursor_behind : Variable → ℕ → Cursor
cursor_behind v i = record { q = v.next; i = i + 1; at = v.at; len = v.len }

-- the mention of a `_lon` variable
abbrev pub lon_answer : Variable → ℕ → Option Float → code-mention.Mention
lon_answer v i lat = record { at = v.at; len = v.len - 4; lon = v.value; lat = lat; index = i; next = cursor_behind v i }

module _ {s : List ℕ} {c₀ : Cursor} {starts : List ℕ} {c : Cursor} (d : Looking s c₀ starts c) where
  pub no_lon : variables_at (payload s) c.q ≡ [] → Asked s true c₀ (Err c) starts
  unfolding lon_mentions
  no_lon e =
      let z : lon_mentions (scene_of (payload s)) c.i (variables_at (payload s) c.q) ≡ [] = rw e refl in
      record { lists = d.rest ∙ z; ends = z; follows = record { short = d.short; along = λ _. d.along }; onward = d.onward; first = tt }

  -- one more variable
  module _ {v : Variable} (f : FirstVariable s c.q v) {to : List ℕ} (a : Along s to v.at v.len v.next) {t : Bool} (e : t ≡ is_lon (bytes_at (payload s) v.at v.len)) where
    pub on_other : t ≡ false → Looking s c₀ to (cursor_behind v c.i)
    on_other h =
        record {
          along = a;
          short = omega (arith, d.short, f.within.more);
          onward = omega (arith, d.onward, f.within.more);
          rest = d.rest ∙ rw f.lists (other_next (scene_of (payload s)) c.i (here_of s v) (variables_at (payload s) v.next) (sym e ∙ h));
        }

    pub one_lon : t ≡ true → (lat : Option Float) → lat ≡ variable_of (bytes_at (payload s) v.at (v.len - 4) ++ suffix_lat) (variables_at (payload s) (get_or to (v.len - 2) 0))
        → Asked s true c₀ (Ok (lon_answer v c.i lat)) to
    one_lon h lat w =
        let l = long a e h in
        let z : var (scene_of (payload s)) (stem (here_of s v).name ++ suffix_lat) ≡ lat = sym (start_finds a e h) ∙ rw (stem-is a e h) (sym w) in
        record {
          lists = d.rest ∙ rw f.lists (lon_next (scene_of (payload s)) c.i (here_of s v) (variables_at (payload s) v.next) (is_lon_lem a e h) ∙ rw (z, stem-is a e h) refl);
          ends = tt;
          follows = record { short = omega (arith, d.short, f.within.more); along = λ _. a };
          onward = omega (arith, d.onward, f.within.more);
          first =
              record {
                more = omega (arith, d.onward, f.within.more);
                fits = f.within.fits;
                index = refl;
                stands =
                    record {
                      behind = f.prefixed.behind;
                      prefix = f.prefixed.prefix ∙ omega arith;
                      few = omega (arith, f.prefixed.short);
                      within = omega (arith, f.prefixed.fits, payload-length s);
                    };
              };
        }
