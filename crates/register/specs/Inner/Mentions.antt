-- Names one after another, of host features and of `<L>_lon` variables, with what they come to.
use Rattle.std.specs.Prelude.{◌≡◌, ℕ, suc, ◌+◌, ◌-◌, ◌≤◌, ◌<◌, Bool, true, false, ◌||◌, cond, List, [], ◌∷◌, ◌++◌, get_or, Float, Option, None, Some, Result, Ok, Err, IfOk, IfErr}
use Rattle.stream.specs.Payload.{payload}
use Rattle.stream.specs.Inner.Payload.{room}
use Rattle.records.specs.Records.{bytes_at}
use Rattle.scene.specs.Scene.{Scene, NamedFeature, NamedValue, scene_of}
use Rattle.scene.specs.Labels.{same_bytes}
use Rattle.scene.specs.Inner.Answers.{features_at, variables_at}
use Rattle.register.specs.declared.mentions.Cursor.{Cursor}
use Rattle.register.specs.declared.mentions.Mention as code-mention
use Rattle.register.specs.Register.{Event, warn, resolved, event_of, suffix_lat, var, stem, is_lon}
use Rattle.register.specs.Inner.LatLookup.{Along}

-- a name, and where it is said to be; `_lat` may not be set
pub record Mention : Type 0 where
  pub name : List ℕ
  pub lon : Float
  pub lat : Option Float
  pub index : ℕ

-- the features fs, the first of them the i-th
unfoldable pub feature_mentions : ℕ → List NamedFeature → List Mention
feature_mentions i [] = []
feature_mentions i (f ∷ fs) = record { name = f.name; lon = f.lon; lat = Some f.lat; index = i } ∷ feature_mentions (suc i) fs

abbrev pub lon_mention : Scene → ℕ → NamedValue → Mention
lon_mention sc i v = record { name = stem v.name; lon = v.value; lat = var sc (stem v.name ++ suffix_lat); index = i }

-- the variables vs, the first of them the i-th
unfoldable pub lon_mentions : Scene → ℕ → List NamedValue → List Mention
lon_mentions sc i [] = []
lon_mentions sc i (v ∷ vs) = cond (is_lon v.name) (lon_mention sc i v ∷ lon_mentions sc (suc i) vs) (lon_mentions sc (suc i) vs)

-- ---- what they come to: `was` tells which names were before
abbrev pub event_with : Scene → ℕ → Bool → Mention → Option Float → Event
event_with sc again b m None = warn (record { kind = 2; index = m.index })
event_with sc again b m (Some lat) =
    event_of (resolved sc m.name) b m.lon lat (record { kind = 2; index = m.index }) (record { kind = again; index = m.index })

abbrev pub grown_by : (List ℕ → Bool) → List ℕ → Option Float → List ℕ → Bool
grown_by was x None y = was y
grown_by was x (Some lat) y = was y || same_bytes x y

-- the first mention of a name that has a latitude is a control point, if the name resolves
unfoldable pub events_of : Scene → ℕ → (List ℕ → Bool) → List Mention → List Event
events_of sc again was [] = []
events_of sc again was (m ∷ ms) =
    event_with sc again (was m.name) m m.lat ∷ events_of sc again (grown_by was m.name m.lat) ms

-- ---- from a cursor on: host features, or variables
abbrev pub mentions_at : List ℕ → Bool → Cursor → List Mention
mentions_at l true c = lon_mentions (scene_of l) c.i (variables_at l c.q)
mentions_at l false c = feature_mentions c.i (features_at l c.q)

abbrev pub more_of : Bool → ℕ
more_of true = 4
more_of false = 0

abbrev pub mention_by : List ℕ → code-mention.Mention → Mention
mention_by l r = record { name = bytes_at l r.at r.len; lon = r.lon; lat = r.lat; index = r.index }

abbrev pub mentions_by : List ℕ → Bool → Result code-mention.Mention Cursor → List Mention
mentions_by l lons (Ok m) = mention_by l m ∷ mentions_at l lons m.next
mentions_by l lons (Err end) = []

-- where the next one is looked for
abbrev pub behind : Result code-mention.Mention Cursor → Cursor
behind (Ok m) = m.next
behind (Err end) = end

-- what is known at a cursor
pub record Follows (s : List ℕ) (lons : Bool) (c : Cursor) (starts : List ℕ) : Type 0 where
  pub short : c.i ≤ c.q
  pub along : lons ≡ true → Along s starts c.at c.len c.q

-- the name of a mention stands behind its length, which is `more` too great, and before eight bytes at least
pub record MentionFits (s : List ℕ) (more : ℕ) (m : code-mention.Mention) : Type 0 where
  pub behind : 1 ≤ m.at
  pub prefix : get_or (payload s) (m.at - 1) 0 ≡ m.len + more
  pub few : m.len + more ≤ 31
  pub within : m.at + m.len + 8 ≤ room s

-- the first mention from c on
pub record FirstMention (s : List ℕ) (lons : Bool) (c : Cursor) (m : code-mention.Mention) : Type 0 where
  pub more : c.q < m.next.q
  pub fits : m.next.q ≤ room s
  pub index : m.index + 1 ≡ m.next.i
  pub stands : MentionFits s (more_of lons) m

-- the answer r to the question from c on
pub record Asked (s : List ℕ) (lons : Bool) (c : Cursor) (r : Result code-mention.Mention Cursor) (starts : List ℕ) : Type 0 where
  pub lists : mentions_at (payload s) lons c ≡ mentions_by (payload s) lons r
  pub ends : IfErr r (λ end. mentions_at (payload s) lons end ≡ [])
  pub follows : Follows s lons (behind r) starts
  pub onward : c.q ≤ (behind r).q
  pub first : IfOk r (FirstMention s lons c)
