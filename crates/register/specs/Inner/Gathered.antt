-- Control points as the code gathers them: counted up to 65, the first 64 kept with the numbers of their names.
use Rattle.std.specs.Prelude.{◌≡◌, ◌⊎◌, Bool, true, false, cond, ◌||◌, List, [], ◌∷◌, ◌++◌, ℕ, suc, ◌+◌, ◌%◌, ◌≤◌, ◌<◌, length, take, drop, get_or, eqb, ltb, Float, Option, None, Some, is_some}
use Rattle.stream.specs.Payload.{payload}
use Rattle.stream.specs.Inner.Payload.{room}
use Rattle.scene.specs.declared.labels.Best.{Best}
use Rattle.scene.specs.Scene.{Scene, scene_of}
use Rattle.values.specs.declared.Point.{Point}
use Rattle.scene.specs.Labels.{same_bytes}
use Rattle.fit.specs.declared.Control.{Control}
use Rattle.names.specs.Inner.Table.{name_of, mark_of, marked, Table, Unmarked, Contains}
use Rattle.names.specs.Inner.Batch.{slot_point}
use Rattle.register.specs.declared.controls.Tally.{Tally}
use Rattle.register.specs.declared.controls.FilledBatch as code-filled
use Rattle.register.specs.declared.mentions.Cursor.{Cursor}
use Rattle.register.specs.declared.survey.Survey.{Survey}
use Rattle.register.specs.Register.{Event, control, warn, all_within_limits, resolved, mentioned, feature_events, variable_events, controls_in, controls_of, events}
use Rattle.register.specs.Inner.Mentions.{Mention, feature_mentions, grown_by, events_of, mentions_at, more_of, Follows}

-- which events are control points, the first event being the j-th
unfoldable pub numbers_in : ℕ → List Event → List ℕ
numbers_in j [] = []
numbers_in j (control c ∷ es) = j ∷ numbers_in (suc j) es
numbers_in j (warn w ∷ es) = numbers_in (suc j) es

abbrev pub up_to65 : ℕ → ℕ
up_to65 n = cond (ltb 64 n) 65 n

-- a table has some names, and is 44 KiB at most
pub record TableSize (n : ℕ) : Type 0 where
  pub some : 1 ≤ n
  pub most : n ≤ 11264

-- room for 64 control points, and for the numbers of their names
pub record ControlRoom (held : List Control) (kept : List ℕ) : Type 0 where
  pub held_room : length held ≡ 64
  pub kept-room : length kept ≡ 64

-- cs are gathered, of the names js; where b is false, only how many there are is known, and whether all are placed
pub record Holds (b : Bool) (cs : List Control) (js : List ℕ) (g : Tally) (held : List Control) (kept : List ℕ) : Type 0 where
  pub count : g.n ≡ up_to65 (length cs)
  pub within : g.within ≡ all_within_limits cs
  pub controls : b ≡ true → length cs ≤ 64 → take (length cs) held ≡ cs
  pub numbers : b ≡ true → length cs ≤ 64 → take (length cs) kept ≡ js
  pub as_many : length js ≡ length cs
  pub room_for : length held ≡ 64
  pub kept-room : length kept ≡ 64

-- all control points of a scene are gathered, and where there are not too many, the numbers of their names
abbrev pub Gathers : Scene → Tally → List Control → List ℕ → Type 0
Gathers sc g held kept = Holds true (controls_of sc) (numbers_in 0 (events sc)) g held kept

abbrev pub Kept : Scene → List ℕ → Type 0
Kept sc kept = take (length (controls_of sc)) kept ≡ numbers_in 0 (events sc)

-- n is how many control points a scene has, and `kept`, which has room for 64, has the numbers of their names
pub record KeptControls (sc : Scene) (n : ℕ) (kept : List ℕ) : Type 0 where
  pub count : n ≡ length (controls_of sc)
  pub kept-room : length kept ≡ 64
  pub numbers : Kept sc kept

-- `kept` has the numbers of the names of all control points, of which there are 64 at most
pub record KeptNumbers (sc : Scene) (kept : List ℕ) : Type 0 where
  pub few : length kept ≤ 64
  pub numbers : kept ≡ numbers_in 0 (events sc)

-- ---- a batch of names
-- a table of n names of a stream can take one more
pub record TableRoom (more : ℕ) (s t : List ℕ) (n : ℕ) : Type 0 where
  pub small : room s < 33554432
  pub free : n < length t
  pub table : Table more (payload s) t n

-- the mention has the name x and a latitude
abbrev pub named : List ℕ → Mention → Option Float → Bool
named x m None = false
named x m (Some lat) = same_bytes m.name x

-- one of them does
unfoldable pub among : List ℕ → List Mention → Bool
among x [] = false
among x (m ∷ ms) = named x m m.lat || among x ms

-- the name of m became one of the entries, if m has a latitude
pub record Added (more : ℕ) (l t t' : List ℕ) (n r : ℕ) (m : Mention) : Type 0 where
  pub count : (n ≤ r) × (r ≤ n + 1)
  pub table : Table more l t' r
  pub unmarked : Unmarked t n → Unmarked t' r
  pub new : (x : List ℕ) → named x m m.lat ≡ true → Contains more l t' r x
  pub old : (x : List ℕ) → Contains more l t n x → Contains more l t' r x
  pub only : (x : List ℕ) → Contains more l t' r x → Contains more l t n x ⊎ (named x m m.lat ≡ true)

-- a table holds the names of the first mentions from c on
pub record Filling (s : List ℕ) (lons : Bool) (c : Cursor) (r : code-filled.FilledBatch) (t : List ℕ) : Type 0 where
  pub enough : r.count ≤ length (mentions_at (payload s) lons c)
  pub table : Table (more_of lons) (payload s) t r.n
  pub unmarked : Unmarked t r.n
  pub all : (x : List ℕ) → among x (take r.count (mentions_at (payload s) lons c)) ≡ true → Contains (more_of lons) (payload s) t r.n x
  pub only : (x : List ℕ) → Contains (more_of lons) (payload s) t r.n x → among x (take r.count (mentions_at (payload s) lons c)) ≡ true

-- a batch is filled from c on, and the next one begins at its end
pub record Batch (s : List ℕ) (lons : Bool) (c : Cursor) (r : code-filled.FilledBatch) (t starts : List ℕ) : Type 0 where
  pub filling : Filling s lons c r t
  pub follows : Follows s lons r.next starts
  pub rest : mentions_at (payload s) lons r.next ≡ drop r.count (mentions_at (payload s) lons c)
  -- the table is full, or no mention is left
  pub ends : r.n < length t → mentions_at (payload s) lons r.next ≡ []
  pub onward : c.q ≤ r.next.q
  pub more : r.n ≡ 0 ⊎ (c.q < r.next.q)
  pub fits : r.n ≡ 0 ⊎ (c.q < room s)

-- a batch is filled from c on, and its first name is the base-th of all names that were surveyed
pub record BatchFrom (s : List ℕ) (v : Survey) (lons : Bool) (c : Cursor) (f : code-filled.FilledBatch) (t starts : List ℕ) (base : ℕ) : Type 0 where
  pub counted : base + f.count ≤ v.name_count
  pub follows : Follows s lons c starts
  pub filling : Filling s lons c f t

-- ---- marks
-- the name x is known: its entry, if there is one, had the mark r and has none now
pub record Taken (more : ℕ) (l t t' : List ℕ) (n : ℕ) (x : List ℕ) (r : ℕ) : Type 0 where
  pub table : Table more l t' n
  pub names : (i : ℕ) → get_or t' i 0 % 33554432 ≡ get_or t i 0 % 33554432
  pub mark : (i : ℕ) → i < n → name_of more l (get_or t i 0) ≡ x → r ≡ mark_of (get_or t i 0)
  pub gone : (i : ℕ) → i < n → name_of more l (get_or t i 0) ≡ x → mark_of (get_or t' i 0) ≡ 0
  pub others : (i : ℕ) → i < n → (name_of more l (get_or t i 0) ≡ x → ⊥) → get_or t' i 0 ≡ get_or t i 0
  pub from : 1 ≤ r → Contains more l t n x
  pub counted : marked t n ≡ marked t' n + cond (eqb r 0) 0 1

-- which names of a table resolve and were not before: those that have a mark
pub record MarksTell (sc : Scene) (more : ℕ) (l t : List ℕ) (n : ℕ) (spots : List Best) (was : List ℕ → Bool) : Type 0 where
  pub no_more : (i : ℕ) → i < n → mark_of (get_or t i 0) ≡ 0 → (is_some (resolved sc (name_of more l (get_or t i 0))) ≡ false) ⊎ (was (name_of more l (get_or t i 0)) ≡ true)
  pub resolves : (i : ℕ) → i < n → 1 ≤ mark_of (get_or t i 0) → is_some (resolved sc (name_of more l (get_or t i 0))) ≡ true
  pub unnamed : (i : ℕ) → i < n → 1 ≤ mark_of (get_or t i 0) → was (name_of more l (get_or t i 0)) ≡ false
  pub spot : (i : ℕ) → i < n → 1 ≤ mark_of (get_or t i 0) → mark_of (get_or t i 0) ≤ 64
      → resolved sc (name_of more l (get_or t i 0)) ≡ slot_point spots (mark_of (get_or t i 0))

abbrev pub no_name : List ℕ → Bool
no_name x = false

-- after the first i host features
abbrev pub among_features : Scene → ℕ → List ℕ → Bool
among_features sc i x = mentioned x (take i sc.features)

abbrev pub Fewer : List ℕ → List ℕ → ℕ → Type 0
Fewer t t' n = (i : ℕ) → i < n → mark_of (get_or t' i 0) ≤ mark_of (get_or t i 0)

-- the names of the first i host features wait no more, and each that did was a control point among them
pub record KnownCleared (l : List ℕ) (more : ℕ) (t t' : List ℕ) (n i : ℕ) : Type 0 where
  pub table : Table more l t' n
  pub names : (k : ℕ) → get_or t' k 0 % 33554432 ≡ get_or t k 0 % 33554432
  pub fewer : Fewer t t' n
  pub waits : (spots : List Best) → MarksTell (scene_of l) more l t n spots no_name → MarksTell (scene_of l) more l t' n spots (among_features (scene_of l) i)
  pub counted : (spots : List Best) → MarksTell (scene_of l) more l t n spots no_name
      → marked t n ≤ marked t' n + length (controls_in (events_of (scene_of l) 2 no_name (feature_mentions 0 (take i (scene_of l).features))))

-- ---- the mentions ms are read: what is known before
pub record BeforeRead (l : List ℕ) (lons : Bool) (ms : List Mention) (t : List ℕ) (n : ℕ) (spots : List Best) (g : Tally) (held : List Control) (kept : List ℕ) : Type 0 where
  pub was : List ℕ → Bool
  pub b : Bool
  pub cs : List Control
  pub js : List ℕ
  pub waits : MarksTell (scene_of l) (more_of lons) l t n spots was
  pub inside : (x : List ℕ) → among x ms ≡ true → Contains (more_of lons) l t n x
  pub slots : b ≡ true → (i : ℕ) → i < n → mark_of (get_or t i 0) ≤ 64
  pub holds : Holds b cs js g held kept

abbrev pub again_of : Bool → ℕ
again_of true = 3
again_of false = 2

unfoldable pub grown_all : (List ℕ → Bool) → List Mention → List ℕ → Bool
grown_all was [] y = was y
grown_all was (m ∷ ms) y = grown_all (grown_by was m.name m.lat) ms y

-- what is known after the mentions ms are read: their control points are gathered, the first of their names being the j-th of all
pub record AfterRead (l : List ℕ) (lons : Bool) (ms : List Mention) (t t' : List ℕ) (n : ℕ) (spots : List Best) (j : ℕ) (was : List ℕ → Bool) (b : Bool) (cs : List Control) (js : List ℕ) (r : Tally) (held : List Control) (kept : List ℕ) : Type 0 where
  pub names : (k : ℕ) → get_or t' k 0 % 33554432 ≡ get_or t k 0 % 33554432
  pub fewer : Fewer t t' n
  pub waits : MarksTell (scene_of l) (more_of lons) l t' n spots (grown_all was ms)
  pub holds : Holds b (cs ++ controls_in (events_of (scene_of l) (again_of lons) was ms)) (js ++ numbers_in j (events_of (scene_of l) (again_of lons) was ms)) r held kept
  -- each mark that is gone was a control point
  pub counted : marked t n ≤ marked t' n + length (controls_in (events_of (scene_of l) (again_of lons) was ms))

-- what was known before the mentions ms are read is known after it too
abbrev pub Reads : List ℕ → Bool → List Mention → ℕ → List Best → ℕ → List ℕ → Tally → List Control → List ℕ → List ℕ → Tally → List Control → List ℕ → Type 0
Reads l lons ms n spots j t g held kept t' r held' kept' =
    (h : BeforeRead l lons ms t n spots g held kept)
    → AfterRead l lons ms t t' n spots j h.was h.b h.cs h.js r held' kept'

-- a batch can be read: its table has n names, a mark stands for one of 64 points, and control points have room
pub record Readable (s : List ℕ) (lons : Bool) (t : List ℕ) (n : ℕ) (spots : List Best) (held : List Control) (kept : List ℕ) : Type 0 where
  pub table : Table (more_of lons) (payload s) t n
  pub spots_room : length spots ≡ 64
  pub control_room : ControlRoom held kept

-- the point of a control point
abbrev pub point_in : Control → Point
point_in c = record { x = c.x; y = c.y }

-- ---- one part of the names: host features, or variables
abbrev pub part_events : Bool → Scene → List Event
part_events true sc = variable_events sc 0 sc.variables
part_events false sc = feature_events sc 0 sc.features

-- the number of its first name among all names
abbrev pub base_of : Bool → Scene → ℕ
base_of true sc = length sc.features
base_of false sc = 0

-- how many host features come before a batch whose first name is the base-th
abbrev pub before_of : Bool → ℕ → ℕ → ℕ
before_of true features base = features
before_of false features base = base

abbrev pub batch_events : List ℕ → Bool → ℕ → List Mention → List Event
batch_events l lons base ms =
    events_of (scene_of l) (again_of lons) (among_features (scene_of l) (before_of lons (length (scene_of l).features) base)) ms

-- the control points of the host features before it are among cs
abbrev pub Earlier : Scene → Bool → ℕ → List Control → Type 0
Earlier sc lons base cs =
    length (controls_in (events_of sc 2 no_name (feature_mentions 0 (take (before_of lons (length sc.features) base) sc.features)))) ≤ length cs

-- control points that are held stay; those of the events es come behind them, the first event being the j-th
abbrev pub Appends : (List Control → Type 0) → ℕ → List Event → Tally → List Control → List ℕ → Tally → List Control → List ℕ → Type 0
Appends P j es g held kept r held' kept' =
    (cs : List Control) (js : List ℕ) → Holds true cs js g held kept → P cs
    → Holds true (cs ++ controls_in es) (js ++ numbers_in j es) r held' kept'

-- the mentions ms of a batch are gathered, the first of them being the base-th name
abbrev pub GathersBatch : List ℕ → Bool → ℕ → List Mention → Tally → List Control → List ℕ → Tally → List Control → List ℕ → Type 0
GathersBatch l lons base ms = Appends (Earlier (scene_of l) lons base) base (batch_events l lons base ms)

-- a whole part of the names is gathered
abbrev pub GathersPart : Scene → Bool → Tally → List Control → List ℕ → Tally → List Control → List ℕ → Type 0
GathersPart sc lons = Appends (Earlier sc lons 0) (base_of lons sc) (part_events lons sc)

abbrev pub first_cursor : Bool → ℕ → Cursor
first_cursor true vars = record { q = vars; i = 0; at = 0; len = 0 }
first_cursor false vars = record { q = 0; i = 0; at = 0; len = 0 }
