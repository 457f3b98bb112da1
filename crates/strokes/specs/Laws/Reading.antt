-- Features, positions and warnings read back off the slices. Assumes nothing.
use Rattle.std.specs.Prelude.{ℕ, suc, ◌+◌, ◌*◌, ◌/◌, ◌≤◌, ◌≡◌, refl, Bool, true, false, List, [], ◌∷◌, ◌++◌, drop, eqb, leb, Float}
use Rattle.std.proofs.Common.{sym, ap, ◌∙◌, append_assoc, arith, add_assoc, add-zero, zero-add, get_or-append-add, eqb-true, leb-true}
use Rattle.std.proofs.Math.ListN.{length, length-append}
use Rattle.std.proofs.Math.Seq.{drop-append_seam, get_or-append_seam}
use Rattle.std.proofs.lemmas.Bool.{eqb-false}
use Rattle.values.specs.declared.Point.{Point}
use Rattle.values.specs.Warnings.{Warning}
use Rattle.values.specs.Slices.{put}
use Rattle.values.specs.Points.{flats, points_of}
use Rattle.values.specs.Laws.Put.{put-none, put-length, put-more}
use Rattle.values.specs.Laws.Points.{flats-append, flats-length}
use Rattle.geojson.specs.Features.{Feature, words_of}
use Rattle.strokes.specs.Strokes.{Event, drew, need, feature, warned}
use Rattle.strokes.specs.Space.{Output, pick_output, out_of_room, with_feature, with_warning, apply, apply_all}
use Rattle.strokes.specs.Features.{ReadFeature, AllWellFormed, positions_in, features_in, warnings_in, line_at, features_at, warnings_at}
use Rattle.strokes.specs.Laws.Applying.{stuck}

-- ---- what the slices hold of features and warnings
unfoldable pub words_in : List ReadFeature → List ℕ
words_in [] = []
words_in (l ∷ ls) = words_of l.0 ++ words_in ls

unfoldable pub pairs_in : List Warning → List ℕ
pairs_in [] = []
pairs_in (w ∷ ws) = w.kind ∷ w.index ∷ pairs_in ws

words_length : (ls : List ReadFeature) → length (words_in ls) ≡ 6 * length ls
unfolding words_in
words_length [] = refl
words_length (l ∷ ls) = omega (arith, words_length ls)

pairs_length : (ws : List Warning) → length (pairs_in ws) ≡ 2 * length ws
unfolding pairs_in
pairs_length [] = refl
pairs_length (w ∷ ws) = omega (arith, pairs_length ws)

-- ---- what is used lies in the slices
pub record Room (t : Output) : Type 0 where
  pub positions : t.used_positions ≤ length t.positions
  pub features : t.used_features ≤ length t.features
  pub warnings : t.used_warnings ≤ length t.warnings

-- u is t with these features and warnings behind what was used
pub record Added (ls : List ReadFeature) (ws : List Warning) (t u : Output) : Type 0 where
  pub positions : u.positions ≡ put t.positions t.used_positions (flats (positions_in ls))
  pub features : u.features ≡ put t.features t.used_features (words_in ls)
  pub warnings : u.warnings ≡ put t.warnings t.used_warnings (pairs_in ws)
  pub used_positions : u.used_positions ≡ t.used_positions + length (flats (positions_in ls))
  pub used_features : u.used_features ≡ t.used_features + length (words_in ls)
  pub used_warnings : u.used_warnings ≡ t.used_warnings + length (pairs_in ws)
  pub room_positions : u.used_positions ≤ length t.positions
  pub room_features : u.used_features ≤ length t.features
  pub room_warnings : u.used_warnings ≤ length t.warnings

added_none : (t : Output) → Room t → Added [] [] t t
unfolding positions_in words_in pairs_in flats
added_none t r =
    record {
      positions = sym (put-none t.positions t.used_positions);
      features = sym (put-none t.features t.used_features);
      warnings = sym (put-none t.warnings t.used_warnings);
      used_positions = sym (add-zero t.used_positions);
      used_features = sym (add-zero t.used_features);
      used_warnings = sym (add-zero t.used_warnings);
      room_positions = r.positions;
      room_features = r.features;
      room_warnings = r.warnings;
    }

module _ (f : Feature) (ps : List Point) (t : Output) (here : t.used_positions + length (flats ps) ≤ length t.positions)
    (line : t.used_features + 6 ≤ length t.features) where
  placed_length : length (put t.positions t.used_positions (flats ps)) ≡ length t.positions
  placed_length = put-length t.positions t.used_positions (flats ps) here

  lined_length : length (put t.features t.used_features (words_of f)) ≡ length t.features
  lined_length = put-length t.features t.used_features (words_of f) line

  feature-room : Room t → Room (with_feature f ps t)
  feature-room r = record { positions = rw placed_length here; features = rw lined_length line; warnings = r.warnings }

  added-feature : (ls : List ReadFeature) (ws : List Warning) (u : Output) → Added ls ws (with_feature f ps t) u → Added ((f, ps) ∷ ls) ws t u
  unfolding positions_in words_in
  added-feature ls ws u a =
      let room : u.used_features ≤ length t.features = rw lined_length at a.room_features in
      record {
        positions = a.positions ∙ rw flats-append (put-more t.positions t.used_positions (flats ps) (flats (positions_in ls)) here);
        features = a.features ∙ put-more t.features t.used_features (words_of f) (words_in ls) line;
        warnings = a.warnings;
        used_positions = a.used_positions ∙ rw (flats-append, length-append, ← add_assoc);
        used_features = omega (arith, a.used_features);
        used_warnings = a.used_warnings;
        room_positions = rw placed_length at a.room_positions;
        room_features = room;
        room_warnings = a.room_warnings;
      }

module _ (w : Warning) (t : Output) (here : t.used_warnings + 2 ≤ length t.warnings) where
  paired_length : length (put t.warnings t.used_warnings (w.kind ∷ w.index ∷ [])) ≡ length t.warnings
  paired_length = put-length t.warnings t.used_warnings (w.kind ∷ w.index ∷ []) here

  warning_room : Room t → Room (with_warning w t)
  warning_room r = record { positions = r.positions; features = r.features; warnings = rw paired_length here }

  added_warning : (ls : List ReadFeature) (ws : List Warning) (u : Output) → Added ls ws (with_warning w t) u → Added ls (w ∷ ws) t u
  unfolding pairs_in
  added_warning ls ws u a =
      let room : u.used_warnings ≤ length t.warnings = rw paired_length at a.room_warnings in
      record {
        positions = a.positions;
        features = a.features;
        warnings = a.warnings ∙ put-more t.warnings t.used_warnings (w.kind ∷ w.index ∷ []) (pairs_in ws) here;
        used_positions = a.used_positions;
        used_features = a.used_features;
        used_warnings = omega (arith, a.used_warnings);
        room_positions = a.room_positions;
        room_features = a.room_features;
        room_warnings = room;
      }

-- ---- where everything has had room in the end, every event had
started : (es : List Event) (t : Output) → (apply_all es t).number ≡ 0 → t.number ≡ 0
started es t z = go (eqb t.number 0) refl
  where
    go : (x : Bool) → eqb t.number 0 ≡ x → t.number ≡ 0
    go true e = eqb-true t.number 0 e
    go false e = ap (λ (u : Output). u.number) (sym (stuck es t e)) ∙ z

play_next : (e : Event) (es : List Event) (t : Output) → (apply_all (e ∷ es) t).number ≡ 0 → apply_all (e ∷ es) t ≡ apply_all es (apply e t)
unfolding apply_all
play_next e es t z = go (eqb t.number 0) refl
  where
    go : (x : Bool) → eqb t.number 0 ≡ x → apply_all es (pick_output (eqb t.number 0) (apply e t) t) ≡ apply_all es (apply e t)
    go true x = rw x
    go false x = absurd (eqb-false t.number 0 x (started (e ∷ es) t z))

-- a sheet that lacks something does not end well
picked : (es : List Event) (n : ℕ) (x : Bool) (s t : Output) → (n ≡ 0 → ⊥) → (apply_all es (pick_output x s (out_of_room n t))).number ≡ 0 → x ≡ true
picked es n true s t h z = refl
picked es n false s t h z = absurd (h (started es (out_of_room n t) z))

-- ---- all events
abbrev Adds : List Event → Output → Type 0
Adds es t = Room t → (apply_all es t).number ≡ 0 → Added (features_in es) (warnings_in es) t (apply_all es t)

-- one event, then the rest
adds_one : (e : Event) (es : List Event) (t : Output) → ((u : Output) → Adds es u) → Room t → (apply_all es (apply e t)).number ≡ 0
    → Added (features_in (e ∷ es)) (warnings_in (e ∷ es)) t (apply_all es (apply e t))
unfolding features_in warnings_in apply
adds_one (drew d) es t rest r z = rest t r z
adds_one (need n) es t rest r z =
    let x = picked es 15 (leb (2 * n) t.work) t t (λ h. omega arith) z in
    rw x (rest t r (rw x at z))
adds_one (feature f ps) es t rest r z =
    let p = leb (t.used_positions + length (flats ps)) (length t.positions) in
    let q = leb (t.used_features + 6) (length t.features) in
    let v = with_feature f ps t in
    let x : p ≡ true = picked es 16 p (pick_output q v (out_of_room 17 t)) t (λ h. omega arith) z in
    let z₁ : (apply_all es (pick_output q v (out_of_room 17 t))).number ≡ 0 = rw x at z in
    let y : q ≡ true = picked es 17 q v t (λ h. omega arith) z₁ in
    let here = leb-true _ _ x in
    let line = leb-true _ _ y in
    rw (x, y) (added-feature f ps t here line (features_in es) (warnings_in es) (apply_all es v) (rest v (feature-room f ps t here line r) (rw y at z₁)))
adds_one (warned w) es t rest r z =
    let v = with_warning w t in
    let x = picked es 18 (leb (t.used_warnings + 2) (length t.warnings)) v t (λ h. omega arith) z in
    let here = leb-true _ _ x in
    rw x (added_warning w t here (features_in es) (warnings_in es) (apply_all es v) (rest v (warning_room w t here r) (rw x at z)))

pub added-all : (es : List Event) (t : Output) → Adds es t
unfolding features_in warnings_in apply_all
added-all [] t r z = added_none t r
added-all (e ∷ es) t r z =
    let s = play_next e es t z in
    rw s (adds_one e es t (added-all es) r (rw s at z))

-- ---- what stands in the slices, read
points_read : (ps : List Point) (b s : List Float) → points_of (b ++ (flats ps ++ s)) (length b) (length ps) ≡ ps
unfolding flats points_of
points_read [] b s = refl
points_read (p ∷ ps) b s =
    let rest = simp (append_assoc, length-append) at (points_read ps (b ++ (p.x ∷ p.y ∷ [])) s) in
    simp (get_or-append_seam, get_or-append-add, rest)

abbrev pub AllCounted : List ReadFeature → Type 0
AllCounted [] = Unit {0}
AllCounted (l ∷ ls) = (l.0.count ≡ length l.1) × AllCounted ls

pub well_counted : (ls : List ReadFeature) → AllWellFormed ls → AllCounted ls
well_counted [] h = tt
well_counted (l ∷ ls) h = (h.0.counted, well_counted ls h.1)

line_read : (f : Feature) (a r : List ℕ) → line_at (a ++ (words_of f ++ r)) (length a) ≡ f
line_read f a r = simp (get_or-append_seam, get_or-append-add)

-- a first feature, then the rest
next_read : (w : List ℕ) (q : List Float) (i p n c : ℕ) (f : Feature) (ps : List Point) (ls : List ReadFeature) → line_at w i ≡ f → f.count ≡ c
    → points_of q p c ≡ ps → features_at w q (i + 6) (p + 2 * c) n ≡ ls → features_at w q i p (suc n) ≡ (f, ps) ∷ ls
unfolding features_at
next_read w q i p n c f ps ls e k g h = rw (← h, ← g, ← k, ← e)

features_read : (ls : List ReadFeature) (a r : List ℕ) (b s : List Float) → AllCounted ls
    → features_at (a ++ (words_in ls ++ r)) (b ++ (flats (positions_in ls) ++ s)) (length a) (length b) (length ls) ≡ ls
unfolding features_at words_in positions_in flats
features_read [] a r b s h = refl
features_read ((f, ps) ∷ ls) a r b s h =
    let rest = simp (append_assoc, length-append, flats-length) at (features_read ls (a ++ words_of f) r (b ++ flats ps) s h.1) in
    let q = b ++ (flats (ps ++ positions_in ls) ++ s) in
    next_read (a ++ (words_of f ++ (words_in ls ++ r))) q (length a) (length b) (length ls) (length ps) f ps ls (line_read f a (words_in ls ++ r)) h.0
    (simp (flats-append, append_assoc, points_read)) (simp (flats-append, append_assoc) rest)

warnings_read : (ws : List Warning) (a r : List ℕ) → warnings_at (a ++ (pairs_in ws ++ r)) (length a) (length ws) ≡ ws
unfolding warnings_at pairs_in
warnings_read [] a r = refl
warnings_read (w ∷ ws) a r =
    let rest = simp (append_assoc, length-append) at (warnings_read ws (a ++ (w.kind ∷ w.index ∷ [])) r) in
    simp (get_or-append_seam, get_or-append-add, rest)

-- ---- the features and warnings of the events, read back off u; behind them stands what stood in t
pub record ReadBack (es : List Event) (t u : Output) : Type 0 where
  pub used_positions : u.used_positions ≡ 2 * length (positions_in (features_in es))
  pub used_features : u.used_features ≡ 6 * length (features_in es)
  pub used_warnings : u.used_warnings ≡ 2 * length (warnings_in es)
  pub features : features_at u.features u.positions 0 0 (u.used_features / 6) ≡ features_in es
  pub warnings : warnings_at u.warnings 0 (u.used_warnings / 2) ≡ warnings_in es
  pub tail_positions : drop u.used_positions u.positions ≡ drop u.used_positions t.positions
  pub tail_features : drop u.used_features u.features ≡ drop u.used_features t.features
  pub tail_warnings : drop u.used_warnings u.warnings ≡ drop u.used_warnings t.warnings

-- from the start of a slice on
put-start : (w vs : List Float) → put w 0 vs ≡ vs ++ drop (length vs) w
unfolding put
put-start w vs = rw zero-add

words_start : (w vs : List ℕ) → put w 0 vs ≡ vs ++ drop (length vs) w
unfolding put
words_start w vs = rw zero-add

-- of a sheet of which nothing was used
module _ (es : List Event) (t : Output) (positions : t.used_positions ≡ 0) (features : t.used_features ≡ 0) (warnings : t.used_warnings ≡ 0)
    (z : (apply_all es t).number ≡ 0) where
  abbrev u : Output
  u = apply_all es t

  abbrev ls : List ReadFeature
  ls = features_in es

  all : Added ls (warnings_in es) t u
  all = added-all es t (record { positions = omega arith; features = omega arith; warnings = omega arith }) z

  -- what is used of each slice
  used_positions_lem : u.used_positions ≡ 2 * length (positions_in ls)
  used_positions_lem = omega (arith, all.used_positions, flats-length (positions_in ls))

  used_features_lem : u.used_features ≡ 6 * length ls
  used_features_lem = omega (arith, all.used_features, words_length ls)

  used_warnings_lem : u.used_warnings ≡ 2 * length (warnings_in es)
  used_warnings_lem = omega (arith, all.used_warnings, pairs_length (warnings_in es))

  whole_features : u.used_features / 6 ≡ length ls
  whole_features = omega (arith, used_features_lem)

  whole_warnings : u.used_warnings / 2 ≡ length (warnings_in es)
  whole_warnings = omega (arith, used_warnings_lem)

  -- what stands in each slice
  positions_are : u.positions ≡ flats (positions_in ls) ++ drop (length (flats (positions_in ls))) t.positions
  positions_are = all.positions ∙ rw positions (put-start t.positions (flats (positions_in ls)))

  features_are : u.features ≡ words_in ls ++ drop (length (words_in ls)) t.features
  features_are = all.features ∙ rw features (words_start t.features (words_in ls))

  warnings_are : u.warnings ≡ pairs_in (warnings_in es) ++ drop (length (pairs_in (warnings_in es))) t.warnings
  warnings_are = all.warnings ∙ rw warnings (words_start t.warnings (pairs_in (warnings_in es)))

  read_features : AllCounted ls → features_at u.features u.positions 0 0 (u.used_features / 6) ≡ ls
  read_features h = rw (whole_features, features_are, positions_are) (features_read ls [] _ [] _ h)

  read_warnings : warnings_at u.warnings 0 (u.used_warnings / 2) ≡ warnings_in es
  read_warnings = rw (whole_warnings, warnings_are) (warnings_read (warnings_in es) [] _)

  tail_positions_lem : drop u.used_positions u.positions ≡ drop u.used_positions t.positions
  tail_positions_lem =
      let n : u.used_positions ≡ length (flats (positions_in ls)) = omega (arith, all.used_positions) in
      rw (n, positions_are) (drop-append_seam (flats (positions_in ls)) _)

  tail_features_lem : drop u.used_features u.features ≡ drop u.used_features t.features
  tail_features_lem =
      let n : u.used_features ≡ length (words_in ls) = omega (arith, all.used_features) in
      rw (n, features_are) (drop-append_seam (words_in ls) _)

  tail_warnings_lem : drop u.used_warnings u.warnings ≡ drop u.used_warnings t.warnings
  tail_warnings_lem =
      let n : u.used_warnings ≡ length (pairs_in (warnings_in es)) = omega (arith, all.used_warnings) in
      rw (n, warnings_are) (drop-append_seam (pairs_in (warnings_in es)) _)

pub reads_back : (es : List Event) (t : Output) → t.used_positions ≡ 0 → t.used_features ≡ 0 → t.used_warnings ≡ 0
    → AllWellFormed (features_in es) → (apply_all es t).number ≡ 0 → ReadBack es t (apply_all es t)
reads_back es t p f w h z =
    record {
      used_positions = used_positions_lem es t p f w z;
      used_features = used_features_lem es t p f w z;
      used_warnings = used_warnings_lem es t p f w z;
      features = read_features es t p f w z (well_counted (features_in es) h);
      warnings = read_warnings es t p f w z;
      tail_positions = tail_positions_lem es t p f w z;
      tail_features = tail_features_lem es t p f w z;
      tail_warnings = tail_warnings_lem es t p f w z;
    }
