-- Laws of a one_event event on a sheet where everything has had room so far. Assumes nothing.
use Rattle.std.specs.Prelude.{ℕ, ◌+◌, ◌*◌, ◌≤◌, ◌<◌, ◌≡◌, Bool, true, false, List, [], ◌∷◌, eqb, leb, Float, Result, Ok, Err}
use Rattle.std.proofs.Math.Path.{refl}
use Rattle.std.proofs.Common.{sym, ap, ◌∙◌}
use Rattle.std.proofs.lemmas.Bool.{false≢true}
use Rattle.std.proofs.Math.ListN.{length}
use borrow.Author.Tests.{le-leb, lt-leb, leb-true, leb-false, eqb-false}
use Rattle.values.specs.declared.Point.{Point}
use Rattle.values.specs.Warnings.{Warning}
use Rattle.values.specs.Inner.Warnings.{WarningCursor, WarningSlice, pick_slice, pushed}
use Rattle.values.specs.declared.refusal.Refusal.{Refusal}
use Rattle.values.specs.declared.refusal.Refusal.TheVariants.{PositionRoom, FeatureRoom}
use Rattle.values.specs.Laws.Warnings.{slice_of}
use Rattle.budget.specs.declared.Budget.{Budget}
use Rattle.values.specs.Slices.{put}
use Rattle.values.specs.Points.{flats}
use Rattle.values.specs.Laws.Put.{put-length}
use Rattle.geojson.specs.Features.{Feature, words_of}
use Rattle.strokes.specs.declared.state.Props.{Props}
use Rattle.strokes.specs.declared.state.State.{State}
use Rattle.strokes.specs.Strokes.{Event, need, feature, warned, one_event, feature_of}
use Rattle.strokes.specs.Space.{Output, out_of_room, with_feature, with_warning, apply, apply_all}
use Rattle.strokes.specs.Inner.Space.{state_by, output_by, most, Fits, Applied, line_by, Finished}
use Rattle.strokes.specs.Laws.Applying.{applied_err}

-- ---- any event
-- the sheet with other positions, of which as many are used
abbrev pub with_positions : List Float → Output → Output
with_positions p t =
    record {
      work = t.work;
      positions = p;
      features = t.features;
      warnings = t.warnings;
      used_positions = t.used_positions;
      used_features = t.used_features;
      used_warnings = t.used_warnings;
      number = t.number;
    }

module _ (e : Event) (t : Output) (b : Budget) (start : t.number ≡ 0) where
  play_one : apply_all (e ∷ []) t ≡ apply e t
  unfolding apply_all
  play_one = rw start

  event_fits : (u : Output) → apply e t ≡ u → u.work ≡ t.work → length u.positions ≡ length t.positions
      → length u.features ≡ length t.features → length u.warnings ≡ length t.warnings → Fits u b → Applied (one_event e b) t u b
  event_fits u is work positions features warnings h =
      let e = sym (play_one ∙ is) in
      record {
        number = ap (λ (x : Output). x.number) e;
        same = λ z. e;
        after = λ z. refl;
        work = work;
        positions = positions;
        features = features;
        warnings = warnings;
        fits = h;
      }

  -- only the number tells what lacks room: positions may be written already
  event_lacks : (n : ℕ) (p : List Float) (c : Budget) → eqb n 0 ≡ false → (apply e t).number ≡ n → length p ≡ length t.positions → Fits t c
      → Applied (one_event e b) t (out_of_room n (with_positions p t)) c
  event_lacks n p c some is same h =
      record {
        number = sym (ap (λ (x : Output). x.number) play_one ∙ is);
        same = λ z. absurd (eqb-false n 0 some z);
        after = λ z. absurd (eqb-false n 0 some z);
        work = refl;
        positions = same;
        features = refl;
        warnings = refl;
        fits = record { positions = rw same h.positions; features = h.features; warnings = h.warnings; left = h.left };
      }

-- ---- points of work
module _ (n : ℕ) (t : Output) (b : Budget) (start : t.number ≡ 0) where
  pub need_fits : 2 * n ≤ t.work → Fits t b → Applied (one_event (need n) b) t t b
  unfolding apply
  need_fits room h = event_fits (need n) t b start t (rw (le-leb (2 * n) t.work room)) refl refl refl refl h

  pub need_lacks : (c : Budget) → t.work < 2 * n → Fits t c → Applied (one_event (need n) b) t (out_of_room 15 t) c
  unfolding apply
  need_lacks c short h = event_lacks (need n) t b start 15 t.positions c refl (rw (lt-leb (2 * n) t.work short)) refl h

-- ---- warnings; `out_of_room 0` says that nothing lacks room
module _ (w : Warning) (t : Output) (b : Budget) (start : t.number ≡ 0) (h : Fits t b) where
  pub warned_fits : t.used_warnings + 2 ≤ length t.warnings → Applied (one_event (warned w) b) t (out_of_room 0 (with_warning w t)) b
  unfolding apply
  warned_fits room =
      let same = put-length t.warnings t.used_warnings (w.kind ∷ w.index ∷ []) room in
      event_fits (warned w) t b start (out_of_room 0 (with_warning w t)) (rw (le-leb (t.used_warnings + 2) (length t.warnings) room, start)) refl refl refl same
      (record { positions = h.positions; features = h.features; warnings = rw same room; left = h.left })

  pub warned_lacks : length t.warnings < t.used_warnings + 2 → Applied (one_event (warned w) b) t (out_of_room 18 t) b
  unfolding apply
  warned_lacks short =
      event_lacks (warned w) t b start 18 t.positions b refl (rw (lt-leb (t.used_warnings + 2) (length t.warnings) short)) refl h

-- as `push_warning` leaves the slice and how far it is used
abbrev pub with_pushed : List ℕ → ℕ → ℕ → Output → Output
with_pushed v used n t =
    record {
      work = t.work;
      positions = t.positions;
      features = t.features;
      warnings = v;
      used_positions = t.used_positions;
      used_features = t.used_features;
      used_warnings = used;
      number = n;
    }

module _ (w : Warning) (t : Output) (b : Budget) (start : t.number ≡ 0) (h : Fits t b) {v : List ℕ} {c : WarningCursor}
    (one : slice_of v c ≡ pushed w (slice_of t.warnings (record { ok = true; used = t.used_warnings }))) where
  abbrev room : Bool
  room = leb (t.used_warnings + 2) (length t.warnings)

  pushed-is : {x : Bool} → room ≡ x
      → slice_of v c ≡ pick_slice x (slice_of (put t.warnings t.used_warnings (w.kind ∷ w.index ∷ [])) (record { ok = true; used = t.used_warnings + 2 }))
      (slice_of t.warnings (record { ok = false; used = t.used_warnings }))
  unfolding pushed
  pushed-is e = one ∙ rw e refl

  pub pushed_fits : c.ok ≡ true → Applied (one_event (warned w) b) t (with_pushed v c.used 0 t) b
  pushed_fits ok = go room refl
    where
      go : (x : Bool) → room ≡ x → Applied (one_event (warned w) b) t (with_pushed v c.used 0 t) b
      go true e = let is = pushed-is e in rw (ap (λ (s : WarningSlice). s.out) is, ap (λ (s : WarningSlice). s.cursor) is) (warned_fits w t b start h (leb-true _ _ e))
      go false e = absurd (false≢true (sym (ap (λ (s : WarningSlice). s.cursor.ok) (pushed-is e)) ∙ ok))

  pub pushed_lacks : c.ok ≡ false → Applied (one_event (warned w) b) t (with_pushed v t.used_warnings 18 t) b
  pushed_lacks short = go room refl
    where
      go : (x : Bool) → room ≡ x → Applied (one_event (warned w) b) t (with_pushed v t.used_warnings 18 t) b
      go true e = absurd (false≢true (sym short ∙ ap (λ (s : WarningSlice). s.cursor.ok) (pushed-is e)))
      go false e = rw (ap (λ (s : WarningSlice). s.out) (pushed-is e)) (warned_lacks w t b start h (leb-false _ _ e))

-- ---- features
module _ (f : Feature) (ps : List Point) (t : Output) (b : Budget) (start : t.number ≡ 0) where
  pub feature_lacks_positions : (p : List Float) (c : Budget) → length p ≡ length t.positions
      → length t.positions < t.used_positions + length (flats ps) → Fits t c → Applied (one_event (feature f ps) b) t (out_of_room 16 (with_positions p t)) c
  unfolding apply
  feature_lacks_positions p c same short h =
      event_lacks (feature f ps) t b start 16 p c refl (rw (lt-leb (t.used_positions + length (flats ps)) (length t.positions) short)) same h

  module _ (room : t.used_positions + length (flats ps) ≤ length t.positions) where
    placed : length (put t.positions t.used_positions (flats ps)) ≡ length t.positions
    placed = put-length t.positions t.used_positions (flats ps) room

    enough : leb (t.used_positions + length (flats ps)) (length t.positions) ≡ true
    enough = le-leb (t.used_positions + length (flats ps)) (length t.positions) room

    pub feature_lacks_line : (c : Budget) → length t.features < t.used_features + 6 → Fits t c
        → Applied (one_event (feature f ps) b) t (out_of_room 17 (with_positions (put t.positions t.used_positions (flats ps)) t)) c
    unfolding apply
    feature_lacks_line c short h =
        event_lacks (feature f ps) t b start 17 _ c refl (rw (enough, lt-leb (t.used_features + 6) (length t.features) short)) placed h

    pub feature_fits : t.used_features + 6 ≤ length t.features → t.used_warnings ≤ length t.warnings → b.left ≤ most
        → Applied (one_event (feature f ps) b) t (out_of_room 0 (with_feature f ps t)) b
    unfolding apply
    feature_fits line warnings left =
        let lined = put-length t.features t.used_features (words_of f) line in
        event_fits (feature f ps) t b start (out_of_room 0 (with_feature f ps t)) (rw (enough, le-leb (t.used_features + 6) (length t.features) line, start)) refl
        placed lined refl
        (record { positions = rw placed room; features = rw lined line; warnings = warnings; left = left })

-- ---- a feature as the code writes it: its positions, then its line by `finish`
module _ (p : Props) (geometry role : ℕ) (ps : List Point) (b : Budget) (work : ℕ) {q q' : List Float} {f v : List ℕ} {st : State}
    (h : Fits (output_by work q f v (Ok st)) st.budget) where
  pub written_lacks : length q' ≡ length q → length q < st.positions + length (flats ps)
      → Applied (one_event (feature_of p geometry role ps) b) (output_by work q f v (Ok st)) (output_by work q' f v (Err PositionRoom)) (state_by (Err PositionRoom)).budget
  unfolding feature_of
  written_lacks same short =
      applied_err PositionRoom refl (feature_lacks_positions (line_by p geometry role (length ps)) ps (output_by work q f v (Ok st)) b refl q' st.budget same short h)

  pub written_finished : {f' : List ℕ} {r : Result State Refusal} → st.positions + length (flats ps) ≤ length q → q' ≡ put q st.positions (flats ps) → b.left ≤ most
      → Finished p geometry role (st.positions + length (flats ps)) (length ps) b f f' st r
      → Applied (one_event (feature_of p geometry role ps) b) (output_by work q f v (Ok st)) (output_by work q' f' v r) (state_by r).budget
  unfolding feature_of
  written_finished {f'} {r} room there left fin = go (leb (st.features + 6) (length f)) refl
    where
      line : Feature
      line = line_by p geometry role (length ps)

      t : Output
      t = output_by work q f v (Ok st)

      go : (x : Bool) → leb (st.features + 6) (length f) ≡ x → Applied (one_event (feature line ps) b) t (output_by work q' f' v r) (state_by r).budget
      go true e = rw (there, fin.fits e, fin.then e) (feature_fits line ps t b refl room (leb-true _ _ e) h.warnings left)
      go false e =
          rw (there, fin.short e, fin.lacks e) (applied_err FeatureRoom refl (feature_lacks_line line ps t b refl room st.budget (leb-false _ _ e) h))
