-- Laws of a stroke's positions: a polyline's points written into the lent tail of a slice, changed there to positions, and then applied as a feature. Assumes nothing.
use Rattle.std.specs.Prelude.{ℕ, ◌+◌, ◌-◌, ◌/◌, ◌≤◌, ◌≡◌, refl, Bool, true, false, cond, take, drop, set, get_or, eqb, Float, Option, Some, None, option_map, Result, Ok, Err}
use Rattle.std.proofs.Common.{sym, ap, ◌∙◌, arith, add-zero, length-append, length-drop, length-take-le, take_all, get_or-append-add, set-set}
use mathlib.Core.List.{List, [], ◌∷◌, ◌++◌, append-nil, map}
use Rattle.std.proofs.Math.Nat.{zero-add}
use Rattle.std.proofs.Math.ListN.{length}
use Rattle.std.proofs.lemmas.List.{length-map, set_comm}
use Rattle.std.proofs.Math.Seq.{drop-length, drop-drop}
use Rattle.std.specs.Float.{nan}
use borrow.Author.Tests.{eq-eqb, ne_eqb}
use borrow.Rule.Slice.PartMut.{mid_of, post_of, put_mid, same_len_mid, Post-is, take_put}
use Rattle.values.specs.declared.Point.{Point}
use Rattle.projection.specs.declared.Projection.{Projection}
use Rattle.projection.specs.Projection.{project_point}
use Rattle.budget.specs.declared.Budget.{Budget}
use Rattle.densify.specs.declared.append.PointCursor.{PointCursor}
use Rattle.densify.specs.Densify.{Made, last_of, densify_polyline_of}
use Rattle.densify.specs.Inner.Written.{on_points, Written}
use Rattle.values.specs.Inner.Points.{points_in, in_place}
use Rattle.values.specs.Slices.{put}
use Rattle.values.specs.Points.{flats}
use Rattle.densify.specs.Laws.Writing.{written_short, written_all, no_room, written_room, still_short, mapped_written}
use Rattle.values.specs.Laws.Points.{flats-append, flats-length, put_next, points-between}
use Rattle.densify.specs.Laws.Counts.{densify_least}
use Rattle.densify.specs.Laws.Replay.{densify_replays}
use Rattle.densify.specs.Laws.Sizes.{left_falls, densify_sized}
use Rattle.strokes.specs.declared.state.Ctx.{Ctx}
use Rattle.strokes.specs.declared.state.Props.{Props}
use Rattle.strokes.specs.declared.state.State.{State}
use Rattle.strokes.specs.Strokes.{one_event, end_with, first_repeated, feature_of, stroke_of}
use Rattle.values.specs.declared.refusal.Refusal.{Refusal}
use Rattle.values.specs.declared.refusal.Refusal.TheVariants.{PositionRoom}
use Rattle.strokes.specs.Inner.Space.{state_by, output_by, most, longest, behind_at, project_and_close, first_repeated_in, Fits, Applied, Finished}
use Rattle.strokes.specs.Laws.Applying.{applied_drawn}
use Rattle.strokes.specs.Laws.Events.{written_lacks, written_finished}

-- ---- the tail of a slice, lent on
module _ (w : List Float) (at : ℕ) (h : at ≤ length w) where
  tail-is : mid_of at (length w - at) w ≡ drop at w
  tail-is = take_all (length w - at) (drop at w) (omega (arith, length-drop at w))

  -- nothing lies behind it
  behind : post_of at (length w - at) w ≡ []
  behind = Post-is at (length w) w h ∙ drop-length w

  put-tail : (vs : List Float) → put_mid at (length w - at) w (put (drop at w) 0 vs) ≡ put w at vs
  unfolding put
  put-tail vs = rw (behind, append-nil, zero-add, drop-drop (length vs) at w)

  pub tail_written : {t : List Float} {m : Made} (r : Option PointCursor) → Written (mid_of at (length w - at) w) t 0 m r
      → Written w (put_mid at (length w - at) w t) at m (option_map (behind_at at) r)
  tail_written {t} {m} None part =
      let one : Written (drop at w) t 0 m None = rw tail-is at part in
      written_short w at m _ (omega (arith, no_room one, length-drop at w)) (take_put at (length w - at) w t h) (same_len_mid at (length w - at) w t part.kept)
  tail_written {t} {m} (Some d) part =
      let one : Written (drop at w) t 0 m (Some d) = rw tail-is at part in
      written_all w at m _ _ (omega (arith, written_room one, length-drop at w)) (omega (arith, one.next)) one.left
      (ap (put_mid at (length w - at) w) one.holds ∙ put-tail (flats m.points))

-- ---- a ring's positions
-- all but the last
abbrev but_last : Point → List Point → List Point
but_last p [] = []
but_last p (q ∷ qs) = p ∷ but_last q qs

last_behind : (p : Point) (ps : List Point) → p ∷ ps ≡ but_last p ps ++ (last_of p ps ∷ [])
last_behind p [] = refl
last_behind p (q ∷ qs) = ap (λ (l : List Point). p ∷ l) (last_behind q qs)

end_is : (p q : Point) (qs : List Point) → end_with p (q ∷ qs) ≡ but_last q qs ++ (p ∷ [])
end_is p q [] = refl
end_is p q (r ∷ rs) = ap (λ (l : List Point). q ∷ l) (end_is p r rs)

repeated_is : (p : Point) (ps : List Point) → first_repeated (p ∷ ps) ≡ but_last p ps ++ (p ∷ [])
repeated_is p [] = refl
repeated_is p (q ∷ qs) = ap (λ (l : List Point). p ∷ l) (end_is p q qs)

repeated_length : (ps : List Point) → length (first_repeated ps) ≡ length ps
repeated_length [] = refl
repeated_length (p ∷ ps) =
    ap length (repeated_is p ps) ∙ length-append (but_last p ps) (p ∷ []) ∙ sym (ap length (last_behind p ps) ∙ length-append (but_last p ps) (last_of p ps ∷ []))

-- a point stored over another
stored_over : (w : List Float) (i : ℕ) (a b c d : Float) → set (set (set (set w i a) (i + 1) b) i c) (i + 1) d ≡ set (set w i c) (i + 1) d
stored_over w i a b c d =
    let apart : i + 1 ≡ i → ⊥ = λ e. omega arith in
    rw (set_comm (set w i a) (i + 1) i b c apart, set-set w i a c, set-set (set w i c) (i + 1) b d)

first_in : (w : List Float) (at : ℕ) (p : Point) (ps : List Point) → at ≤ length w
    → let v = put w at (flats (p ∷ ps)) in (get_or v at nan ≡ p.x) × (get_or v (at + 1) nan ≡ p.y)
unfolding put flats
first_in w at p ps h =
    let n : length (take at w) ≡ at = length-take-le at w h in
    let rest = p.x ∷ p.y ∷ (flats ps ++ drop (at + length (flats (p ∷ ps))) w) in
    (rw (add-zero, n) at (get_or-append-add (take at w) rest 0 nan), rw n at (get_or-append-add (take at w) rest 1 nan))

-- the last two floats before `to` become the point p that stands at `from`
ends_with : (v : List Float) (from to i : ℕ) (p : Point) → to ≡ i + 2 → (get_or v from nan ≡ p.x) × (get_or v (from + 1) nan ≡ p.y)
    → first_repeated_in v from to ≡ set (set v i p.x) (i + 1) p.y
unfolding first_repeated_in
ends_with v from to i p e first =
    let two : to - 2 ≡ i = omega arith in
    let one : to - 1 ≡ i + 1 = omega arith in
    rw (two, one, first.0, first.1)

repeated_put : (w : List Float) (at : ℕ) (ps : List Point) → 1 ≤ length ps → at + length (flats ps) ≤ length w
    → first_repeated_in (put w at (flats ps)) at (at + length (flats ps)) ≡ put w at (flats (first_repeated ps))
unfolding flats
repeated_put w at [] some h = absurd (omega arith)
repeated_put w at (p ∷ ps) some h =
    let front = but_last p ps in
    let last = last_of p ps in
    let i = at + length (flats front) in
    let size : length (flats (p ∷ ps)) ≡ length (flats front) + 2 =
    ap (λ (l : List Point). length (flats l)) (last_behind p ps) ∙ ap length (flats-append front (last ∷ [])) ∙ length-append (flats front) (flats (last ∷ [])) in
    let room : i + 2 ≤ length w = omega arith in
    ends_with (put w at (flats (p ∷ ps))) at (at + length (flats (p ∷ ps))) i p (omega arith) (first_in w at p ps (omega arith))
    ∙ ap (λ (l : List Point). set (set (put w at (flats l)) i p.x) (i + 1) p.y) (last_behind p ps)
    ∙ ap (λ (v : List Float). set (set v i p.x) (i + 1) p.y) (sym (put_next w at front last room))
    ∙ stored_over (put w at (flats front)) i last.x last.y p.x p.y
    ∙ put_next w at front p room
    ∙ ap (λ (l : List Point). put w at (flats l)) (sym (repeated_is p ps))

pub repeated_written : {q q₁ q₂ : List Float} {at : ℕ} {m : Made} {d : PointCursor} → Written q q₁ at m (Some d) → at + 2 ≤ d.at → q₂ ≡ first_repeated_in q₁ at d.at
    → Written q q₂ at (on_points first_repeated m) (Some d)
repeated_written {q} {q₂ = q₂} {at = at} {m = m} {d = d} one some there =
    let same : length (flats (first_repeated m.points)) ≡ length (flats m.points) = omega (arith, flats-length (first_repeated m.points), flats-length m.points, repeated_length m.points) in
    let h = written_room one in
    written_all q at (on_points first_repeated m) q₂ d (rw same h) (rw same one.next) one.left
    (there ∙ rw (one.holds, one.next) (repeated_put q at m.points (omega (arith, one.next, flats-length m.points)) h))

-- ---- a polyline's points become the positions of a line or a ring
module _ (t : Projection) (geometry : ℕ) where
  positions_length : (ps : List Point) → length (project_and_close t geometry ps) ≡ length ps
  positions_length ps = go (eqb geometry 2)
    where
      go : (x : Bool) → length (cond x (first_repeated (map (project_point t) ps)) (map (project_point t) ps)) ≡ length ps
      go true = repeated_length (map (project_point t) ps) ∙ length-map ps (project_point t)
      go false = length-map ps (project_point t)

  pub close-short : {q q₁ : List Float} {at : ℕ} {m : Made} → Written q q₁ at m None → Written q q₁ at (on_points (project_and_close t geometry) m) None
  close-short {m = m} one = still_short one (on_points (project_and_close t geometry) m) (omega (arith, positions_length m.points))

  module _ {q q₁ q₂ : List Float} {at : ℕ} {m : Made} {d : PointCursor} (one : Written q q₁ at m (Some d)) (there : q₂ ≡ in_place (project_point t) q₁ at d.at) where
    on_earth : Written q q₂ at (on_points (map (project_point t)) m) (Some d)
    on_earth = mapped_written (project_point t) one there

    pub close-line : (geometry ≡ 2 → ⊥) → Written q q₂ at (on_points (project_and_close t geometry) m) (Some d)
    close-line line = rw (ne_eqb geometry 2 line) on_earth

    pub close-ring : geometry ≡ 2 → at + 2 ≤ d.at → {q₃ : List Float} → q₃ ≡ first_repeated_in q₂ at d.at → Written q q₃ at (on_points (project_and_close t geometry) m) (Some d)
    close-ring ring some last = rw (eq-eqb geometry 2 ring) (repeated_written on_earth some last)

-- ---- how many points a stroke makes
-- a stroke's points on the canvas, and its positions
abbrev pub stroke_points : Ctx → List Point → Budget → Made
stroke_points cx ps b = densify_polyline_of cx.step cx.projection.registration.scale ps b

abbrev pub stroke_made : Ctx → ℕ → List Point → Budget → Made
stroke_made cx geometry ps b = on_points (project_and_close cx.projection geometry) (stroke_points cx ps b)

module _ (cx : Ctx) (w : List Float) (from to : ℕ) (b : Budget) where
  abbrev between : List Point
  between = points_in w from to

  pub stroke_some : from + 2 ≤ to → 1 ≤ length (stroke_points cx between b).points
  stroke_some h = omega (arith, points-between w from to, densify_least cx.step cx.projection.registration.scale between b)

  pub stroke_few : (geometry : ℕ) → to ≤ longest → b.left ≤ most → length (stroke_made cx geometry between b).points ≤ most + longest
  stroke_few geometry h left =
      rw (positions_length cx.projection geometry (stroke_points cx between b).points)
      (omega (arith, points-between w from to, densify_sized cx.step cx.projection.registration.scale between b))

-- ---- a stroke as the code draws it
module _ (cx : Ctx) (p : Props) (geometry role : ℕ) (ps : List Point) (work : ℕ) {q : List Float} {f v : List ℕ} {st : State}
    (h : Fits (output_by work q f v (Ok st)) st.budget) where
  abbrev made : Made
  made = stroke_points cx ps st.budget

  abbrev drawn : List Point
  drawn = project_and_close cx.projection geometry made.points

  pub stroke_lacks : {q₁ : List Float} → Written q q₁ st.positions made None
      → Applied (stroke_of cx p geometry role ps st.budget) (output_by work q f v (Ok st)) (output_by work q₁ f v (Err PositionRoom)) (state_by (Err PositionRoom)).budget
  unfolding stroke_of
  stroke_lacks one =
      applied_drawn made (λ b. one_event (feature_of p geometry role drawn) b)
      (written_lacks p geometry role drawn made.after work h one.kept (no_room (close-short cx.projection geometry one)))

  pub stroke_finished : {q₁ : List Float} {d : PointCursor} → Written q q₁ st.positions (stroke_made cx geometry ps st.budget) (Some d) → {f' : List ℕ} {r : Result State Refusal}
      → Finished p geometry role d.at ((d.at - st.positions) / 2) d.budget f f' st r
      → Applied (stroke_of cx p geometry role ps st.budget) (output_by work q f v (Ok st)) (output_by work q₁ f' v r) (state_by r).budget
  unfolding stroke_of
  stroke_finished {d = d} one fin =
      let count : (d.at - st.positions) / 2 ≡ length drawn = omega (arith, one.next, flats-length drawn) in
      let left = left_falls (densify_replays cx.step cx.projection.registration.scale ps st.budget) in
      applied_drawn made (λ b. one_event (feature_of p geometry role drawn) b)
      (written_finished p geometry role drawn made.after work h (written_room one) one.holds (omega arith) (rw (count, one.next, one.left) at fin))
