-- Laws of points that are carried to the Earth where they stand: a pass over a line, and one pass after another. Assumes nothing.
use Prim.Native.Nat.{ℕ, suc, ◌+◌, ◌-◌, ◌*◌, ◌/◌, ◌≤◌, ◌<◌}
use Rattle.std.specs.Prelude.{◌≡◌, refl, length, set, get_or, Float}
use Rattle.std.proofs.Math.Path.{sym}
use Rattle.std.proofs.Common.{◌∙◌, get_or-set_other}
use mathlib.Core.List.{List, [], ◌∷◌, ◌++◌, map, map-append, map-map}
use native.Mathlib.Omega.{arith}
use Rattle.std.proofs.lemmas.List.{length-map, set-get_or}
use Rattle.std.proofs.Math.ListN.{length-set}
use Rattle.std.specs.Float.{nan}
use Rattle.values.specs.declared.Point.{Point}
use Rattle.values.specs.Points.{flats, point_of, points_of}
use Rattle.values.specs.Slices.{put}
use Rattle.values.specs.Inner.Points.{points_in, in_place}
use Rattle.values.specs.Laws.Put.{put-none, value_behind, put_over}
use Rattle.values.specs.Laws.Points.{flats-length, put_next, points-count, points-between, points_last, points-back}
use Rattle.geodesy.specs.declared.LonLat.{LonLat}
use Rattle.geodesy.specs.Inner.Stages.{exp_ordinate_of}
use Rattle.projection.specs.declared.Projection.{Projection}
use Rattle.elementary.specs.Inner.Stages.{atan_first, atan_second, atan_third}
use Rattle.projection.specs.Projection.{geo_by, project_point}
use Rattle.projection.specs.Inner.Stages.{plane_stage_of, plane_stage_by, rounded_latitude_of, on_y}
use Rattle.projection.specs.Laws.Project.{geo_staged}

-- the two stores of one point more
put_there : (w : List Float) (at : ℕ) (ps : List Point) (p : Point) (i : ℕ) {w₁ : List Float} → i ≡ at + length (flats ps) → i + 2 ≤ length w → w₁ ≡ put w at (flats ps)
    → set (set w₁ i p.x) (i + 1) p.y ≡ put w at (flats (ps ++ (p ∷ [])))
put_there w at ps p i e h is = rw (is, e) (put_next w at ps p (omega arith))

-- ---- a pass: the points before i are done, those from i on are as they were
pub record Passed (f : Point → Point) (w₀ : List Float) (from to : ℕ) (w : List Float) (i : ℕ) : Type 0 where
  pub within : i ≤ to
  pub room : to ≤ length w
  pub even : i ≡ from + 2 * ((i - from) / 2)
  pub holds : w ≡ in_place f w₀ from i
  pub kept : length w ≡ length w₀

pub pass_start : (f : Point → Point) (w : List Float) (from to : ℕ) {i : ℕ} → i ≡ from → from ≤ to → to ≤ length w → Passed f w from to w i
unfolding in_place points_in points_of flats
pass_start f w from to {i} e h k =
    let n : (i - from) / 2 ≡ 0 = omega arith in
    record { within = omega arith; room = k; even = omega arith; holds = rw n (sym (put-none w from)); kept = refl }

module _ {f : Point → Point} {w₀ : List Float} {from to : ℕ} {w : List Float} {i : ℕ} (h : Passed f w₀ from to w i) where
  pub pass_end : to < i + 2 → w ≡ in_place f w₀ from to
  unfolding in_place points_in
  pass_end k = let n : (to - from) / 2 ≡ (i - from) / 2 = omega arith in rw n h.holds

  abbrev done : List Point
  done = map f (points_of w₀ from ((i - from) / 2))

  end : i ≡ from + length (flats done)
  end = rw (flats-length, length-map, points-count) h.even

  same : w ≡ put w₀ from (flats done)
  unfolding in_place points_in
  same = h.holds

  here : (j : ℕ) → i ≤ j → get_or w j nan ≡ get_or w₀ j nan
  here j k = rw same (value_behind w₀ from (flats done) (omega arith) nan j (omega (arith, end)))

  -- the two stores of a point
  pub pass_turn : {j : ℕ} → j ≡ i + 2 → j ≤ to → (p : Point) → p ≡ f (point_of w i) → Passed f w₀ from to (set (set w i p.x) (i + 1) p.y) j
  unfolding in_place points_in
  pass_turn {j} d k p e =
      let n : (j - from) / 2 ≡ suc ((i - from) / 2) = omega arith in
      let next : map f (points_of w₀ from (suc ((i - from) / 2))) ≡ done ++ (p ∷ []) =
      rw (points_last, map-append, ← h.even, e, here i (omega arith), here (i + 1) (omega arith)) in
      record {
        within = k;
        room = simp length-set h.room;
        even = omega arith;
        holds = rw (n, next) (put_there w₀ from done p i end (omega arith) same);
        kept = simp length-set h.kept;
      }

-- no point
pub pass_none : (f : Point → Point) (w : List Float) (from to : ℕ) → from ≤ to → to ≤ length w → to < from + 2 → w ≡ in_place f w from to
pass_none f w from to h k few = pass_end (pass_start f w from to refl h k) few

-- the one store of a y
pub pass_turn_y : (g : Float → Float) {w₀ : List Float} {from to : ℕ} {w : List Float} {i j : ℕ} → Passed (on_y g) w₀ from to w i → j ≡ i + 2 → j ≤ to
    → (y : Float) → y ≡ g (get_or w (i + 1) nan) → Passed (on_y g) w₀ from to (set w (i + 1) y) j
pass_turn_y g {w = w} {i = i} h d k y e = rw (set-get_or w i nan) at (pass_turn h d k (record { x = get_or w i nan; y = y }) (rw e))

-- the y of a point and of the next
pub pass_turn_both : (g : Float → Float) {w₀ : List Float} {from to : ℕ} {w : List Float} {i j : ℕ} → Passed (on_y g) w₀ from to w i → j ≡ i + 4 → j ≤ to
    → (y z : Float) → y ≡ g (get_or w (i + 1) nan) → z ≡ g (get_or w (i + 3) nan) → Passed (on_y g) w₀ from to (set (set w (i + 1) y) (i + 3) z) j
pass_turn_both g {w₀ = w₀} {from = from} {to = to} {w = w} {i = i} h d k y z a b =
    let o : (i + 3 ≡ i + 1 → ⊥) = λ f. omega arith in
    let n : i + 2 + 1 ≡ i + 3 = omega arith in
    rw n at (pass_turn_y g (pass_turn_y g h refl (omega arith) y a) (omega arith) k z (rw (n, get_or-set_other w (i + 1) (i + 3) y nan o) b))

-- ---- one pass after another
module _ (w : List Float) (from to : ℕ) (h : from ≤ to) (k : to ≤ length w) where
  mapped_room : (f : Point → Point) → length (flats (map f (points_in w from to))) ≡ 2 * ((to - from) / 2)
  mapped_room f = rw (flats-length, length-map, points-between)

  pub pass_then : (f g : Point → Point) → in_place g (in_place f w from to) from to ≡ in_place (λ p. g (f p)) w from to
  unfolding in_place
  pass_then f g =
      let ps = map f (points_in w from to) in
      let back : points_in (put w from (flats ps)) from to ≡ ps = points-back w from to ps (omega arith) (sym (rw (length-map, points-between))) in
      rw (back, map-map) (put_over w from (flats ps) (omega arith) (flats (map (λ p. g (f p)) (points_in w from to))) (mapped_room (λ p. g (f p)) ∙ sym (mapped_room f)))

-- ---- positions
-- as the code makes it of `geo`
pub placed_is : (t : Projection) {g : LonLat} (p : Point) → g ≡ geo_by t p.x p.y → record { x = g.lon; y = g.lat } ≡ project_point t p
unfolding project_point
placed_is t p e = rw e

-- of `plane_stage`
pub plane_is : (t : Projection) {g : LonLat} (p : Point) → g ≡ plane_stage_of t p.x p.y → record { x = g.lon; y = g.lat } ≡ plane_stage_by t p
unfolding plane_stage_by
plane_is t p e = rw e

abbrev last_stage : Float → Float
last_stage v = rounded_latitude_of (atan_third v)

placed_staged : (t : Projection) (p : Point) → on_y last_stage (on_y atan_second (on_y atan_first (on_y exp_ordinate_of (plane_stage_by t p)))) ≡ project_point t p
unfolding project_point plane_stage_by
placed_staged t p = rw geo_staged

pub five_passes : (t : Projection) (w : List Float) (from to : ℕ) → from ≤ to → to ≤ length w → {a b c d e : List Float} → a ≡ in_place (plane_stage_by t) w from to
    → b ≡ in_place (on_y exp_ordinate_of) a from to
    → c ≡ in_place (on_y atan_first) b from to → d ≡ in_place (on_y atan_second) c from to → e ≡ in_place (on_y last_stage) d from to
    → e ≡ in_place (project_point t) w from to
five_passes t w from to h k ea eb ec ed ee = rw (ee, ed, ec, eb, ea, pass_then w from to h k, pass_then w from to h k, pass_then w from to h k, pass_then w from to h k) (λ i. in_place (λ p. placed_staged t p i) w from to)
