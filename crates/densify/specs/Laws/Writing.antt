-- Laws of points written into a lent slice. Assumes nothing.
use Rattle.std.specs.Prelude.{◌≡◌, ℕ, ◌+◌, ◌<◌, ◌≤◌, List, [], map, length, take, refl, Float, Option, Some, None}
use Rattle.std.proofs.Common.{sym, ap, ◌∙◌, append-nil, arith, add_assoc, length-append, take-take, le-leb, leb-true, leb-false}
use Rattle.std.proofs.lemmas.Bool.{lt-leb}
use Rattle.std.proofs.lemmas.List.{length-map}
use Rattle.values.specs.Laws.Put.{put-before, put-none, put-length, put-more, put_over}
use Rattle.values.specs.Laws.Points.{flats-append, flats-length, points-back}
use Rattle.budget.specs.declared.Budget.{Budget}
use Rattle.values.specs.declared.Point.{Point}
use Rattle.densify.specs.declared.append.PointCursor.{PointCursor}
use Rattle.densify.specs.Densify.{Made, without_draws, and_then}
use Rattle.densify.specs.Inner.Written.{Written, on_points}
use Rattle.values.specs.Slices.{put}
use Rattle.values.specs.Points.{flats}
use Rattle.values.specs.Inner.Points.{points_in, in_place}

-- ---- Written
module _ (w : List Float) (at : ℕ) (m : Made) where
  -- no room
  pub written_short : (w' : List Float) → length w < at + length (flats m.points)
      → take at w' ≡ take at w → length w' ≡ length w → Written w w' at m None
  written_short w' h same whole =
      record { asked = sym (lt-leb _ _ h); next = tt; left = tt; holds = tt; before = same; kept = whole }

  -- all points stand there
  pub written_all : (w' : List Float) (d : PointCursor) → at + length (flats m.points) ≤ length w
      → d.at ≡ at + length (flats m.points) → d.budget ≡ m.after → w' ≡ put w at (flats m.points) → Written w w' at m (Some d)
  written_all w' d h n b there =
      record {
        asked = sym (le-leb _ _ h);
        next = n;
        left = b;
        holds = there;
        before = rw there (put-before w at (flats m.points) (omega arith));
        kept = rw there (put-length w at (flats m.points) h);
      }

-- no points
pub written_none : (w : List Float) (at : ℕ) (b : Budget) → at ≤ length w → Written w w at (without_draws [] b) (Some (record { at = at; budget = b }))
unfolding flats
written_none w at b h = written_all w at (without_draws [] b) w _ (omega arith) (omega arith) refl (sym (put-none w at))

-- what had no room
module _ {w w₁ : List Float} {at : ℕ} {a : Made} (one : Written w w₁ at a None) where
  pub no_room : length w < at + length (flats a.points)
  no_room = leb-false _ _ (sym one.asked)

  -- it has none with more points
  pub still_short : (b : Made) → length a.points ≤ length b.points → Written w w₁ at b None
  still_short b more =
      let h = no_room in
      written_short w at b w₁ (omega (arith, flats-length a.points, flats-length b.points)) one.before one.kept

  -- a first that had no room: the whole has none
  pub join_short : (f : Budget → Made) → Written w w₁ at (and_then a f) None
  join_short f =
      let h = no_room in
      written_short w at (and_then a f) w₁ (rw (flats-append, length-append) (omega arith)) one.before one.kept

-- what had room
module _ {w w₁ : List Float} {at : ℕ} {a : Made} {d : PointCursor} (one : Written w w₁ at a (Some d)) where
  pub written_room : at + length (flats a.points) ≤ length w
  written_room = leb-true _ _ (sym one.asked)

  -- the next place is within the slice
  pub next_in : d.at ≤ length w₁
  next_in = omega (arith, one.next, written_room, one.kept)

-- a second from where the first ended
module _ {w w₁ : List Float} {at : ℕ} {a : Made} {d : PointCursor} (one : Written w w₁ at a (Some d)) where
  pub join_done : (f : Budget → Made) {w₂ : List Float} {s : Option PointCursor} → Written w₁ w₂ d.at (f d.budget) s → Written w w₂ at (and_then a f) s
  join_done f {w₂} {s} two' = go (rw one.left at two')
    where
      before-joined : take d.at w₂ ≡ take d.at w₁ → take at w₂ ≡ take at w
      before-joined e = sym (take-take at d.at w₂ (omega (arith, one.next, written_room one))) ∙ ap (take at) e ∙ take-take at d.at w₁ (omega (arith, one.next, written_room one)) ∙ one.before

      go : {s : Option PointCursor} → Written w₁ w₂ d.at (f a.after) s → Written w w₂ at (and_then a f) s
      go {s = None} two =
          written_short w at (and_then a f) w₂ (rw (flats-append, length-append) (omega (arith, no_room two, one.next, one.kept)))
          (before-joined two.before) (two.kept ∙ one.kept)
      go {s = Some e} two =
          written_all w at (and_then a f) w₂ e (rw (flats-append, length-append) (omega (arith, written_room two, one.next, one.kept)))
          (rw (flats-append, length-append, ← add_assoc, ← one.next) two.next) two.left
          (rw flats-append (two.holds ∙ rw (one.next, one.holds) (put-more w at (flats a.points) (flats (f a.after).points) (written_room one))))

-- only the points and what is left are told
pub written_as : {w w' : List Float} {at : ℕ} {r : Option PointCursor} (m n : Made) → m.points ≡ n.points → m.after ≡ n.after → Written w w' at m r → Written w w' at n r
written_as {r = None} m n e f h = record { asked = rw (← e) h.asked; next = tt; left = tt; holds = tt; before = h.before; kept = h.kept }
written_as {r = Some d} m n e f h =
    record {
      asked = rw (← e) h.asked;
      next = rw (← e) h.next;
      left = rw (← f) h.left;
      holds = rw (← e) h.holds;
      before = h.before;
      kept = h.kept;
    }

-- ---- what is written, then changed where it stands
pub written_points : {w w₁ : List Float} {at : ℕ} {m : Made} {d : PointCursor} → Written w w₁ at m (Some d) → points_in w₁ at d.at ≡ m.points
written_points {w} {at = at} {m = m} one =
    let room = written_room one in
    rw (one.holds, one.next) (points-back w at (at + length (flats m.points)) m.points (omega arith) (omega (arith, flats-length m.points)))

pub mapped_written : (f : Point → Point) {w w₁ w₂ : List Float} {at : ℕ} {m : Made} {d : PointCursor} → Written w w₁ at m (Some d) → w₂ ≡ in_place f w₁ at d.at
    → Written w w₂ at (on_points (map f) m) (Some d)
unfolding in_place
mapped_written f {w} {w₂ = w₂} {at = at} {m = m} {d = d} one there =
    let n = on_points (map f) m in
    let room : length (flats n.points) ≡ length (flats m.points) = omega (arith, flats-length n.points, flats-length m.points, length-map m.points f) in
    let h = written_room one in
    written_all w at n w₂ d (rw room h) (rw room one.next) one.left
    (there ∙ rw (written_points one, one.holds) (put_over w at (flats m.points) (omega arith) (flats n.points) room))

-- ---- loops: whatever writes the rest from here has written the whole
abbrev pub Leads : List Float → ℕ → Made → List Float → ℕ → Made → Type 0
Leads w at m w₁ at₁ rest = (w₂ : List Float) (r : Option PointCursor) → Written w₁ w₂ at₁ rest r → Written w w₂ at m r

module _ {w w₁ w₂ : List Float} {at at₁ : ℕ} {m a : Made} (f : Budget → Made) (l : Leads w at m w₁ at₁ (and_then a f)) where
  pub leads_next : {d : PointCursor} → Written w₁ w₂ at₁ a (Some d) → Leads w at m w₂ d.at (f d.budget)
  leads_next one w₃ s h = l w₃ s (join_done one f h)

  pub leads_short : Written w₁ w₂ at₁ a None → Written w w₂ at m None
  leads_short one = l w₂ None (join_short one f)

pub leads_end : {w w₁ : List Float} {at at₁ : ℕ} {m : Made} {b : Budget} → Leads w at m w₁ at₁ (without_draws [] b) → at₁ ≤ length w₁ → Written w w₁ at m (Some (record { at = at₁; budget = b }))
leads_end {w} {w₁} {at} {at₁} {m} {b} l h = l w₁ _ (written_none w₁ at₁ b h)

-- ---- and_then
pub and_then-none : (a : Made) → and_then a (without_draws []) ≡ a
and_then-none a = simp append-nil
