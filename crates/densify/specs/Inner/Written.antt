-- What a producer leaves in a lent slice, two floats a point.
use Rattle.std.specs.Prelude.{◌≡◌, ℕ, ◌+◌, ◌-◌, ◌*◌, ◌≤◌, true, false, cond, List, [], ◌∷◌, length, take, nat_le, slice_index_or, Float, Option, is_some, IfSome}
use Rattle.values.specs.Inner.Points.{point_in}
use Rattle.scene.specs.declared.readers.Path.{Path}
use Rattle.scene.specs.Scene.{DrawnPath}
use Rattle.values.specs.declared.Point.{Point}
use Rattle.scene.specs.Inner.Answers.{form_by}
use Rattle.densify.specs.declared.append.PointCursor.{PointCursor}
use Rattle.densify.specs.Densify.{Made, Block, same_point}
use Rattle.values.specs.Slices.{put}
use Rattle.values.specs.Points.{flats, point_of}

-- ---- arrays of the code as points
abbrev pub block_in : List (List Float) → Block
block_in b = record { p0 = point_in (slice_index_or b 0 []); c1 = point_in (slice_index_or b 1 []); c2 = point_in (slice_index_or b 2 []); p3 = point_in (slice_index_or b 3 []) }

-- what close_ring adds to points that begin with p and end with q
unfoldable pub closing : Point → Point → List Point
closing p q = cond (same_point p q) [] (p ∷ [])

-- to those that stand from `from` to `at`
unfoldable pub closing_in : List Float → ℕ → ℕ → List Point
closing_in w from at = cond (nat_le (from + 2) at) (closing (point_of w from) (point_of w (at - 2))) []

-- There is an answer exactly where the points have room from `at` on; then they stand there, and nothing else is changed. Without room, what stood before `at` is as it was.
pub record Written (w w' : List Float) (at : ℕ) (m : Made) (r : Option PointCursor) : Type 0 where
  pub asked : is_some r ≡ nat_le (at + length (flats m.points)) (length w)
  pub next : IfSome r (λ d. d.at ≡ at + length (flats m.points))
  pub left : IfSome r (λ d. d.budget ≡ m.after)
  pub holds : IfSome r (λ d. w' ≡ put w at (flats m.points))
  pub before : take at w' ≡ take at w
  pub kept : length w' ≡ length w

-- ---- a path that the code holds by where its points stand
abbrev pub drawn_by : List ℕ → Path → DrawnPath
drawn_by l p = record { closed = p.closed; form = form_by l p }

-- its points lie within a payload of n bytes
pub record PathFits (n : ℕ) (p : Path) : Type 0 where
  pub start : p.curve ≡ true → p.start + 16 ≤ n
  pub cubics : p.curve ≡ true → p.at + 48 * p.count ≤ n
  pub points : p.curve ≡ false → p.at + 16 * p.count ≤ n

-- the same draws, with what f makes of the points
abbrev pub on_points : (List Point → List Point) → Made → Made
on_points f m = record { points = f m.points; after = m.after; draws = m.draws }
