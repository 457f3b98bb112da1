-- Points by their numbers, in an array or a slice of the code.
use Rattle.std.specs.Prelude.{ℕ, ◌-◌, ◌/◌, List, map, get_or, Float}
use Rattle.std.specs.Float.{nan}
use Rattle.values.specs.declared.Point.{Point}
use Rattle.values.specs.Points.{flats, points_of}
use Rattle.values.specs.Slices.{put}

abbrev pub point_in : List Float → Point
point_in p = record { x = get_or p 0 nan; y = get_or p 1 nan }

abbrev pub point_with : Float → Float → Point
point_with x y = record { x = x; y = y }

-- all that stand from `from` to `to`
unfoldable pub points_in : List Float → ℕ → ℕ → List Point
points_in w from to = points_of w from ((to - from) / 2)

-- w with f of each point that stands from `from` to `to`, where it stood
unfoldable pub in_place : (Point → Point) → List Float → ℕ → ℕ → List Float
in_place f w from to = put w from (flats (map f (points_in w from to)))
