-- Points and positions in a slice, two floats each: of a position longitude as x, latitude as y.
use Rattle.std.specs.Prelude.{ℕ, zero, suc, ◌+◌, List, [], ◌∷◌, get_or, Float}
use Rattle.std.specs.Float.{nan}
use Rattle.values.specs.declared.Point.{Point}

unfoldable pub flats : List Point → List Float
flats [] = []
flats (p ∷ ps) = p.x ∷ p.y ∷ flats ps

-- the point whose numbers stand at i
abbrev pub point_of : List Float → ℕ → Point
point_of w i = record { x = get_or w i nan; y = get_or w (i + 1) nan }

-- n points from i on
unfoldable pub points_of : List Float → ℕ → ℕ → List Point
points_of w i zero = []
points_of w i (suc n) = point_of w i ∷ points_of w (i + 2) n
