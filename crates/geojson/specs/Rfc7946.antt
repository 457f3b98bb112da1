-- What RFC 7946 calls a position, a line and a ring, section by section.
use Rattle.std.specs.Prelude.{ℕ, zero, suc, ◌≤◌, ◌≡◌, List, [], ◌∷◌, T, length}
use Rattle.std.specs.Float.Ieee.Scale.{finite}
use Rattle.values.specs.declared.Point.{Point}

-- 3.1.1, and section 6 of RFC 8259, which knows no other numbers: longitude, then latitude, both finite
pub record Position (p : Point) : Type 0 where
  pub lon : T (finite p.x)
  pub lat : T (finite p.y)

abbrev pub Positions : List Point → Type 0
Positions [] = Unit {0}
Positions (p ∷ ps) = Position p × Positions ps

-- 3.1.4: two or more positions
pub record LineString (ps : List Point) : Type 0 where
  pub positions : Positions ps
  pub many : 2 ≤ length ps

-- the last of p and those behind it
abbrev pub last_from : Point → List Point → Point
last_from p [] = p
last_from p (q ∷ qs) = last_from q qs

-- the first and the last hold identical values
abbrev pub Closed : List Point → Type 0
Closed [] = Unit {0}
Closed (p ∷ ps) = last_from p ps ≡ p

-- 3.1.6: a closed LineString with four or more positions
pub record LinearRing (ps : List Point) : Type 0 where
  pub positions : Positions ps
  pub many : 4 ≤ length ps
  pub closed : Closed ps

-- 3.1.2, 3.1.4 and 3.1.6 by the number of a feature line's geometry: a point, a line, or a polygon of one ring
abbrev pub Geometry : ℕ → List Point → Type 0
Geometry zero ps = Positions ps × (length ps ≡ 1)
Geometry (suc zero) ps = LineString ps
Geometry (suc (suc zero)) ps = LinearRing ps
Geometry (suc (suc (suc n))) ps = ⊥
