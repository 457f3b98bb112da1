-- `geo_by` in stages: the longitude that is given out with the ordinate on the plane, and the latitude of the arc tangent
-- of its exponential.
use Rattle.std.specs.Prelude.{◌≡◌, Float}
use Rattle.std.specs.Float.{binary64}
use Rattle.std.specs.Float.Ieee.{neg, add, sub, mul}
use Rattle.geodesy.specs.declared.LonLat.{LonLat}
use Rattle.geodesy.specs.declared.Metres.{Metres}
use Rattle.geodesy.specs.Inner.Stages.{longitude_of, latitude_of}
use Rattle.values.specs.declared.Point.{Point}
use Rattle.projection.specs.declared.Projection.{Projection}
use Rattle.projection.specs.Projection.{round9_of}

-- the point's position on the plane
unfoldable pub plane_position_of : Projection → Float → Float → Metres
plane_position_of p x y =
    let r = p.registration in
    let dx = mul binary64 (sub binary64 x r.x) r.scale in
    let dy = mul binary64 (sub binary64 y r.y) r.scale in
    let e = add binary64 (mul binary64 dx p.cos) (mul binary64 dy p.sin) in
    let n = add binary64 (mul binary64 (neg dx) p.sin) (mul binary64 dy p.cos) in
    record { x = add binary64 p.east e; y = add binary64 p.north n }

unfoldable pub plane_stage_of : Projection → Float → Float → LonLat
plane_stage_of p x y = let m = plane_position_of p x y in record { lon = round9_of (longitude_of m.x); lat = m.y }

unfoldable pub rounded_latitude_of : Float → Float
rounded_latitude_of a = round9_of (latitude_of a)

-- ---- of a point
unfoldable pub plane_stage_by : Projection → Point → Point
plane_stage_by t p = let g = plane_stage_of t p.x p.y in record { x = g.lon; y = g.lat }

-- the results that `post` allows are those of g
abbrev pub AreOf : (Float → Float → Type 0) → (Float → Float) → Type 0
AreOf post g = (v r : Float) → post v r → r ≡ g v

-- x as it is
abbrev pub on_y : (Float → Float) → Point → Point
on_y f p = record { x = p.x; y = f p.y }
