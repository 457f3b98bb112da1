-- Canvas points to the Earth: `plane_offset` and `to_lonlat` of the source's register.rs, operation by operation.
use Rattle.std.specs.Prelude.{Float}
use Rattle.std.specs.Float.{binary64}
use Rattle.std.specs.Float.Ieee.{of_bits, neg, add, sub, mul, div}
use Rattle.values.specs.declared.Point.{Point}
use Rattle.float.specs.Functions.{round_of}
use Rattle.elementary.specs.Functions.{to_radians_of, sin_of, cos_of}
use Rattle.geodesy.specs.declared.LonLat.{LonLat}
use Rattle.geodesy.specs.declared.Metres.{Metres}
use Rattle.geodesy.specs.Geodesy.{mercator_forward_of, mercator_inverse_of}
use Rattle.projection.specs.declared.Registration.{Registration}
use Rattle.projection.specs.declared.Projection.{Projection}

-- the anchor
abbrev pub anchor_of : Registration → LonLat
anchor_of r = record { lon = r.lon; lat = r.lat }

-- `plane_offset`: east and north of the anchor, in metres
unfoldable pub plane_offset_of : Registration → Float → Float → Metres
plane_offset_of r x y =
    let dx = mul binary64 (sub binary64 x r.x) r.scale in
    let dy = mul binary64 (sub binary64 y r.y) r.scale in
    let b = to_radians_of r.bearing in
    record {
      x = add binary64 (mul binary64 dx (cos_of b)) (mul binary64 dy (sin_of b));
      y = add binary64 (mul binary64 (neg dx) (sin_of b)) (mul binary64 dy (cos_of b));
    }

-- `to_lonlat`
unfoldable pub to_lon_lat_of : Registration → Float → Float → LonLat
to_lon_lat_of r x y =
    let o = plane_offset_of r x y in
    let a = mercator_forward_of (anchor_of r) in
    mercator_inverse_of (record { x = add binary64 a.x o.x; y = add binary64 a.y o.y })

-- ---- the same with what does not change from point to point worked out once
unfoldable pub projection_of : Registration → Projection
projection_of r =
    let b = to_radians_of r.bearing in
    let a = mercator_forward_of (anchor_of r) in
    record { registration = r; sin = sin_of b; cos = cos_of b; east = a.x; north = a.y }

unfoldable pub to_lon_lat_by : Projection → Float → Float → LonLat
to_lon_lat_by p x y =
    let r = p.registration in
    let dx = mul binary64 (sub binary64 x r.x) r.scale in
    let dy = mul binary64 (sub binary64 y r.y) r.scale in
    let e = add binary64 (mul binary64 dx p.cos) (mul binary64 dy p.sin) in
    let n = add binary64 (mul binary64 (neg dx) p.sin) (mul binary64 dy p.cos) in
    mercator_inverse_of (record { x = add binary64 p.east e; y = add binary64 p.north n })

-- ---- `round9` and `geo` of the source's convert.rs: the position that is given out
abbrev pub billion : Float
billion = of_bits binary64 0x41cdcd6500000000

unfoldable pub round9_of : Float → Float
round9_of v = div binary64 (round_of (mul binary64 v billion)) billion

unfoldable pub geo_of : Registration → Float → Float → LonLat
geo_of r x y = let p = to_lon_lat_of r x y in record { lon = round9_of p.lon; lat = round9_of p.lat }

unfoldable pub geo_by : Projection → Float → Float → LonLat
geo_by t x y = let p = to_lon_lat_by t x y in record { lon = round9_of p.lon; lat = round9_of p.lat }

-- as a point: longitude as x, latitude as y
unfoldable pub project_point : Projection → Point → Point
project_point t p = let g = geo_by t p.x p.y in record { x = g.lon; y = g.lat }
