-- Where a canvas point comes to lie under a sound registration, and that rounding to nine decimals keeps it there. Assumes nothing.
use Rattle.std.specs.Prelude.{List, [], ◌∷◌, ℕ, ◌+◌, ◌*◌, ◌^◌, ◌≤◌, ◌≡◌, refl, T, Float}
use Rattle.std.proofs.Common.{arith, lit<, lit≤}
use Rattle.std.specs.Float.{binary64}
use Rattle.std.specs.Float.Ieee.{fits, neg, add, sub, mul, div, le, of_bits}
use Rattle.std.specs.Float.Ieee.Scale.{finite}
use Rattle.float.specs.Laws.Spans.{million, m_million, plus2^, minus2^, within_between, between_within, ends_spans, spans_ends, mul_spans, div_spans, whole_spans}
use Rattle.float.specs.Laws.Signed.{P, N, D}
use Rattle.float.specs.Laws.Magnitude.{Within, wider}
use Rattle.float.specs.Laws.Remainder.{Whole}
use Rattle.float.specs.Laws.Whole.{round_by_rule}
use Rattle.float.specs.Laws.Intervals.{Iv, iv, Between, in_finite}
use Rattle.float.specs.Laws.Expressions.{Expr, var, minus, plus, less, times, AllIn}
use Rattle.float.specs.Laws.Numbers.{half_within}
use Rattle.elementary.specs.Constants as K
use Rattle.elementary.specs.Functions.{to_radians_of, sin_of, cos_of}
use Rattle.elementary.specs.Inner.Stages.{atan_first, atan_second, atan_third}
use Rattle.elementary.specs.Laws.Stages.{stages_exp}
use Rattle.elementary.specs.Laws.Codes.{encloses, enclosed}
use Rattle.elementary.specs.Laws.Sine.{bound, low-bound, UnitSize, sin_unit, cos_unit}
use Rattle.elementary.specs.Laws.Mercator.{c89·5, m89·5}
use Rattle.geodesy.specs.declared.LonLat.{LonLat}
use Rattle.geodesy.specs.Geodesy.{mercator_forward_of, mercator_inverse_of}
use Rattle.geodesy.specs.Inner.Stages.{longitude_of, exp_ordinate_of, latitude_of}
use Rattle.geodesy.specs.Laws.Finite.{m180, c90, OnEarth, inverse_in, forward_east, forward_anchor}
use Rattle.projection.specs.declared.Registration.{Registration}
use Rattle.projection.specs.declared.Projection.{Projection}
use Rattle.projection.specs.Projection.{anchor_of, plane_offset_of, to_lon_lat_of, to_lon_lat_by, billion, round9_of, geo_of, geo_by}
use Rattle.projection.specs.Inner.Stages.{plane_position_of, plane_stage_of, rounded_latitude_of}

abbrev pub max_scale : Float
max_scale = of_bits binary64 0x41cdcd6500000000

pub record Sound (r : Registration) : Type 0 where
  pub lon : Between m180 K.c180 r.lon
  pub lat : Between m89·5 c89·5 r.lat
  pub x : Between m_million million r.x
  pub y : Between m_million million r.y
  pub scale : Between K.zero max_scale r.scale
  pub bearing : T (finite r.bearing)
  pub of_format : T (fits binary64 r.bearing)

-- ---- the bearing's sine and cosine
radian : (T (finite (div binary64 K.pi K.c180))) × (2 * (P (div binary64 K.pi K.c180) + N (div binary64 K.pi K.c180)) ≤ D (div binary64 K.pi K.c180))
unfolding of_bits div
radian = (tt, lit≤ tt)

turn_finite : (b : Float) → T (finite b) → T (fits binary64 b) → T (finite (to_radians_of b))
unfolding to_radians_of
turn_finite b f t = (half_within b (div binary64 K.pi K.c180) f t radian.0 radian.1).is_finite

unit_in : (v : Float) → UnitSize v → Between low-bound bound v
unit_in v u = record { low = u.0; high = u.1; fl = tt; fh = tt }

-- ---- the plane: x, the origin's x, y, the origin's y, scale, cosine, sine, and the anchor's east or north
abbrev dx : Expr
dx = times (less (var 0) (var 1)) (var 4)

abbrev dy : Expr
dy = times (less (var 2) (var 3)) (var 4)

abbrev east : Expr
east = plus (var 7) (plus (times dx (var 5)) (times dy (var 6)))

abbrev north : Expr
north = plus (var 7) (plus (times (minus dx) (var 6)) (times dy (var 5)))

abbrev ranges : List Iv
ranges =
    iv (minus2^ 24) (plus2^ 24) ∷ iv m_million million ∷ iv (minus2^ 24) (plus2^ 24) ∷ iv m_million million ∷ iv K.zero max_scale ∷ iv low-bound bound ∷ iv low-bound bound ∷ iv (minus2^ 40) (plus2^ 40) ∷ []

plane_test : T (encloses east ranges (minus2^ 60) (plus2^ 60)) × T (encloses north ranges (minus2^ 60) (plus2^ 60))
unfolding of_bits neg add sub mul le
plane_test = (tt, tt)

pub project_in : (r : Registration) → Sound r → (x y : Float) → Within 24 x → Within 24 y → OnEarth (to_lon_lat_of r x y)
unfolding to_lon_lat_of plane_offset_of
project_in r S x y v w =
    let b = to_radians_of r.bearing in
    let f = turn_finite r.bearing S.bearing S.of_format in
    let a = mercator_forward_of (anchor_of r) in
    let o = plane_offset_of r x y in
    inverse_in (record { x = add binary64 a.x o.x; y = add binary64 a.y o.y })
    (wider 60 1000 (add binary64 a.x o.x) (lit≤ tt) (between_within 60 (add binary64 a.x o.x)
    (enclosed east ranges (x ∷ r.x ∷ y ∷ r.y ∷ r.scale ∷ cos_of b ∷ sin_of b ∷ a.x ∷ []) (minus2^ 60) (plus2^ 60) plane_test.0
    (here b f a.x (wider 25 40 a.x (lit≤ tt) (forward_east (anchor_of r) S.lon))))))
    (in_finite (minus2^ 60) (plus2^ 60) (add binary64 a.y o.y)
    (enclosed north ranges (x ∷ r.x ∷ y ∷ r.y ∷ r.scale ∷ cos_of b ∷ sin_of b ∷ a.y ∷ []) (minus2^ 60) (plus2^ 60) plane_test.1
    (here b f a.y (forward_anchor (anchor_of r) S.lat))))
  where
    here : (b : Float) → T (finite b) → (e : Float) → Within 40 e → AllIn ranges (x ∷ r.x ∷ y ∷ r.y ∷ r.scale ∷ cos_of b ∷ sin_of b ∷ e ∷ [])
    here b f e i =
        (within_between 24 x v, (S.x, (within_between 24 y w, (S.y, (S.scale, (unit_in (cos_of b) (cos_unit b f), (unit_in (sin_of b) (sin_unit b f), (within_between 40 e i, tt))))))))

-- ---- nine decimals
billion-whole : Whole billion (10 ^ 9)
unfolding of_bits
billion-whole = record { is_finite = tt; up_is = refl; no_minus = refl }

pub rounded_in : (k : ℕ) (c v : Float) → Whole c k → 2 * (10 ^ 9 * k) ≤ 2 ^ 53 → Between (neg c) c v → Between (neg c) c (round9_of v)
unfolding round9_of
rounded_in k c v h w i =
    spans_ends k c (round9_of v) h
    (div_spans (10 ^ 9) billion (lit< tt) billion-whole (omega arith) (whole_spans round_by_rule (omega arith) (mul_spans (10 ^ 9) billion billion-whole (omega arith) (ends_spans k c v h i))))

whole_180 : Whole K.c180 180
unfolding of_bits
whole_180 = record { is_finite = tt; up_is = refl; no_minus = refl }

whole_90 : Whole c90 90
unfolding of_bits
whole_90 = record { is_finite = tt; up_is = refl; no_minus = refl }

pub rounded_earth : (p : LonLat) → OnEarth p → OnEarth (record { lon = round9_of p.lon; lat = round9_of p.lat })
rounded_earth p h = (rounded_in 180 K.c180 p.lon whole_180 (lit≤ tt) h.0, rounded_in 90 c90 p.lat whole_90 (lit≤ tt) h.1)

-- the position given out for a canvas point
pub geo_in : (r : Registration) → Sound r → (x y : Float) → Within 24 x → Within 24 y → OnEarth (geo_of r x y)
unfolding geo_of
geo_in r S x y v w = rounded_earth (to_lon_lat_of r x y) (project_in r S x y v w)

-- ---- `geo_by` in stages
pub geo_staged : (p : Projection) (x y : Float)
    → geo_by p x y ≡ record { lon = (plane_stage_of p x y).lon; lat = rounded_latitude_of (atan_third (atan_second (atan_first (exp_ordinate_of (plane_stage_of p x y).lat)))) }
unfolding geo_by to_lon_lat_by mercator_inverse_of plane_position_of plane_stage_of rounded_latitude_of longitude_of exp_ordinate_of latitude_of
geo_staged p x y = rw stages_exp
