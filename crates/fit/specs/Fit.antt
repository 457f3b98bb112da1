-- `fit` of the source's register.rs with its frame Mercator: the least-squares similarity through control points, worked out about a first anchor and again about the anchor found. Each sum runs in control order.
use Rattle.std.specs.Prelude.{not, ◌&&◌, ◌||◌, List, [], ◌∷◌, map, length, pos, Float, Option, Some, None, if◌then◌else◌}
use Rattle.std.specs.Float.{binary64}
use Rattle.std.specs.Float.Ieee.{of_bits, of_int, neg, add, sub, mul, div, le, lt}
use Rattle.std.specs.Float.Ieee.Scale.{finite}
use Rattle.elementary.specs.Functions.{to_degrees_of, hypot_of, atan2_of}
use Rattle.geodesy.specs.declared.Metres.{Metres}
use Rattle.geodesy.specs.Geodesy.{mercator_forward_of, mercator_inverse_of}
use Rattle.fit.specs.declared.Control.{Control}
use Rattle.fit.specs.declared.Fit.{Fit}
use Rattle.fit.specs.declared.ProjectedControl.{ProjectedControl}
use Rattle.fit.specs.declared.Moments.{Moments}

abbrev pub zero : Float
zero = of_bits binary64 0

-- a control point, its position projected: east and north
unfoldable pub projected_of : Control → ProjectedControl
projected_of c =
    let m = mercator_forward_of (record { lon = c.lon; lat = c.lat }) in
    record { x = c.x; y = c.y; e = m.x; n = m.y }

-- ---- the centroids, on the canvas and on the plane about the anchor a
abbrev pub no_sums : ProjectedControl
no_sums = record { x = zero; y = zero; e = zero; n = zero }

unfoldable pub added : Metres → ProjectedControl → ProjectedControl → ProjectedControl
added a s m =
    record {
      x = add binary64 s.x m.x;
      y = add binary64 s.y m.y;
      e = add binary64 s.e (sub binary64 m.e a.x);
      n = add binary64 s.n (sub binary64 m.n a.y);
    }

unfoldable pub sums_of : Metres → List ProjectedControl → ProjectedControl → ProjectedControl
sums_of a [] s = s
sums_of a (m ∷ ms) s = sums_of a ms (added a s m)

unfoldable pub divided_by : ProjectedControl → Float → ProjectedControl
divided_by s k = record { x = div binary64 s.x k; y = div binary64 s.y k; e = div binary64 s.e k; n = div binary64 s.n k }

unfoldable pub means_of : Metres → List ProjectedControl → ProjectedControl
means_of a ms = divided_by (sums_of a ms no_sums) (of_int binary64 (pos (length ms)))

-- ---- `num_a`, `num_b` and `den`, about the anchor a and the centroids c
abbrev pub no_moments : Moments
no_moments = record { a = zero; b = zero; den = zero }

unfoldable pub momented : Metres → ProjectedControl → Moments → ProjectedControl → Moments
momented a c s m =
    let dx = sub binary64 m.x c.x in
    let dy = sub binary64 m.y c.y in
    let ex = sub binary64 (sub binary64 m.e a.x) c.e in
    let ny = sub binary64 (sub binary64 m.n a.y) c.n in
    record {
      a = add binary64 s.a (add binary64 (mul binary64 dx ex) (mul binary64 dy ny));
      b = add binary64 s.b (sub binary64 (mul binary64 dx ny) (mul binary64 dy ex));
      den = add binary64 s.den (add binary64 (mul binary64 dx dx) (mul binary64 dy dy));
    }

unfoldable pub moments_of : Metres → ProjectedControl → List ProjectedControl → Moments → Moments
moments_of a c [] s = s
moments_of a c (m ∷ ms) s = moments_of a c ms (momented a c s m)

-- ---- one round: none where the points coincide on the canvas or on the Earth
-- A and B are the similarity's two numbers, on the plane about the anchor a with the centroids c
unfoldable pub fit_at : Metres → ProjectedControl → Float → Float → Option Fit
fit_at a c A B =
    let scale = hypot_of A B in
    let anchor = mercator_inverse_of (record { x = add binary64 a.x c.e; y = add binary64 a.y c.n }) in
    if finite scale && lt zero scale then
    Some (record { lon = anchor.lon; lat = anchor.lat; x = c.x; y = c.y; scale = scale; bearing = to_degrees_of (atan2_of (neg B) A) })
    else None

unfoldable pub solved_of : Metres → ProjectedControl → Moments → Option Fit
solved_of a c s =
    if le s.den zero || not (finite s.den) then None else fit_at a c (div binary64 s.a s.den) (div binary64 s.b s.den)

unfoldable pub round_of : Metres → List ProjectedControl → Option Fit
round_of a ms = let c = means_of a ms in solved_of a c (moments_of a c ms no_moments)

-- ---- both rounds
unfoldable pub again : Option Fit → List ProjectedControl → Option Fit
again (Some f) ms = round_of (mercator_forward_of (record { lon = f.lon; lat = f.lat })) ms
again None ms = None

-- the first round is about the first point's position
unfoldable pub fit_projected : List ProjectedControl → Option Fit
fit_projected [] = None
fit_projected (m ∷ ms) = again (round_of (record { x = m.e; y = m.n }) (m ∷ ms)) (m ∷ ms)

unfoldable pub fit_of : List Control → Option Fit
fit_of cs = fit_projected (map projected_of cs)
