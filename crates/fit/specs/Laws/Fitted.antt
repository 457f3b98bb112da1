-- Where a fit of up to 64 placed control points lies. Assumes nothing.
use Rattle.std.specs.Prelude.{◌≡◌, refl, List, [], ◌∷◌, map, Bool, true, false, not, ◌&&◌, ◌||◌, ℕ, suc, ◌+◌, ◌*◌, ◌^◌, ◌≤◌, ◌<◌, pos, T, length, Float, Option, Some, None, IfSome, if◌then◌else◌}
use Rattle.std.proofs.Common.{sym, subst, zero-lt-suc, mul-le-mul_right, arith, lit≤}
use Rattle.std.proofs.lemmas.List.{length-map}
use Rattle.std.specs.Float.{fin}
use Rattle.std.specs.Float.Ieee.{binary64, of_int, fits, neg, add, sub, div, lt, le, of_bits}
use Rattle.std.specs.Float.Ieee.Fits.{and_l, and_r, mul-fits}
use Rattle.std.specs.Float.Ieee.Scale.{finite}
use Rattle.float.specs.Laws.Spans.{each_map, whole-million, Spans, Few, Each, total, looser, ends_spans, spans_ends, within_spans, spans_within, add_spans, sub_spans, mean_spans, floor, million, m_million}
use Rattle.float.specs.Laws.Operations.{finite_neg}
use Rattle.float.specs.Laws.Magnitude.{Within, wider}
use Rattle.float.specs.Laws.Remainder.{Whole}
use Rattle.float.specs.Laws.Intervals.{iv, Between}
use Rattle.float.specs.Laws.Expressions.{var, lit, over}
use Rattle.elementary.specs.Constants as K
use Rattle.elementary.specs.Functions.{to_degrees_of, hypot_of, atan2_of}
use Rattle.elementary.specs.Laws.Codes.{encloses, enclosed}
use Rattle.elementary.specs.Laws.Exponential.{m3·25, c3·25}
use Rattle.elementary.specs.Laws.Mercator.{c89·5, m89·5, latitude_of, anchor_in}
use Rattle.elementary.specs.Laws.Ordinate.{c85·06, m85·06}
use Rattle.geodesy.specs.declared.LonLat.{LonLat}
use Rattle.geodesy.specs.declared.Metres.{Metres}
use Rattle.geodesy.specs.Geodesy.{radius, mercator_forward_of, mercator_inverse_of}
use Rattle.geodesy.specs.Laws.Finite.{m180, edge, inverse_in, forward_east, forward_north, forward_anchor}
use Rattle.fit.specs.declared.Control.{Control}
use Rattle.fit.specs.declared.Fit.{Fit}
use Rattle.fit.specs.declared.ProjectedControl.{ProjectedControl}
use Rattle.fit.specs.Fit.{projected_of, no_sums, added, sums_of, divided_by, means_of, no_moments, moments_of, fit_at, solved_of, round_of, again, fit_projected, fit_of}
use Rattle.fit.specs.Laws.Bearing.{hypot_parts, bearing_in}

-- ---- control points, and their projected positions
pub record ControlWithin (c : Control) : Type 0 where
  pub x : Between m_million million c.x
  pub y : Between m_million million c.y
  pub lon : Between m180 K.c180 c.lon
  pub lat : Between m85·06 c85·06 c.lat

-- at most k in size
abbrev Sized : ℕ → Float → Type 0
Sized k v = Spans 0 k k 0 v

record ProjectedIn (m : ProjectedControl) : Type 0 where
  x : Sized 1000000 m.x
  y : Sized 1000000 m.y
  e : Sized (2 ^ 25) m.e
  n : Sized 20330312 m.n

whole-edge : Whole edge 20330312
whole-edge = record { is_finite = tt; up_is = refl; no_minus = refl }

projected : (c : Control) → ControlWithin c → ProjectedIn (projected_of c)
unfolding projected_of
projected c h =
    let p : LonLat = record { lon = c.lon; lat = c.lat } in
    let m = mercator_forward_of p in
    record {
      x = ends_spans 1000000 million c.x whole-million h.x;
      y = ends_spans 1000000 million c.y whole-million h.y;
      e = within_spans 25 m.x (forward_east p h.lon);
      n = ends_spans 20330312 edge m.y whole-edge (forward_north p h.lat);
    }

-- ---- the means
abbrev east : Metres → ProjectedControl → Float
east a m = sub binary64 m.e a.x

abbrev north : Metres → ProjectedControl → Float
north a m = sub binary64 m.n a.y

sums_are : (a : Metres) (ms : List ProjectedControl) (s : ProjectedControl)
    → sums_of a ms s ≡ record { x = total s.x (map (λ (m : ProjectedControl). m.x) ms); y = total s.y (map (λ (m : ProjectedControl). m.y) ms); e = total s.e (map (east a) ms); n = total s.n (map (north a) ms) }
unfolding sums_of added
sums_are a [] s = refl
sums_are a (m ∷ ms) s = sums_are a ms (added a s m)

abbrev mean_of : (ProjectedControl → Float) → List ProjectedControl → Float
mean_of f ms = div binary64 (total K.zero (map f ms)) (of_int binary64 (pos (length ms)))

means_are : (a : Metres) (ms : List ProjectedControl) → means_of a ms ≡ record { x = mean_of (λ (m : ProjectedControl). m.x) ms; y = mean_of (λ (m : ProjectedControl). m.y) ms; e = mean_of (east a) ms; n = mean_of (north a) ms }
unfolding means_of divided_by
means_are a ms = rw (sums_are a ms no_sums)

-- up to 64 points, at least one
record Filled (ms : List ProjectedControl) : Type 0 where
  least : 0 < length ms
  most : length ms ≤ 64
  each : Each ProjectedIn ms

mean_in : (a b c d : ℕ) (f : ProjectedControl → Float) (ms : List ProjectedControl) → Filled ms → 64 * (a + b + c + d) ≤ 2 ^ 53 → ((m : ProjectedControl) → ProjectedIn m → Spans a b c d (f m)) → Spans a b c d (mean_of f ms)
mean_in a b c d f ms S w g =
    mean_spans a b c d (map f ms) (length ms) (sym (length-map ms f)) S.least (few (length ms) S.most) (all (length ms) S.most) (each_map f ProjectedIn (Spans a b c d) g ms S.each)
  where
    few : (n : ℕ) → n ≤ 64 → n ≤ 2 ^ 53
    few n h = omega arith

    all : (n : ℕ) → n ≤ 64 → Few (n * a) (n * b) (n * c) (n * d)
    all n h = omega (arith, mul-le-mul_right (a + b + c + d) h)

-- an anchor on the plane, and its centroid
record Near (a : Metres) : Type 0 where
  x : Within 40 a.x
  y : Within 40 a.y

record Centred (a : Metres) (c : ProjectedControl) : Type 0 where
  x : Sized 1000000 c.x
  y : Sized 1000000 c.y
  e : Within 42 (add binary64 a.x c.e)
  n : Sized 20330313 (add binary64 a.y c.n)

east_in : (a : Metres) (ms : List ProjectedControl) → Near a → Filled ms → Within 42 (add binary64 a.x (mean_of (east a) ms))
east_in a ms N S =
    let i = within_spans 40 a.x N.x in
    spans_within 42 (add binary64 a.x (mean_of (east a) ms))
    (looser 0 (2 ^ 42) (2 ^ 42) 0 (lit≤ tt) (lit≤ tt) (add_spans (lit≤ tt) i (mean_in 0 (2 ^ 25 + 2 ^ 40) (2 ^ 25 + 2 ^ 40) 0 (east a) ms S (lit≤ tt) (λ m h. sub_spans (lit≤ tt) h.e i))))

-- with A the anchor's ordinate cut to a whole number, no ordinate is more than 20330312 - A above the anchor; so the mean is not, and A + 1 more is 20330313. Likewise from below
north_in : (a : Metres) (ms : List ProjectedControl) → Near a → Filled ms → Sized 20330313 (add binary64 a.y (mean_of (north a) ms))
north_in a ms N S =
    let F = floor 40 a.y N.y in
    at F.plus F.minus F.most F.spans
  where
    at : (p q : ℕ) → p + q ≤ suc (2 ^ 40) → Spans p q (suc p) q a.y → Sized 20330313 (add binary64 a.y (mean_of (north a) ms))
    at p q h i =
        looser 0 20330313 20330313 0 (omega arith) (omega arith)
        (add_spans (omega arith) i (mean_in (0 + q) (20330312 + suc p) (20330312 + q) (0 + p) (north a) ms S (omega arith) (λ m k. sub_spans (omega arith) k.n i)))

centred : (a : Metres) (ms : List ProjectedControl) → Near a → Filled ms → Centred a (means_of a ms)
centred a ms N S = rw (means_are a ms) (record {
  x = mean_in 0 1000000 1000000 0 (λ (m : ProjectedControl). m.x) ms S (lit≤ tt) (λ m h. h.x);
  y = mean_in 0 1000000 1000000 0 (λ (m : ProjectedControl). m.y) ms S (lit≤ tt) (λ m h. h.y);
  e = east_in a ms N S;
  n = north_in a ms N S;
})

-- ---- one round
pub record Fitted (f : Fit) : Type 0 where
  pub lon : Between m180 K.c180 f.lon
  pub lat : Between m89·5 c89·5 f.lat
  pub x : Between m_million million f.x
  pub y : Between m_million million f.y
  pub scale : T (finite f.scale)
  pub above : T (lt K.zero f.scale)
  pub bearing : Between m180 K.c180 f.bearing
  pub of_format : T (fits binary64 f.bearing)

abbrev wide : Float
wide = fin false 20330313 (pos 0)

whole_wide : Whole wide 20330313
whole_wide = record { is_finite = tt; up_is = refl; no_minus = refl }

ordinate_test : T (encloses (over (var 0) (lit radius)) (iv (neg wide) wide ∷ []) m3·25 c3·25)
unfolding of_bits neg div le
ordinate_test = tt

latitude_in : (y : Float) → Sized 20330313 y → Between m89·5 c89·5 (latitude_of (div binary64 y radius))
latitude_in y s = anchor_in (div binary64 y radius) (enclosed (over (var 0) (lit radius)) (iv (neg wide) wide ∷ []) (y ∷ []) m3·25 c3·25 ordinate_test (spans_ends 20330313 wide y whole_wide s, tt))

fit_at_lem : (a : Metres) (c : ProjectedControl) (A B : Float) → Centred a c → IfSome (fit_at a c A B) Fitted
unfolding fit_at
fit_at_lem a c A B C = go (finite (hypot_of A B) && lt K.zero (hypot_of A B)) (λ t. t)
  where
    o : Metres
    o = record { x = add binary64 a.x c.e; y = add binary64 a.y c.n }

    anchor : LonLat
    anchor = mercator_inverse_of o

    found : Fit
    found = record { lon = anchor.lon; lat = anchor.lat; x = c.x; y = c.y; scale = hypot_of A B; bearing = to_degrees_of (atan2_of (neg B) A) }

    go : (b : Bool) → (T b → T (finite (hypot_of A B) && lt K.zero (hypot_of A B))) → IfSome (if b then Some found else None) Fitted
    go true t =
        let f = and_l (finite (hypot_of A B)) (lt K.zero (hypot_of A B)) (t tt) in
        let p = hypot_parts A B f in
        record {
          lon = (inverse_in o (wider 42 1000 o.x (lit≤ tt) C.e) C.n.is_finite).0;
          lat = unfold mercator_inverse_of in latitude_in o.y C.n;
          x = spans_ends 1000000 million c.x whole-million C.x;
          y = spans_ends 1000000 million c.y whole-million C.y;
          scale = f;
          above = and_r (finite (hypot_of A B)) (lt K.zero (hypot_of A B)) (t tt);
          bearing = bearing_in (neg B) A (finite_neg B p.1) p.0;
          of_format = unfold to_degrees_of in mul-fits binary64 (atan2_of (neg B) A) (div binary64 K.c180 K.pi);
        }
    go false t = tt

round_in : (a : Metres) (ms : List ProjectedControl) → Near a → Filled ms → IfSome (round_of a ms) Fitted
unfolding round_of solved_of
round_in a ms N S =
    let c = means_of a ms in
    let s = moments_of a c ms no_moments in
    go (le s.den K.zero || not (finite s.den)) (fit_at a c (div binary64 s.a s.den) (div binary64 s.b s.den)) (fit_at_lem a c (div binary64 s.a s.den) (div binary64 s.b s.den) (centred a ms N S))
  where
    go : (b : Bool) (f : Option Fit) → IfSome f Fitted → IfSome (if b then None else f) Fitted
    go true f k = tt
    go false f k = k

-- ---- both rounds
again_in : (f : Option Fit) (ms : List ProjectedControl) → Filled ms → IfSome f Fitted → IfSome (again f ms) Fitted
unfolding again
again_in None ms S F = tt
again_in (Some f) ms S F =
    let p : LonLat = record { lon = f.lon; lat = f.lat } in
    round_in (mercator_forward_of p) ms (record { x = wider 25 40 (mercator_forward_of p).x (lit≤ tt) (forward_east p F.lon); y = forward_anchor p F.lat }) S

projected_in_lem : (ms : List ProjectedControl) → length ms ≤ 64 → Each ProjectedIn ms → IfSome (fit_projected ms) Fitted
unfolding fit_projected
projected_in_lem [] l h = tt
projected_in_lem (m ∷ ms) l h =
    let S : Filled (m ∷ ms) = record { least = zero-lt-suc (length ms); most = l; each = h } in
    let a : Metres = record { x = m.e; y = m.n } in
    let N : Near a = record {
      x = spans_within 40 m.e (looser 0 (2 ^ 40) (2 ^ 40) 0 (lit≤ tt) (lit≤ tt) h.0.e);
      y = spans_within 40 m.n (looser 0 (2 ^ 40) (2 ^ 40) 0 (lit≤ tt) (lit≤ tt) h.0.n);
    } in
    again_in (round_of a (m ∷ ms)) (m ∷ ms) S (round_in a (m ∷ ms) N S)

pub fit_in : (cs : List Control) → length cs ≤ 64 → Each ControlWithin cs → IfSome (fit_of cs) Fitted
unfolding fit_of
fit_in cs l h = projected_in_lem (map projected_of cs) (subst (λ (n : ℕ). n ≤ 64) (sym (length-map cs projected_of)) l) (each_map projected_of ControlWithin ProjectedIn projected cs h)
