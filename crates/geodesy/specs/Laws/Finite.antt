-- Where the projection's results lie. Assumes nothing.
use Rattle.std.specs.Prelude.{ℕ, ◌<◌, ◌≤◌, Bool, true, false, T, [], ◌∷◌, pos, Float}
use Rattle.std.proofs.Common.{lit<, lit≤}
use Rattle.std.specs.Float.{fin, binary64}
use Rattle.std.specs.Float.Ieee.{neg, add, sub, mul, div, eq, le, of_bits}
use Rattle.std.specs.Float.Ieee.Scale.{finite}
use Rattle.float.specs.Functions.{pick, rem_euclid360_of}
use Rattle.float.specs.Laws.Order.{le_trans, div_rounds}
use Rattle.float.specs.Laws.Magnitude.{Within, Apart, within, wider, add_within, mul_within, div_within}
use Rattle.float.specs.Laws.Intervals.{iv, Between}
use Rattle.float.specs.Laws.Expressions.{Expr, var, lit, less, times, over}
use Rattle.float.specs.Laws.Numbers.{c360, euclid_in, rounds_number}
use Rattle.float.specs.Laws.Spans.{plus2^, minus2^, between_within}
use Rattle.elementary.specs.Constants as K
use Rattle.elementary.specs.Functions.{to_radians_of, to_degrees_of, exp_of, atan_of, tan_of, ln_of}
use Rattle.elementary.specs.Laws.Codes.{encloses, enclosed}
use Rattle.elementary.specs.Laws.Exponential.{exp_least, exp_in}
use Rattle.elementary.specs.Laws.Arctangent.{atan_in}
use Rattle.elementary.specs.Laws.Logarithm.{ln_least, ln_most}
use Rattle.elementary.specs.Laws.Mercator.{tan_argument_of, latitude_of, c89·5, m89·5, latitude_in, ln_tan_in}
use Rattle.elementary.specs.Laws.Ordinate.{c85·06, m85·06, c3·1875, m3·1875, ordinate_in}
use Rattle.geodesy.specs.declared.LonLat.{LonLat}
use Rattle.geodesy.specs.declared.Metres.{Metres}
use Rattle.geodesy.specs.Geodesy.{radius, normalize_lon_of, mercator_forward_of, mercator_inverse_of}

abbrev pub m180 : Float
m180 = neg K.c180

abbrev pub c90 : Float
c90 = of_bits binary64 0x4056800000000000

abbrev pub m90 : Float
m90 = neg c90

-- ---- a longitude brought into [-180, 180]
abbrev turned : Expr
turned = less (var 0) (lit K.c180)

turned_test : T (encloses turned (iv K.zero c360 ∷ []) m180 K.c180)
unfolding of_bits neg sub le
turned_test = tt

ends : Between m180 K.c180 K.c180
unfolding of_bits neg le
ends = record { low = tt; high = tt; fl = tt; fh = tt }

pub normalize_in : (x : Float) → T (finite (add binary64 x K.c180)) → Between m180 K.c180 (normalize_lon_of x)
unfolding normalize_lon_of
normalize_in x p =
    let r = rem_euclid360_of (add binary64 x K.c180) in
    go (eq (sub binary64 r K.c180) m180) (sub binary64 r K.c180) (enclosed turned (iv K.zero c360 ∷ []) (r ∷ []) m180 K.c180 turned_test (euclid_in (add binary64 x K.c180) p, tt))
  where
    go : (b : Bool) (l : Float) → Between m180 K.c180 l → Between m180 K.c180 (pick b K.c180 l)
    go true l i = ends
    go false l i = i

within_180 : Within 8 K.c180
unfolding of_bits
within_180 = within 8 K.c180 tt

pub normalize_within : (k : ℕ) (x : Float) → 8 ≤ k → k < 1023 → Within k x → Between m180 K.c180 (normalize_lon_of x)
normalize_within k x h l w = normalize_in x (add_within k x K.c180 l w (wider 8 k K.c180 h within_180)).is_finite

-- ---- inverse
radius_apart : Apart 0 radius
unfolding of_bits
radius_apart = record { is_finite = tt; size = lit≤ tt }

degree_within : Within 6 (div binary64 K.c180 K.pi)
unfolding of_bits div
degree_within = within 6 (div binary64 K.c180 K.pi) tt

degrees_in : (x : Float) → Within 1000 x → Within 1006 (to_degrees_of (div binary64 x radius))
unfolding to_degrees_of
degrees_in x w = mul_within 1000 6 (div binary64 x radius) (div binary64 K.c180 K.pi) (lit< tt) (div_within 0 1000 x radius (lit< tt) w radius_apart) degree_within

abbrev latitude : Expr
latitude = times (less (times (lit K.two) (var 0)) (lit K.frac_pi2)) (over (lit K.c180) (lit K.pi))

latitude_test : T (encloses latitude (iv K.zero K.frac_pi2 ∷ []) m90 c90)
unfolding of_bits neg sub mul div le
latitude_test = tt

exp_low : T (le K.zero exp_least)
unfolding of_bits le
exp_low = tt

north_in : (y : Float) → T (finite y) → Between m90 c90 (latitude_of (div binary64 y radius))
unfolding to_degrees_of of_bits
north_in y f =
    let w = div binary64 y radius in
    let n = rounds_number binary64 w _ _ _ (div_rounds binary64 y radius f tt (lit< tt)) in
    enclosed latitude (iv K.zero K.frac_pi2 ∷ []) (atan_of (exp_of w) ∷ []) m90 c90 latitude_test (atan_in (exp_of w) (le_trans K.zero exp_least (exp_of w) exp_low (exp_in w n).low), tt)

-- on the Earth, in degrees
abbrev pub OnEarth : LonLat → Type 0
OnEarth p = Between m180 K.c180 p.lon × Between m90 c90 p.lat

pub inverse_in : (m : Metres) → Within 1000 m.x → T (finite m.y) → OnEarth (mercator_inverse_of m)
unfolding mercator_inverse_of
inverse_in m w f = (normalize_within 1006 (to_degrees_of (div binary64 m.x radius)) (lit≤ tt) (lit< tt) (degrees_in m.x w), north_in m.y f)

-- ---- forward
abbrev east : Expr
east = times (lit radius) (times (var 0) (over (lit K.pi) (lit K.c180)))

east_test : T (encloses east (iv m180 K.c180 ∷ []) (minus2^ 25) (plus2^ 25))
unfolding of_bits neg mul div le
east_test = tt

pub forward_east : (p : LonLat) → Between m180 K.c180 p.lon → Within 25 (mercator_forward_of p).x
unfolding mercator_forward_of to_radians_of
forward_east p i = between_within 25 (mercator_forward_of p).x (enclosed east (iv m180 K.c180 ∷ []) (p.lon ∷ []) (minus2^ 25) (plus2^ 25) east_test (i, tt))

-- the ordinate of latitude 85.06 is below 20330312
abbrev pub edge : Float
edge = fin false 2541289 (pos 3)

abbrev pub low-edge : Float
low-edge = neg edge

abbrev north : Expr
north = times (lit radius) (var 0)

north_test : T (encloses north (iv m3·1875 c3·1875 ∷ []) low-edge edge)
unfolding of_bits neg mul le
north_test = tt

pub forward_north : (p : LonLat) → Between m85·06 c85·06 p.lat → Between low-edge edge (mercator_forward_of p).y
unfolding mercator_forward_of
forward_north p i = enclosed north (iv m3·1875 c3·1875 ∷ []) (ln_of (tan_of (tan_argument_of p.lat)) ∷ []) low-edge edge north_test (ordinate_in p.lat i, tt)

anchor_test : T (encloses north (iv ln_least ln_most ∷ []) (minus2^ 40) (plus2^ 40))
unfolding of_bits mul le
anchor_test = tt

pub forward_anchor : (p : LonLat) → Between m89·5 c89·5 p.lat → Within 40 (mercator_forward_of p).y
unfolding mercator_forward_of
forward_anchor p i =
    between_within 40 (mercator_forward_of p).y
    (enclosed north (iv ln_least ln_most ∷ []) (ln_of (tan_of (tan_argument_of p.lat)) ∷ []) (minus2^ 40) (plus2^ 40) anchor_test (ln_tan_in (tan_argument_of p.lat) (latitude_in p.lat i), tt))
