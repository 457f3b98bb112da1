-- The arc tangent of a number from 0 on, an infinity too, lies from 0 to FRAC_PI_2, and for one from 1/64 to 64 it
-- stays 1/128 away from both. Assumes nothing.
use Rattle.std.specs.Prelude.{◌≡◌, ℕ, ◌+◌, ◌*◌, Bool, true, false, not, T, [], ◌∷◌, negsuc, refl}
use Rattle.std.proofs.Common.{subst, arith, lit<}
use Rattle.std.proofs.Math.Arith.{le→nltb}
use Rattle.std.proofs.Math.Pow.{pow_pos}
use Rattle.std.specs.Float.Ieee.{Float, binary64, up, down, below, round, is_nan, neg, add, sub, mul, div, lt, le, of_bits}
use Rattle.std.specs.Float.{nan, inf, fin}
use Rattle.std.specs.Float.Ieee.Scale.{finite}
use Rattle.float.specs.Functions.{pick}
use Rattle.float.specs.Laws.Signed.{SLe, leq→}
use Rattle.float.specs.Laws.Operations.{Rounds, rounds_le}
use Rattle.float.specs.Laws.Order.{le_trans, pos_of, div_rounds, div_anti}
use Rattle.float.specs.Laws.Intervals.{Iv, iv, Between, in_finite}
use Rattle.float.specs.Laws.Expressions.{Expr, var, lit, plus, less, times, over, bind}
use Rattle.float.specs.Laws.Comparisons.{lt→le, neither}
use Rattle.root.specs.Root.{root_of}
use Rattle.root.specs.Laws.Root.{minus_one, root_two}
use Rattle.root.proofs.Laws.Root.{unit_root}
use Rattle.elementary.specs.Constants as K
use Rattle.elementary.specs.Series.{odd_of, arctangent_table}
use Rattle.elementary.specs.Functions.{clamp_of, half_angle_of, atan_small, atan_nonneg, atan_of}
use Rattle.elementary.specs.Laws.Codes.{encloses, enclosed, odd_code, odd_is}
use Rattle.elementary.specs.Laws.Clamp.{clamp_keeps}
use Rattle.elementary.specs.Laws.Powers.{power}
use Rattle.elementary.specs.Laws.Exponential.{c1/64, c64}

-- ---- what the order says of `<`
turn : (s : Bool) (a : ℕ) (t : Bool) (b : ℕ) → SLe s a t b → T (not (below t b s a))
turn false a false b h = le→nltb b a (omega arith)
turn false a true b h = le→nltb 0 (b + a) (omega arith)
turn true a false b h = tt
turn true a true b h = le→nltb a b (omega arith)

pub le→not-lt : (x y : Float) → T (finite x) → T (le x y) → T (not (lt y x))
unfolding le
le→not-lt nan y p h = absurd p
le→not-lt (inf s) y p h = absurd p
le→not-lt (fin s m e) nan p h = absurd h
le→not-lt (fin s m e) (inf true) p h = absurd h
le→not-lt (fin s m e) (inf false) p h = tt
le→not-lt (fin s m e) (fin t n d) p h = turn s (m * up e * down d) t (n * up d * down e) (leq→ s (m * up e * down d) t (n * up d * down e) h)

number : (v : Float) → T (le K.zero v) → T (not (is_nan v))
unfolding le is_nan of_bits
number nan h = absurd h
number (inf s) h = tt
number (fin s m e) h = tt

-- ---- two halvings and the series, from 0 to 1
negative : T (le minus_one K.zero)
unfolding of_bits le
negative = tt

root_in : (v : Float) → Between K.zero K.one v → Between K.one root_two (root_of (add binary64 K.one (mul binary64 v v)))
unfolding of_bits
root_in v i = let r = unit_root v (le_trans minus_one K.zero v negative i.low) i.high in record { low = r.0; high = r.1; fl = tt; fh = tt }

abbrev roots : Iv
roots = iv K.one root_two

abbrev halved_code : Expr → Expr → Expr
halved_code v r = over v (plus (lit K.one) r)

abbrev pub halved_encloses : Float → Float → Bool
halved_encloses a b = encloses (halved_code (var 0) (var 1)) (iv a K.one ∷ roots ∷ []) b K.one

-- from a to 1, with a not below 0
pub halved_from : (a b v : Float) → T (le K.zero a) → T (halved_encloses a b) → Between a K.one v → Between b K.one (half_angle_of v)
unfolding half_angle_of
halved_from a b v z t i =
    enclosed (halved_code (var 0) (var 1)) (iv a K.one ∷ roots ∷ []) (v ∷ root_of (add binary64 K.one (mul binary64 v v)) ∷ []) b K.one t
    (i, (root_in v (record { low = le_trans K.zero a v z i.low; high = i.high; fl = unfold of_bits in tt; fh = i.fh }), tt))

halved_test : T (le K.zero K.zero) × T (halved_encloses K.zero K.zero)
unfolding of_bits add div le
halved_test = (tt, tt)

halved_in : (v : Float) → Between K.zero K.one v → Between K.zero K.one (half_angle_of v)
halved_in v i = halved_from K.zero K.zero v halved_test.0 halved_test.1 i

-- over v, the root for v and the root for its half
abbrev at_code : Expr
at_code = times (lit K.four) (bind (halved_code (halved_code (var 0) (var 1)) (var 2)) (odd_code arctangent_table))

unit_end : T (le K.one K.frac_pi2)
unfolding of_bits le
unit_end = tt

abbrev rest_code : Expr
rest_code = less (lit K.frac_pi2) (var 0)

-- ---- the law, for an argument that lies from a to 1, or whose inverse does: its arc tangent lies from lo to hi
record Ends (a lo hi : Float) : Type 0 where
  from : T (le K.zero a)
  least : T (le K.zero lo)
  most : T (le K.one hi)
  within : T (le hi K.frac_pi2)
  is_finite : T (finite hi)
  unit : T (encloses at_code (iv a K.one ∷ roots ∷ roots ∷ []) lo K.one)
  rest : T (encloses rest_code (iv lo K.one ∷ []) lo hi)

module _ (a lo hi : Float) (t : Ends a lo hi) where
  at_in : (v : Float) → Between a K.one v → Between lo K.one (atan_small v)
  unfolding atan_small half_angle_of
  at_in v i =
      let j : Between K.zero K.one v = record { low = le_trans K.zero a v t.from i.low; high = i.high; fl = unfold of_bits in tt; fh = i.fh } in
      let h = half_angle_of v in
      let w = half_angle_of h in
      let r = root_of (add binary64 K.one (mul binary64 v v)) in
      let q = root_of (add binary64 K.one (mul binary64 h h)) in
      clamp_keeps K.zero K.frac_pi2 lo K.one (mul binary64 K.four (odd_of arctangent_table w)) t.least unit_end
      (subst (λ (z : Float). Between lo K.one (mul binary64 K.four z)) (odd_is arctangent_table w (v ∷ r ∷ q ∷ []))
      (enclosed at_code (iv a K.one ∷ roots ∷ roots ∷ []) (v ∷ r ∷ q ∷ []) lo K.one t.unit (i, (root_in v j, (root_in h (halved_in v j), tt)))))

  up_in : (v : Float) → (T (not (lt K.one v)) → Between a K.one v) → (T (lt K.one v) → Between a K.one (div binary64 K.one v)) → Between lo hi (atan_nonneg v)
  unfolding atan_nonneg
  up_in v f g = go (lt K.one v) f g
    where
      turned : Float
      turned = clamp_of K.zero K.frac_pi2 (sub binary64 K.frac_pi2 (atan_small (div binary64 K.one v)))

      go : (b : Bool) → (T (not b) → Between a K.one v) → (T b → Between a K.one (div binary64 K.one v)) → Between lo hi (pick b turned (atan_small v))
      go true f g =
          let z = atan_small (div binary64 K.one v) in
          clamp_keeps K.zero K.frac_pi2 lo hi (sub binary64 K.frac_pi2 z) t.least t.within (enclosed rest_code (iv lo K.one ∷ []) (z ∷ []) lo hi t.rest (at_in (div binary64 K.one v) (g tt), tt))
      go false f g =
          let i = at_in v (f tt) in
          record { low = i.low; high = le_trans (atan_small v) K.one hi i.high t.most; fl = i.fl; fh = t.is_finite }

  of_in : (v : Float) → T (le K.zero v) → (T (not (lt K.one v)) → Between a K.one v) → (T (lt K.one v) → Between a K.one (div binary64 K.one v)) → Between lo hi (atan_of v)
  unfolding atan_of
  of_in v h f g = go (lt v K.zero) (le→not-lt K.zero v (unfold of_bits in tt) h)
    where
      go : (b : Bool) → T (not b) → Between lo hi (pick b (neg (atan_nonneg (neg v))) (atan_nonneg v))
      go true n = absurd n
      go false n = up_in v f g

-- at most 1, as `<` fails
pub unit-high : (v : Float) → T (le K.zero v) → T (not (lt K.one v)) → T (le v K.one)
unfolding of_bits
unit-high v h n = (neither K.zero K.one v tt tt (number v h) (le→not-lt K.zero v tt h) n).high

-- ---- every number from 0 on
all-ends : Ends K.zero K.zero K.frac_pi2
unfolding of_bits arctangent_table add sub mul div le
all-ends = record { from = tt; least = tt; most = tt; within = tt; is_finite = tt; unit = tt; rest = tt }

one_over_one : div binary64 K.one K.one ≡ K.one
unfolding of_bits div
one_over_one = refl

inverse_in : (v : Float) → T (le K.one v) → Between K.zero K.one (div binary64 K.one v)
unfolding of_bits
inverse_in nan h = absurd (unfold le in h)
inverse_in (inf true) h = absurd (unfold le in h)
inverse_in (inf false) h = unfold div le in record { low = tt; high = tt; fl = tt; fh = tt }
inverse_in (fin s m e) h =
    let v = fin s m e in
    let p = pos_of K.one v tt tt (lit< tt) h in
    record {
      low = rounds_le binary64 K.zero (div binary64 K.one v) 0 0 1 _ _ _ zero_rounds (div_rounds binary64 K.one v tt tt p) (omega arith);
      high = subst (λ (z : Float). T (le (div binary64 K.one v) z)) one_over_one (div_anti binary64 K.one K.one v tt tt tt (lit< tt) p refl h);
      fl = tt;
      fh = tt;
    }
  where
    zero_rounds : Rounds binary64 K.zero 0 0 1
    zero_rounds = unfold round in record { sign = false; size = 0; is = refl; val = refl; den = pow_pos 0 }

pub atan_in : (v : Float) → T (le K.zero v) → Between K.zero K.frac_pi2 (atan_of v)
atan_in v h =
    of_in K.zero K.zero K.frac_pi2 all-ends v h
    (λ n. record { low = h; high = unit-high v h n; fl = unfold of_bits in tt; fh = unfold of_bits in tt })
    (λ l. inverse_in v (lt→le K.one v l))

pub atan_finite : (v : Float) → T (le K.zero v) → T (finite (atan_of v))
atan_finite v h = in_finite K.zero K.frac_pi2 (atan_of v) (atan_in v h)

-- ---- from 1/64 to 64
abbrev pub atan_least : Float
atan_least = power true 7

-- FRAC_PI_2 - 1/128
abbrev pub atan_most : Float
atan_most = fin false 879881672492451 (negsuc 48)

mid_ends : Ends c1/64 atan_least atan_most
unfolding of_bits arctangent_table add sub mul div le
mid_ends = record { from = tt; least = tt; most = tt; within = tt; is_finite = tt; unit = tt; rest = tt }

mid_low : T (le K.zero c1/64)
unfolding of_bits le
mid_low = tt

mid_test : T (encloses (over (lit K.one) (var 0)) (iv K.one c64 ∷ []) c1/64 K.one)
unfolding of_bits div le
mid_test = tt

pub atan_mid : (v : Float) → Between c1/64 c64 v → Between atan_least atan_most (atan_of v)
atan_mid v i =
    let h = le_trans K.zero c1/64 v mid_low i.low in
    of_in c1/64 atan_least atan_most mid_ends v h
    (λ n. record { low = i.low; high = unit-high v h n; fl = tt; fh = unfold of_bits in tt })
    (λ l. enclosed (over (lit K.one) (var 0)) (iv K.one c64 ∷ []) (v ∷ []) c1/64 K.one mid_test (record { low = lt→le K.one v l; high = i.high; fl = unfold of_bits in tt; fh = tt }, tt))
