-- The root of x lies on the side of `root_of x` of each middle: first in numbers of units, then in fractions. Assumes
-- nothing.
use Rattle.std.specs.Prelude.{◌≡◌, refl, ◌⊎◌, Bool, true, false, not, ℕ, zero, suc, ◌+◌, ◌-◌, ◌*◌, ◌/◌, ◌%◌, ◌^◌, ◌≤◌, ◌<◌, T, leb, ltb, Float}
use Rattle.std.proofs.Common.{sym, ap, ◌∙◌, subst, inl, inr, true≢false, le_of_eq, lt_of_lt_of_le, lt_of_le_of_lt, mul_assoc, mul-pos, mul-le-mul, mul-le-mul_right, mul-lt-mul_of_pos_right, lt_of_mul-lt-mul_right, eq-or-lt_of_le, arith, leb→le, ltb→lt, lt→ltb, pow_pos, pow_mono}
use Rattle.std.proofs.Math.Dec.{nleb→lt}
use Rattle.std.specs.Float.{nan, inf, fin}
use Rattle.std.specs.Float.Ieee.{lt}
use Rattle.std.specs.Float.Ieee.Exact.{HasValue}
use Rattle.std.specs.Float.Ieee.Positive.{num, den, den_pos, value→cross}
use Rattle.root.specs.Laws.Whole.{IsRoot, sq_lt, odd_square, pow_sum}
use Rattle.root.specs.Laws.Nearest.{plain, MiddleBelow, MiddleAbove, Nearer}
use Rattle.root.specs.Laws.Shape.{InUnits, Shaped}

-- ---- in units: the root of a * w * w is P * w or little more or less, with P = (p + 1) / 2
module _ (a p w : ℕ) (A : IsRoot a p) (even : a % 2 ≡ 0) (W : 0 < w) where
  -- y is k * w
  below_at : (k : ℕ) → k < (p + 1) / 2 → ((p + 1) / 2 + k) * ((p + 1) / 2 + k) < a
  below_at k h = go (p % 2) refl
    where
      strict : (p * p ≡ a → ⊥) → p * p ≤ a → p * p < a
      strict n l = omega arith

      go : (b : ℕ) → p % 2 ≡ b → ((p + 1) / 2 + k) * ((p + 1) / 2 + k) < a
      go zero e = lt_of_lt_of_le (sq_lt ((p + 1) / 2 + k) p (omega arith)) A.least
      go (suc b) e = let l : (p + 1) / 2 + k ≤ p = omega arith in lt_of_le_of_lt (mul-le-mul l l) (strict (odd_square p a (omega arith) even) A.least)

  above_at : (k : ℕ) → (p + 1) / 2 < k → a < ((p + 1) / 2 + k) * ((p + 1) / 2 + k)
  above_at k h = let l : p + 1 ≤ (p + 1) / 2 + k = omega arith in lt_of_lt_of_le A.most (mul-le-mul l l)

  units_below : (k : ℕ) → k * w < (p + 1) / 2 * w → ((p + 1) / 2 * w + k * w) * ((p + 1) / 2 * w + k * w) < a * (w * w)
  units_below k h = omega (arith, mul-lt-mul_of_pos_right (below_at k (lt_of_mul-lt-mul_right w h)) (mul-pos W W))

  units_above : (k : ℕ) → (p + 1) / 2 * w < k * w → a * (w * w) < ((p + 1) / 2 * w + k * w) * ((p + 1) / 2 * w + k * w)
  units_above k h = omega (arith, mul-lt-mul_of_pos_right (above_at k (lt_of_mul-lt-mul_right w h)) (mul-pos W W))

  -- y is below 2 ^ 52 * w, where values are closer to each other
  far_below : 2 ^ 53 ≤ p → (y : ℕ) → y < 2 ^ 52 * w → ((p + 1) / 2 * w + y) * ((p + 1) / 2 * w + y) < a * (w * w)
  far_below lo y h =
      let s : ((p + 1) / 2 + 2 ^ 52) * w ≤ p * w = mul-le-mul_right w (omega arith) in
      omega (arith, sq_lt ((p + 1) / 2 * w + y) (p * w) (omega arith), mul-le-mul_right (w * w) A.least)

-- a * w * w as `Shaped` gives it, with w = 2 ^ j, and y as `InUnits` does
module _ {n : ℕ} {y : Float} (S : Shaped n) (U : InUnits y) where
  abbrev w : ℕ
  w = 2 ^ S.j

  abbrev z : ℕ
  z = (S.p + 1) / 2 * w

  abbrev v : ℕ
  v = U.q * 2 ^ U.i

  -- a multiple of w, or below 2 ^ 52 * w
  either : ((k : ℕ) × (v ≡ k * w)) ⊎ (v < 2 ^ 52 * w)
  either = go (leb S.j U.i) (leb→le S.j U.i) (nleb→lt S.j U.i)
    where
      go : (b : Bool) → (T b → S.j ≤ U.i) → (T (not b) → U.i < S.j) → ((k : ℕ) × (v ≡ k * w)) ⊎ (v < 2 ^ 52 * w)
      go true f g =
          let l = f tt in
          inl (U.q * 2 ^ (U.i - S.j), ap (λ (x : ℕ). U.q * x) (sym (pow_sum (U.i - S.j) S.j U.i (omega arith))) ∙ sym (mul_assoc U.q (2 ^ (U.i - S.j)) w))
      go false f g =
          let l : 2 ^ (U.i + 1) ≤ w = pow_mono (omega (arith, g tt)) in
          inr (omega (arith, mul-lt-mul_of_pos_right U.short (pow_pos U.i), pow_sum U.i 1 (U.i + 1) refl))

  pub numbers_below : v < z → (z + v) * (z + v) < n
  numbers_below h = lt_of_lt_of_le (go either) (le_of_eq (sym S.is))
    where
      go : ((k : ℕ) × (v ≡ k * w)) ⊎ (v < 2 ^ 52 * w) → (z + v) * (z + v) < S.a * (w * w)
      go (inl k) = rw k.1 (units_below S.a S.p w S.whole S.even (pow_pos S.j) k.0 (rw k.1 at h))
      go (inr l) = far_below S.a S.p w S.whole S.even (pow_pos S.j) S.lo v l

  pub numbers_above : z < v → n < (z + v) * (z + v)
  numbers_above h = lt_of_le_of_lt (le_of_eq S.is) (go either)
    where
      go : ((k : ℕ) × (v ≡ k * w)) ⊎ (v < 2 ^ 52 * w) → S.a * (w * w) < (z + v) * (z + v)
      go (inl k) = rw k.1 (units_above S.a S.p w S.whole S.even (pow_pos S.j) k.0 (rw k.1 at h))
      go (inr l) = absurd (let m : 2 ^ 52 * w ≤ z = mul-le-mul_right w (omega (arith, S.lo)) in omega arith)

-- ---- from units to fractions: x, y and z are u, v and t of the units 1 / L
module _ (nx dx ny dy nz dz u v t L : ℕ) (X : nx * L ≡ u * dx) (Y : ny * L ≡ v * dy) (Z : nz * L ≡ t * dz) (l : 0 < L) (DX : 0 < dx) (DY : 0 < dy) (DZ : 0 < dz) where
  sum_is : (ny * dz + nz * dy) * L ≡ (t + v) * (dy * dz)
  sum_is = omega (arith, ap (λ (k : ℕ). k * dz) Y, ap (λ (k : ℕ). k * dy) Z)

  square_is : (ny * dz + nz * dy) * (ny * dz + nz * dy) * dx * (L * L) ≡ (t + v) * (t + v) * (dy * dz * (dy * dz) * dx)
  square_is = go (ny * dz + nz * dy) (t + v) (dy * dz) sum_is
    where
      go : (s k d : ℕ) → s * L ≡ k * d → s * s * dx * (L * L) ≡ k * k * (d * d * dx)
      go s k d e = omega (arith, ap (λ (h : ℕ). h * h * dx) e)

  x-is : 4 * nx * (dy * dz * (dy * dz)) * (L * L) ≡ u * (4 * L) * (dy * dz * (dy * dz) * dx)
  x-is = go (dy * dz * (dy * dz))
    where
      go : (d : ℕ) → 4 * nx * d * (L * L) ≡ u * (4 * L) * (d * dx)
      go d = omega (arith, ap (λ (h : ℕ). h * (4 * L * d)) X)

  weight : 0 < dy * dz * (dy * dz) * dx
  weight = mul-pos (mul-pos (mul-pos DY DZ) (mul-pos DY DZ)) DX

  squares_below : (t + v) * (t + v) < u * (4 * L) → (ny * dz + nz * dy) * (ny * dz + nz * dy) * dx < 4 * nx * (dy * dz * (dy * dz))
  squares_below h = lt_of_mul-lt-mul_right (L * L) (rw (square_is, x-is) (mul-lt-mul_of_pos_right h weight))

  squares_above : u * (4 * L) < (t + v) * (t + v) → 4 * nx * (dy * dz * (dy * dz)) < (ny * dz + nz * dy) * (ny * dz + nz * dy) * dx
  squares_above h = lt_of_mul-lt-mul_right (L * L) (rw (square_is, x-is) (mul-lt-mul_of_pos_right h weight))

-- the order of y and z
module _ (ny dy nz dz v t L : ℕ) (Y : ny * L ≡ v * dy) (Z : nz * L ≡ t * dz) (l : 0 < L) (DY : 0 < dy) (DZ : 0 < dz) where
  units_lt : ny * dz < nz * dy → v < t
  units_lt h = lt_of_mul-lt-mul_right (dy * dz) (omega (arith, mul-lt-mul_of_pos_right h l, ap (λ (k : ℕ). k * dz) Y, ap (λ (k : ℕ). k * dy) Z))

  lt_units : v < t → ny * dz < nz * dy
  lt_units h = lt_of_mul-lt-mul_right L (omega (arith, mul-lt-mul_of_pos_right h (mul-pos DY DZ), ap (λ (k : ℕ). k * dz) Y, ap (λ (k : ℕ). k * dy) Z))

-- ---- IEEE's order of two `plain` values is that of their fractions
lt_is : (y z : Float) → T (plain y) → T (plain z) → lt y z ≡ ltb (num y * den z) (num z * den y)
unfolding lt
lt_is nan z p q = absurd p
lt_is (inf s) z p q = absurd p
lt_is (fin true m e) z p q = absurd p
lt_is (fin false m e) nan p q = absurd q
lt_is (fin false m e) (inf s) p q = absurd q
lt_is (fin false m e) (fin true n d) p q = absurd q
lt_is (fin false m e) (fin false n d) p q = refl

pub lt→cross : (y z : Float) → T (plain y) → T (plain z) → T (lt y z) → num y * den z < num z * den y
lt→cross y z p q t = ltb→lt (num y * den z) (num z * den y) (subst T (lt_is y z p q) t)

pub plain_of_value : (v : Float) (n c : ℕ) → HasValue v false n c → T (plain v)
plain_of_value nan n c h = absurd h
plain_of_value (inf s) n c h = absurd h
plain_of_value (fin true m e) n c h = absurd (true≢false h.0)
plain_of_value (fin false m e) n c h = tt

module _ (x y z : Float) (u v t : ℕ) (X : HasValue x false u (2 ^ 1074)) (Y : HasValue y false v (2 ^ 1074)) (Z : HasValue z false t (2 ^ 1074)) where
  pub nearer : (v < t → (t + v) * (t + v) < u * 2 ^ 1076) → (t < v → u * 2 ^ 1076 < (t + v) * (t + v)) → Nearer x y z
  nearer h k =
      let ex = value→cross x u (2 ^ 1074) X in
      let ey = value→cross y v (2 ^ 1074) Y in
      let ez = value→cross z t (2 ^ 1074) Z in
      let p = plain_of_value y v (2 ^ 1074) Y in
      let q = plain_of_value z t (2 ^ 1074) Z in (
        λ o. squares_below (num x) (den x) (num y) (den y) (num z) (den z) u v t (2 ^ 1074) ex ey ez (pow_pos 1074) (den_pos x) (den_pos y) (den_pos z)
            (h (units_lt (num y) (den y) (num z) (den z) v t (2 ^ 1074) ey ez (pow_pos 1074) (den_pos y) (den_pos z) (lt→cross y z p q o))),
        λ o. squares_above (num x) (den x) (num y) (den y) (num z) (den z) u v t (2 ^ 1074) ex ey ez (pow_pos 1074) (den_pos x) (den_pos y) (den_pos z)
            (k (units_lt (num z) (den z) (num y) (den y) t v (2 ^ 1074) ez ey (pow_pos 1074) (den_pos z) (den_pos y) (lt→cross z y q p o))),
      )

pub three : (u v : ℕ) → (u ≡ v) ⊎ ((u < v) ⊎ (v < u))
three u v = go (leb u v) (leb→le u v) (nleb→lt u v)
  where
    go : (b : Bool) → (T b → u ≤ v) → (T (not b) → v < u) → (u ≡ v) ⊎ ((u < v) ⊎ (v < u))
    go true a c = elim (eq-or-lt_of_le (a tt)) [ inl e ↦ inl e | inr l ↦ inr (inl l) ]
    go false a c = inr (inr (c tt))

module _ (y z : Float) (p : T (plain y)) (q : T (plain z)) (v t : ℕ) (Y : HasValue y false v (2 ^ 1074)) (Z : HasValue z false t (2 ^ 1074)) where
  pub units→lt : v < t → T (lt y z)
  units→lt h =
      subst T (sym (lt_is y z p q))
      (lt→ltb (num y * den z) (num z * den y) (lt_units (num y) (den y) (num z) (den z) v t (2 ^ 1074) (value→cross y v (2 ^ 1074) Y) (value→cross z t (2 ^ 1074) Z) (pow_pos 1074) (den_pos y) (den_pos z) h))

-- the middle of y and z is not both below and above
pub one_side : (x y z : Float) → MiddleBelow y z x → MiddleAbove z y x → ⊥
one_side x y z = go (num x) (den x) (num y) (den y) (num z) (den z)
  where
    go : (nx dx ny dy nz dz : ℕ) → (ny * dz + nz * dy) * (ny * dz + nz * dy) * dx < 4 * nx * (dy * dz * (dy * dz)) → 4 * nx * (dz * dy * (dz * dy)) < (nz * dy + ny * dz) * (nz * dy + ny * dz) * dx → ⊥
    go nx dx ny dy nz dz h k = omega arith
