-- Points one after another: how many they are, and how a coordinate of those from the i-th on is added up.
use Rattle.std.specs.Prelude.{◌≡◌, List, length, Float}
use Rattle.std.proofs.Math.Path.{refl}
use Rattle.std.proofs.Common.{ap}
use Prim.Native.Nat.{ℕ, zero, suc, ◌+◌, ◌-◌, ◌*◌, ◌≤◌, ◌<◌}
use native.Mathlib.Omega.{arith}
use Rattle.std.specs.Float.{binary64}
use Rattle.std.specs.Float.Ieee.{add}
use Rattle.scene.specs.Scene.{point_at, points_at}
use Rattle.values.specs.declared.Point.{Point}
use Rattle.scene.specs.Labels.{sum_of}

pub points-length : (l : List ℕ) (p n : ℕ) → length (points_at l p n) ≡ n
unfolding points_at
points-length l p zero = refl
points-length l p (suc n) = ap suc (points-length l (p + 16) n)

module _ (f : Point → Float) (a : Float) (l : List ℕ) (p n i : ℕ) where
  pub sum_step : i < n → sum_of f a (points_at l (p + 16 * i) (n - i)) ≡ sum_of f (add binary64 a (f (point_at l (p + 16 * i)))) (points_at l (p + 16 * (i + 1)) (n - (i + 1)))
  unfolding sum_of points_at
  sum_step h =
      let e : n - i ≡ suc (n - (i + 1)) = omega arith in
      let g : p + 16 * (i + 1) ≡ p + 16 * i + 16 = omega arith in
      rw (e, g) refl

  pub sum_ends : n ≤ i → sum_of f a (points_at l (p + 16 * i) (n - i)) ≡ a
  unfolding sum_of points_at
  sum_ends h =
      let e : n - i ≡ 0 = omega arith in
      rw e refl
