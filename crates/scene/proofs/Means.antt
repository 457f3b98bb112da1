-- The mean of points, whose coordinates are added up one point after another.
use mathlib.Core.Path.{◌≡◌, refl, sym, ◌∙◌}
use mathlib.Core.List.{List}
use Prim.Native.Nat.{ℕ, ◌+◌, ◌-◌, ◌*◌, ◌≤◌, ◌<◌}
use lib.IntN.{pos}
use lib.Ieee.{Float, binary64, of_bits, of_int, add, div}
use Rattle.scene.specs.Scene.{point_at, points_at}
use Rattle.values.specs.declared.Point.{Point}
use Rattle.scene.specs.Labels.{sum_of, mean_of, mean_point}
use Rattle.scene.specs.Laws.Points.{points-length, sum_step, sum_ends}

-- adding up from the i-th of n points on, with a, gives the sum of all
abbrev pub Sums : (Point → Float) → List ℕ → ℕ → ℕ → Float → ℕ → Type 0
Sums f l p n a i = sum_of f a (points_at l (p + 16 * i) (n - i)) ≡ sum_of f (of_bits binary64 0) (points_at l p n)

module _ (f : Point → Float) (l : List ℕ) (p n : ℕ) where
  module _ (a : Float) (i : ℕ) (e : Sums f l p n a i) where
    pub sums_more : {q : Point} → i < n → q ≡ point_at l (p + 16 * i) → Sums f l p n (add binary64 a (f q)) (i + 1)
    sums_more h g = rw g (sym (sum_step f a l p n i h) ∙ e)

    sums_all : n ≤ i → a ≡ sum_of f (of_bits binary64 0) (points_at l p n)
    sums_all h = sym (sum_ends f a l p n i h) ∙ e

module _ (l : List ℕ) (p n i : ℕ) (x y : Float) (ex : Sums (λ q. q.x) l p n x i) (ey : Sums (λ q. q.y) l p n y i) where
  pub mean-is : n ≤ i → ◌≡◌ {A = Point} (record { x = div binary64 x (of_int binary64 (pos n)); y = div binary64 y (of_int binary64 (pos n)) }) (mean_point (points_at l p n))
  unfolding mean_point mean_of
  mean-is h = rw (points-length, ← sums_all (λ q. q.x) l p n x i ex h, ← sums_all (λ q. q.y) l p n y i ey h) refl
