-- The point that stands for an item without points, by the answer for its paths.
use Rattle.std.specs.Prelude.{Some}
use mathlib.Core.Path.{◌≡◌, refl}
use mathlib.Core.Bool.{true, false, not}
use mathlib.Core.List.{List}
use Prim.Native.Nat.{ℕ, suc, ◌-◌}
use native.Mathlib.Omega.{arith}
use borrow.Author.Tests.{not-true, not-false}
use Rattle.scene.specs.declared.readers.Path.{Path}
use Rattle.scene.specs.Scene.{point_at, points_at}
use Rattle.scene.specs.Labels.{start_of, first_start}
use Rattle.scene.specs.Inner.Answers.{paths_from, paths_by}

-- ---- the first path's start
module _ (l : List ℕ) (p : ℕ) (c : Path) (e : paths_from l p 0 ≡ paths_by l 0 (Some c)) where
  pub curve_starts : not c.curve ≡ false → Some (point_at l c.start) ≡ first_start (paths_from l p 0)
  unfolding first_start start_of
  curve_starts k = rw (e, not-false c.curve k) refl

  pub polyline_starts : not c.curve ≡ true → (c.count ≡ 0 → ⊥) → (c.curve ≡ false → c.start ≡ c.at) → Some (point_at l c.start) ≡ first_start (paths_from l p 0)
  unfolding first_start start_of points_at
  polyline_starts k z f =
      let j : c.count ≡ suc (c.count - 1) = omega arith in
      rw (f (not-true c.curve k), e, not-true c.curve k, j) refl
