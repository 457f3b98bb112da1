-- Reading behind the first k bytes of a list.
use Rattle.std.specs.Prelude.{◌≡◌, List, drop}
use Rattle.std.proofs.Math.Path.{refl}
use Prim.Native.Nat.{ℕ, zero, suc, ◌+◌}
use Rattle.std.proofs.Common.{add_assoc}
use Rattle.std.proofs.Math.Seq.{drop-drop}
use Rattle.stream.specs.Laws.Numbers.{float-drop}
use Rattle.records.specs.Records.{bytes_at}
use Rattle.scene.specs.Scene.{float_value_at, point_at, points_at, cubic_at, cubics_at}

module _ (k : ℕ) (l : List ℕ) where
  pub part-drop : (i n : ℕ) → bytes_at (drop k l) i n ≡ bytes_at l (k + i) n
  unfolding bytes_at
  part-drop i n = rw drop-drop

  pub number_drop : (i : ℕ) → float_value_at (drop k l) i ≡ float_value_at l (k + i)
  unfolding float_value_at
  number_drop i = rw float-drop

  pub point-drop : (i : ℕ) → point_at (drop k l) i ≡ point_at l (k + i)
  unfolding point_at
  point-drop i = simp (number_drop, add_assoc)

  pub points-drop : (i n : ℕ) → points_at (drop k l) i n ≡ points_at l (k + i) n
  unfolding points_at
  points-drop i zero = refl
  points-drop i (suc n) = rw (points-drop (i + 16) n, point-drop, add_assoc)

  cubic_drop : (i : ℕ) → cubic_at (drop k l) i ≡ cubic_at l (k + i)
  unfolding cubic_at
  cubic_drop i = simp (point-drop, add_assoc)

  pub cubics-drop : (i n : ℕ) → cubics_at (drop k l) i n ≡ cubics_at l (k + i) n
  unfolding cubics_at
  cubics-drop i zero = refl
  cubics-drop i (suc n) = rw (cubics-drop (i + 48) n, cubic_drop, add_assoc)
