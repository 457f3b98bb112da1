-- What the questions that name a place answer where the payload does not go that far: nothing.
use Rattle.std.specs.Prelude.{ℕ, ◌+◌, ◌*◌, cond, List, length, leb, Option, None, Some}
use Rattle.records.specs.Records.{bytes_at}
use Rattle.scene.specs.Scene.{point_at, scene_of}
use Rattle.values.specs.declared.Point.{Point}
use Rattle.scene.specs.Labels.{point_of_label}

-- the i-th point of those from `at` on
unfoldable pub spot_in : List ℕ → ℕ → ℕ → Option Point
spot_in l at i = cond (leb (at + 16 * i + 16) (length l)) (Some (point_at l (at + 16 * i))) None

-- what the n bytes at `at` name
unfoldable pub label_in : List ℕ → ℕ → ℕ → Option Point
label_in l at n = cond (leb (at + n) (length l)) (point_of_label (bytes_at l at n) (scene_of l).places (scene_of l).items) None
