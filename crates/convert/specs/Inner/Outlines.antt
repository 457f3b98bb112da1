-- The fill paths that are left of an item.
use Rattle.std.specs.Prelude.{ℕ, List, [], Option, None, Some}
use Rattle.scene.specs.Scene.{DrawnPath}
use Rattle.scene.specs.Inner.Answers.{paths_from}

-- those from a position on, where any may be left
abbrev pub outlines_from : List ℕ → Option ℕ → List DrawnPath
outlines_from l None = []
outlines_from l (Some q) = paths_from l q 1
