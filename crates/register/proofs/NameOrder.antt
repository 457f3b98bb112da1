-- The order of a table's names.
use mathlib.Core.Path.{◌≡◌, sym, ◌∙◌}
use mathlib.Core.Bool.{true, true≢false}
use mathlib.Core.List.{List}
use Prim.Native.Nat.{ℕ}
use Rattle.records.specs.Layout.{before}
use Rattle.scene.specs.Laws.Rising.{before_itself}
use Rattle.names.specs.Inner.Table.{key_of}

pub before_differs : (a b : List ℕ) → before (key_of a) (key_of b) ≡ true → a ≡ b → ⊥
before_differs a b h e = true≢false (sym (rw e at h) ∙ before_itself (key_of b))
