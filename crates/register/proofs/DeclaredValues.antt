-- What variables say, said of the scene's.
use Rattle.scene.specs.Scene.{scene_of}
use Rattle.scene.specs.Inner.Answers.{variables_at}
use Rattle.register.specs.declared.declared.Geo.{Geo}
use Rattle.register.specs.Register.{var}
use Rattle.register.specs.Inner.Survey.{Each, Agrees}
use mathlib.Core.Path.{◌≡◌}
use mathlib.Core.List.{List}
use Prim.Native.Nat.{ℕ}

pub scene_says : (l : List ℕ) {g : Geo} → Agrees (variables_at l 0) g → Each (λ name x. x ≡ var (scene_of l) name) g
unfolding scene_of
scene_says l h = h
