-- The draws of three scenes by the definitions: they are those that the Rust with the stand-ins makes. The second has a step of its own, the third is drawn from five small allowances.
use Rattle.std.specs.Prelude.{◌≡◌, refl, cond, List, [], ◌∷◌, ℕ}
use Rattle.kind_table.specs.KindTable.{built_in}
use Rattle.scene.specs.Scene as scene
use Rattle.densify.specs.Densify as densify
use Rattle.strokes.specs.Strokes as strokes
use Rattle.geopic.specs.Geopic as geopic
use Rattle.reference.specs.Laws.Everything.{everything}
use Rattle.reference.specs.Laws.Scenes.{every_producer, in_steps, running_out, all, from_2000000, in_steps_from_2000000, from_60, from_40, from_20, from_5, from_0}

-- each draw as `all` writes it
abbrev told : List densify.GrantedDraw → List ℕ
told [] = []
told (d ∷ ds) = d.want ∷ d.floor ∷ d.granted ∷ cond d.cut 1 0 ∷ told ds

-- those of a scene by the built-in kind table from an allowance
abbrev drawn-from : ℕ → List ℕ → List ℕ
drawn-from allowance records = told (strokes.draws_in (geopic.trace_of built_in allowance (scene.scene_of records)).events)

pub draws_2000000 : drawn-from 2000000 every_producer ≡ all from_2000000
unfolding everything
draws_2000000 = refl

pub draws_in_steps : drawn-from 2000000 in_steps ≡ all in_steps_from_2000000
unfolding everything
draws_in_steps = refl

pub draws_60 : drawn-from 60 running_out ≡ all from_60
unfolding everything
draws_60 = refl

pub draws_40 : drawn-from 40 running_out ≡ all from_40
unfolding everything
draws_40 = refl

pub draws_20 : drawn-from 20 running_out ≡ all from_20
unfolding everything
draws_20 = refl

pub draws_5 : drawn-from 5 running_out ≡ all from_5
unfolding everything
draws_5 = refl

pub draws_0 : drawn-from 0 running_out ≡ all from_0
unfolding everything
draws_0 = refl
