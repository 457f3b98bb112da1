use mathlib.Core.Path.{◌≡◌, refl, ap}
use native.Mathlib.Omega.{arith}
use borrow.Author.Rules.{rules}
use Rattle.geojson.specs.declared.Geometry.{Geometry}
use Rattle.geojson.specs.declared.Geometry.TheVariants.{Point, Line, Polygon}
use Rattle.geojson.specs.Inner.Features.{geometry_of}
use Rattle.strokes.specs.Laws.Positions.{close-line, close-ring}
use Rattle.strokes.proofs.positions.project_and_close.Goals as goal

-- the number of any other geometry is another
other : (g : Geometry) → (g ≡ Polygon → ⊥) → geometry_of g ≡ 2 → ⊥
other Point n e = omega arith
other Line n e = omega arith
other Polygon n e = n refl

pub overflow_add-end : goal.overflow_add-end
overflow_add-end c = omega (arith, c.requires.1, c.well_formed)

pub returns-then-ne : goal.returns-then-ne
returns-then-ne c q m one =
    let line : c.args.geometry ≡ Polygon → ⊥ = search rules in
    close-line _ _ one c.project_points.ensures (other c.args.geometry line)

pub returns : goal.returns
returns c q m one =
    let ring : c.args.geometry ≡ Polygon = search rules in
    close-ring _ _ one c.project_points.ensures (ap geometry_of ring) (omega arith) c.repeat_first_position.ensures
