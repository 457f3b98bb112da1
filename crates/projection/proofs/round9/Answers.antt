use mathlib.Core.Path.{ap}
use lib.Ieee.{Float, binary64, div}
use Rattle.projection.specs.Projection.{billion, round9_of}
use Rattle.projection.proofs.round9.Goals as goal

pub returns : goal.returns
unfolding round9_of
returns c = ap (λ (v : Float). div binary64 v billion) c.round.ensures
