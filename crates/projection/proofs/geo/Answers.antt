use Rattle.projection.specs.Projection.{geo_by}
use Rattle.projection.proofs.geo.Goals as goal

pub returns : goal.returns
unfolding geo_by
returns c = cc
