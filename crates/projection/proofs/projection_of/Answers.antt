use Rattle.projection.specs.Projection.{projection_of}
use Rattle.projection.proofs.projection_of.Goals as goal

pub returns : goal.returns
unfolding projection_of
returns c = rw (c.cos.ensures, c.sin.ensures, c.mercator_forward-a.ensures, c.to_radians-b.ensures)
