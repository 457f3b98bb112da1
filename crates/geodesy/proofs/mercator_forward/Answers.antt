use Rattle.geodesy.specs.Geodesy.{mercator_forward_of}
use Rattle.geodesy.proofs.mercator_forward.Goals as goal

pub returns : goal.returns
unfolding mercator_forward_of
returns c = rw (c.ln-y.ensures, c.tan.ensures, c.to_radians-phi.ensures, c.to_radians-x.ensures)
