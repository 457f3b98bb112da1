use Rattle.elementary.specs.Functions.{acos_of}
use Rattle.elementary.proofs.acos.Goals as goal

pub returns : goal.returns
unfolding acos_of
returns c = rw (c.atan.ensures, c.root.ensures)
