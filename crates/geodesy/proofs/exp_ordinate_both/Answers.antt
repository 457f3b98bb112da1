use Rattle.geodesy.specs.Inner.Stages.{exp_ordinate_of}
use Rattle.geodesy.proofs.exp_ordinate_both.Goals as goal

pub returns : goal.returns
unfolding exp_ordinate_of
returns c = c.exp_both.ensures
