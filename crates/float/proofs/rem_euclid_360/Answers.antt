use Rattle.std.proofs.Common.{◌∙◌}
use Rattle.float.proofs.Cases.{rem_euclid_is}
use Rattle.float.proofs.rem_euclid_360.Goals as goal

pub returns : goal.returns
returns c = c.rem_euclid.ensures ∙ rem_euclid_is c.args.x
