use Rattle.std.proofs.Common.{◌-◌}
use Rattle.densify.proofs.cubic.+pieces.Given as goal

abbrev pub decreases-pieces : goal.decreases-pieces
decreases-pieces l = 16 - l.depth
