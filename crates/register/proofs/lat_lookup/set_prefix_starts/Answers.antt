use Rattle.std.proofs.Common.{rules}
use Rattle.register.proofs.PrefixBytes.{all_filled}
use Rattle.register.proofs.lat_lookup.set_prefix_starts.Goals as goal

pub returns : goal.returns
returns c = all_filled _ _ _ _ c.requires.0 c.requires.1 (search rules)
