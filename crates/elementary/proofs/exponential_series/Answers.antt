use Rattle.std.specs.Float.Ieee.{of_bits}
use Rattle.elementary.specs.Series.{exponential_table}
use Rattle.elementary.proofs.exponential_series.Goals as goal

-- the table's rule, computed
pub returns : goal.returns
unfolding exponential_table of_bits
returns g c = c.series.ensures
