use Rattle.std.proofs.Common.{ap, get_or, List, Float}
use Rattle.std.specs.Float.{nan, binary64}
use Rattle.std.specs.Float.Ieee.{mul, of_bits}
use Rattle.elementary.specs.Series.{odd_of, sine_table}
use Rattle.elementary.proofs.sine_series.Goals as goal

-- the table's rule, computed
pub returns : goal.returns
unfolding odd_of sine_table of_bits
returns c = ap (λ (r : List Float). mul binary64 (get_or r 0 nan) c.args.u) c.series.ensures
