use Rattle.std.proofs.Common.{ap, get_or, List, Float}
use Rattle.std.specs.Float.{nan}
use Rattle.std.specs.Float.Ieee.{of_bits}
use Rattle.elementary.specs.Series.{even_of, cosine_table}
use Rattle.elementary.proofs.cosine_series.Goals as goal

-- the table's rule, computed
pub returns : goal.returns
unfolding even_of cosine_table of_bits
returns c = ap (λ (r : List Float). get_or r 0 nan) c.series.ensures
