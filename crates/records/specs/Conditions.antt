-- Conditions 1 to 6 and 19, each over the whole stream, in the order of checking.
use Rattle.std.specs.Prelude.{ℕ, not, List, [], ◌∷◌, ◌++◌}
use Rattle.stream.specs.Conditions.{Condition}
use Rattle.stream.specs.Blocks.{of_blocks}
use Rattle.stream.specs.Payload.{payload}
use Rattle.records.specs.Layout.{laid_out}
use Rattle.records.specs.Limits.{limited}
use Rattle.records.specs.Values.{flatten_in, step_in, rescale_in, not_above, outside_bounds}

-- what single values of a payload must be
unfoldable pub of_values : List ℕ → List Condition
of_values l = (5, not_above (flatten_in l)) ∷ (19, outside_bounds (step_in l)) ∷ (6, not_above (rescale_in l)) ∷ []

unfoldable pub of_records : List ℕ → List Condition
of_records l = (3, not (laid_out l)) ∷ (4, not (limited l)) ∷ of_values l

unfoldable pub of_stream : List ℕ → List Condition
of_stream s = of_blocks s ++ of_records (payload s)
