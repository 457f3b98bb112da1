-- The number by which conditions 1 to 6 and 19 refuse a stream, 0 where they let it pass.
use Rattle.std.specs.Prelude.{ℕ, List}
use Rattle.stream.specs.Conditions.{first_of}
use Rattle.records.specs.Conditions.{of_values, of_stream}

abbrev pub values_refusal : List ℕ → ℕ
values_refusal l = first_of (of_values l)

abbrev pub refusal_of : List ℕ → ℕ
refusal_of s = first_of (of_stream s)
