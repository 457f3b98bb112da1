-- Condition 4's two tests of a float as one, by whether it is a canvas measure.
use Rattle.std.specs.Prelude.{ℕ, ◌+◌, ◌*◌, Bool, true, false, List, Option, Float}
use Rattle.stream.specs.Numbers.{float_at}
use Rattle.records.specs.Records.{all_to}
use Rattle.records.specs.Limits.{is_finite, on_canvas}

abbrev pub within_limit : Bool → Option Float → Bool
within_limit true x = on_canvas x
within_limit false x = is_finite x

-- n floats from p on
abbrev pub all_within_limit : List ℕ → Bool → ℕ → ℕ → Bool
all_within_limit l canvas p n = all_to (λ i. within_limit canvas (float_at l (p + 8 * i))) n
