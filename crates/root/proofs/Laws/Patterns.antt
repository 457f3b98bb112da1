-- The pattern of the root of the value of a bit pattern, as `Laws/Patterns` has the rest of it. Assumes nothing.
use Rattle.std.specs.Prelude.{◌≡◌, ℕ, ◌+◌, ◌-◌, ◌*◌, ◌/◌, ◌%◌, ◌^◌, ◌<◌}
use Rattle.std.proofs.Common.{sym, ap, ◌∙◌, arith}
use Rattle.std.specs.Float.{binary64}
use Rattle.std.specs.Float.Ieee.{of_bits}
use Rattle.float.specs.Inner.Decomposition.{units_at, Decomposition}
use Rattle.float.specs.Laws.Units.{value_of_pattern, some_units}
use Rattle.root.specs.Root.{root_at, root_of}
use Rattle.root.specs.Laws.Whole.{IsRoot}
use Rattle.root.specs.Laws.Patterns.{root_of_value, Evened, evened, p-lo, p-hi, fine}
use Rattle.root.proofs.Laws.Form.{root_read}

module _ {b m e m' : ℕ} (S : Decomposition b m e) (w : Evened m e m') where
  module _ {p : ℕ} (A : IsRoot (m' * 2 ^ 54) p) where
    pub pattern_read : 0 < b → b < 2047 * 2 ^ 52 → of_bits binary64 ((e / 2 - 27) * 2 ^ 52 + (p + 1) / 2) ≡ root_of (of_bits binary64 b)
    pattern_read B F =
        root_read (m' * 2 ^ 54) p (e / 2 - 27) A (omega arith) (p-lo S w A) (p-hi S w A) (fine S w A)
        ∙ ap root_at (sym (S.value ∙ evened m e m' S.low w))
        ∙ sym (root_of_value (of_bits binary64 b) (units_at (b / 2 ^ 52) (b % 2 ^ 52)) (value_of_pattern b F) (some_units b B))
