-- The root in its normal form, as `Laws/Form` has it: its value, and the pattern that is read as it. Assumes nothing.
use Rattle.std.specs.Prelude.{◌≡◌, false, ℕ, ◌+◌, ◌*◌, ◌/◌, ◌%◌, ◌^◌, ◌≤◌, ◌<◌, Float}
use Rattle.std.proofs.Common.{sym, ap, ◌∙◌, subst, arith}
use Rattle.std.specs.Float.{binary64}
use Rattle.std.specs.Float.Ieee.{of_bits}
use Rattle.std.specs.Float.Ieee.Fits.{round-fits}
use Rattle.std.specs.Float.Ieee.Exact.{HasValue, units_val}
use Rattle.float.specs.Laws.Fields.{pattern_reads}
use Rattle.root.specs.Root.{isqrt, sticky, root_at}
use Rattle.root.specs.Laws.Whole.{IsRoot}
use Rattle.root.specs.Laws.Form.{as_units, in_range_lem}

module _ (a p j : ℕ) (A : IsRoot a p) (even : a % 2 ≡ 0) (lo : 2 ^ 53 ≤ p) (hi : p < 2 ^ 54) where
  abbrev n : ℕ
  n = a * (2 ^ j * 2 ^ j)

  module _ (fine : j < 1994) where
    pub root_value : HasValue (root_at (a * (2 ^ j * 2 ^ j))) false ((p + 1) / 2 * 2 ^ j) (2 ^ 1074)
    root_value = subst (λ (v : Float). HasValue v false ((p + 1) / 2 * 2 ^ j) (2 ^ 1074)) (sym (as_units a p j A even lo hi)) (units_val binary64 false ((p + 1) / 2) j (in_range_lem a p j A even lo hi fine))

    pub root_read : of_bits binary64 (j * 2 ^ 52 + (p + 1) / 2) ≡ root_at (a * (2 ^ j * 2 ^ j))
    unfolding root_at
    root_read = ap (of_bits binary64) (omega arith) ∙ pattern_reads (root_at n) false ((p + 1) / 2) j (round-fits binary64 false (sticky (isqrt n) n) (2 ^ 1076)) (omega arith) (omega arith) root_value
