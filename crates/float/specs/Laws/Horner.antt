-- Horner over a table that a loop runs through. Assumes nothing.
use Rattle.std.specs.Prelude.{◌≡◌, List, ℕ, ◌+◌, ◌<◌, length, drop, get_or, Float}
use Rattle.std.proofs.Common.{add-one, drop-cons}
use Rattle.std.specs.Float.{nan, binary64}
use Rattle.std.specs.Float.Ieee.{add, mul}
use Rattle.float.specs.Horner.{horner}

-- one step of a loop that runs over a table
pub horner-step : (acc v : Float) (t : List Float) (i : ℕ) → i < length t → horner acc (drop i t) v ≡ horner (add binary64 (mul binary64 acc v) (get_or t i nan)) (drop (i + 1) t) v
unfolding horner
horner-step acc v t i h = rw (add-one, drop-cons t i nan)
