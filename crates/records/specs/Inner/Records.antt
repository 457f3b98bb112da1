-- What a reader is asked for.
use Rattle.std.specs.Prelude.{ℕ, ◌≤◌, ◌<◌}

-- the count of a path's form stands at p, behind the tag, with so many bytes for each after it
pub record FormFits (p each : ℕ) : Type 0 where
  pub behind : 1 ≤ p
  pub near : p < 256
  pub short : each < 256
