-- A series by Horner, from the highest term.
use Rattle.std.specs.Prelude.{List, [], ◌∷◌, Float}
use Rattle.std.specs.Float.{binary64}
use Rattle.std.specs.Float.Ieee.{add, mul}

-- the rest of the terms, after what is summed so far
unfoldable pub horner : Float → List Float → Float → Float
horner acc [] v = acc
horner acc (c ∷ cs) v = horner (add binary64 (mul binary64 acc v) c) cs v
