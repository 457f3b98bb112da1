-- What is summed so far, with the terms that are left, is the series; in the inner loop the values before k have one term more.
use Rattle.std.proofs.Common.{◌≡◌, ℕ, ◌+◌, ◌<◌, ◌≤◌, length, get_or, drop}
use Rattle.std.specs.Float.{nan}
use Rattle.float.specs.Horner.{horner}
use Rattle.elementary.specs.Series.{series_of}
use Rattle.elementary.proofs.series.Given as goal

abbrev pub invariant-loop-c : goal.invariant-loop-c
invariant-loop-c g l =
    (length l.acc ≡ length l.v)
    × ((k : ℕ) → k < length l.v → horner (get_or l.acc k nan) (drop l.c-index l.rest) (get_or l.v k nan) ≡ series_of l.t (get_or l.v k nan))

abbrev pub invariant-loop-k : goal.invariant-loop-k
invariant-loop-k g l =
    (length l.acc ≡ length l.v)
    × ((k : ℕ) → k < l.k → horner (get_or l.acc k nan) (drop (l.c-index + 1) l.rest) (get_or l.v k nan) ≡ series_of l.t (get_or l.v k nan))
    × ((k : ℕ) → l.k ≤ k → k < length l.v → horner (get_or l.acc k nan) (drop l.c-index l.rest) (get_or l.v k nan) ≡ series_of l.t (get_or l.v k nan))
