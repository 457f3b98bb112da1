-- The rest of the points, added to the sums so far, gives the sums of all.
use Rattle.std.proofs.Common.{◌≡◌, drop}
use Rattle.fit.specs.Fit.{no_sums, sums_of}
use Rattle.fit.proofs.means_of.Given as goal

abbrev pub invariant-loop-m : goal.invariant-loop-m
invariant-loop-m l = sums_of l.a (drop l.m-index l.projected) l.s ≡ sums_of l.a l.projected no_sums
