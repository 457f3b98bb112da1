-- The rest of the points, added to the moments so far, gives the moments of all.
use Rattle.std.proofs.Common.{◌≡◌, drop}
use Rattle.fit.specs.Fit.{no_moments, moments_of}
use Rattle.fit.proofs.moments_of.Given as goal

abbrev pub invariant-loop-m : goal.invariant-loop-m
invariant-loop-m l = moments_of l.a l.c (drop l.m-index l.projected) l.s ≡ moments_of l.a l.c l.projected no_moments
