use Rattle.std.proofs.Common.{◌≡◌, length, map, take}
use Rattle.fit.specs.Fit.{projected_of}
use Rattle.fit.proofs.project_controls.Given as goal

abbrev pub invariant-loop-k : goal.invariant-loop-k
invariant-loop-k l = (length l.projected ≡ length l.initial.projected) × (take l.k l.projected ≡ map projected_of (take l.k l.controls))
