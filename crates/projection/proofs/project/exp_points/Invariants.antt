use Rattle.std.proofs.Common.{◌≡◌, ◌+◌, ◌*◌}
use Rattle.geodesy.specs.Inner.Stages.{exp_ordinate_of}
use Rattle.projection.specs.Inner.Stages.{on_y}
use Rattle.projection.specs.Laws.Passes.{Passed}
use Rattle.projection.proofs.project.exp_points.Given as goal

abbrev pub invariant-loop-k : goal.invariant-loop-k
invariant-loop-k l = Passed (on_y exp_ordinate_of) l.initial.out l.from l.to l.out (l.from + 4 * l.k) × (l.made ≡ exp_ordinate_of l.last)
