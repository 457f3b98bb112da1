use Rattle.std.proofs.Common.{◌+◌, rules}
use Rattle.densify.specs.Densify.{along_of}
use Rattle.values.specs.Inner.Points.{point_in}
use Rattle.densify.specs.Laws.Rounds.{samples_round}
use Rattle.densify.proofs.segments.sample_segment.Goals as goal

pub returns : goal.returns
returns c = let s = c.args in
    rw samples_round (c.put_points.ensures (λ k. along_of (point_in s.a) (point_in s.b) (k + 1) s.n) (λ k p h made. search rules))
