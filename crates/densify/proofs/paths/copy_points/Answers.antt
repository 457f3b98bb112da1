use Rattle.std.proofs.Common.{◌+◌, ◌*◌, rules}
use Rattle.stream.specs.Payload.{payload}
use Rattle.scene.specs.Scene.{point_at}
use Rattle.densify.specs.Laws.Rounds.{points_round}
use Rattle.densify.proofs.paths.copy_points.Goals as goal

pub returns : goal.returns
returns c = let s = c.args in
    rw points_round (c.put_points.ensures (λ k. point_at (payload s.s.now) (s.from + 16 * k)) (λ k p h made. search rules))
