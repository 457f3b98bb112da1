use Rattle.std.proofs.Common.{◌≡◌, ◌+◌, suc, arith, rules}
use Rattle.densify.specs.Densify.{corner_point}
use Rattle.values.specs.Inner.Points.{point_in}
use Rattle.densify.proofs.rings.corner.Goals as goal

pub returns : goal.returns
returns c = let a = c.args in
    let e : a.per + 1 ≡ suc a.per = omega arith in
    rw (← e) (c.put_points.ensures (corner_point (point_in a.c) a.r a.start a.per) (λ k p h made. search rules))
