use native.Mathlib.Omega.{arith}
use Rattle.stream.specs.Payload.{payload}
use Rattle.scene.proofs.Means.{sums_more, mean-is}
use Rattle.scene.proofs.labels.mean.Goals as goal

pub loop-i-preserved : goal.loop-i-preserved
loop-i-preserved c = (
  omega arith,
  sums_more (λ q. q.x) (payload c.args.s.now) c.args.at c.args.count c.loop-i.x c.loop-i.i c.loop-i.invariant.1 (omega arith) c.point_at-p.ensures,
  sums_more (λ q. q.y) (payload c.args.s.now) c.args.at c.args.count c.loop-i.y c.loop-i.i c.loop-i.invariant.2 (omega arith) c.point_at-p.ensures,
)

pub returns : goal.returns
returns c = mean-is (payload c.args.s.now) c.args.at c.args.count c.loop-i.i c.loop-i.x c.loop-i.y c.loop-i.invariant.1 c.loop-i.invariant.2 (omega arith)
