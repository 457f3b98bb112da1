use Rattle.records.proofs.Near.{not_finite, any_finite, low-holds, low_fails}
use Rattle.records.proofs.floats.is_within_limit.Goals as goal

pub returns-then-not-canvas : goal.returns-then-not-canvas
returns-then-not-canvas c = any_finite c.args.canvas c.in-Some.is (c.if-not-canvas.true)

pub returns-in-None : goal.returns-in-None
returns-in-None c = not_finite c.args.canvas c.in-None.is

pub returns-then-v : goal.returns-then-v
returns-then-v c = low-holds c.args.canvas c.in-Some.is (c.if-not-canvas.false) c.if-v.true

pub returns-else-v : goal.returns-else-v
returns-else-v c = low_fails c.args.canvas c.in-Some.is (c.if-not-canvas.false) c.if-v.false
