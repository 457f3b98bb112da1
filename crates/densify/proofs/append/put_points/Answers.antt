use Rattle.std.proofs.Common.{◌≡◌, arith}
use Rattle.densify.specs.Laws.Writing.{next_in}
use Rattle.densify.specs.Laws.Rounds.{round_none, round_next, round_short}
use Rattle.densify.proofs.Exits.{none_written}
use Rattle.densify.proofs.append.put_points.Goals as goal

pub loop-k-init : goal.loop-k-init
loop-k-init g c = (c.requires.within, λ f h. round_none f _ _ _ c.requires.within)

pub returns-in_err-next : goal.returns-in_err-next
returns-in_err-next g c = λ f h.
    let k = c.loop-k.k in
    rw (none_written c.from_residual.result c.from_residual.ensures.0)
    (round_short f k {w₂ = c.put_point.new.work} (c.loop-k.invariant.1 f h) _ c.loop-k-test.true (rw (h k _ c.loop-k-test.true c.f-p.ensures) at c.in_err-next.ensures))

pub loop-k-preserved : goal.loop-k-preserved
loop-k-preserved g c =
    let k = c.loop-k.k in
    (next_in c.in_ok-next.ensures, λ f h. round_next f k {w₂ = c.put_point.new.work} (c.loop-k.invariant.1 f h) (rw (h k _ c.loop-k-test.true c.f-p.ensures) at c.in_ok-next.ensures))

pub returns : goal.returns
returns g c = λ f h.
    let e : c.loop-k.k ≡ c.args.n = omega arith in
    rw e at (c.loop-k.invariant.1 f h)
