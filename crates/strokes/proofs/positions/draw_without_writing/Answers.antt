use native.Mathlib.Omega.{arith}
use Rattle.densify.specs.Densify.{densify_polyline_of}
use Rattle.values.specs.Inner.Points.{points_in}
use Rattle.densify.specs.Laws.Replay.{densify_replays}
use Rattle.densify.specs.Laws.Sizes.{left_falls}
use Rattle.strokes.specs.Strokes.{missing, draw_without_writing}
use Rattle.strokes.specs.Laws.Applying.{applied_drawn}
use Rattle.strokes.proofs.positions.draw_without_writing.Goals as goal

pub returns : goal.returns
unfolding draw_without_writing
returns c w q f h = let s = c.args in
    let ps = points_in s.work.now s.from s.to in
    let m = densify_polyline_of s.cx.step s.cx.projection.registration.scale ps s.st.budget in
    let spent = c.spend_polyline-budget.ensures in
    let left = left_falls (densify_replays s.cx.step s.cx.projection.registration.scale ps s.st.budget) in
    applied_drawn m (λ b. missing s.item b)
    (rw spent at (c.warn.ensures w q f
    (rw spent (record { positions = h.positions; features = h.features; warnings = h.warnings; left = omega arith }))))
