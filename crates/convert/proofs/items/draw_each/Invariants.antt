use Prim.Native.Nat.{◌-◌}
use lib.ListN.{length}
use Rattle.std.specs.Prelude.{Ok}
use Rattle.stream.specs.Payload.{payload}
use Rattle.stream.specs.Inner.Payload.{room}
use Rattle.scene.specs.Inner.Answers.{paths_from}
use Rattle.convert.specs.Convert.{paths_of}
use Rattle.convert.specs.Inner.Outlines.{outlines_from}
use Rattle.strokes.specs.Inner.Space.{output_by}
use Rattle.convert.specs.Laws.Loops.{Loop}
use Rattle.convert.proofs.items.draw_each.Given as goal

abbrev pub invariant-loop-path : goal.invariant-loop-path
invariant-loop-path l =
    Loop (paths_of l.cx l.p l.many 0 (paths_from (payload l.s) l.next 0) (paths_from (payload l.s) l.next 1) l.initial.state.budget)
    (output_by (length l.initial.work) l.initial.positions l.initial.features l.initial.warnings (Ok l.initial.state))
    (output_by (length l.work) l.positions l.features l.warnings (Ok l.state))
    (paths_of l.cx l.p l.many l.i (paths_from (payload l.s) l.q 0) (outlines_from (payload l.s) l.o) l.state.budget) l.state.budget l.q l.i

abbrev pub decreases-loop-path : goal.decreases-loop-path
decreases-loop-path l = room l.s - l.q
