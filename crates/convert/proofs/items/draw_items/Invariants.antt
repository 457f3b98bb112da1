use Prim.Native.Nat.{◌-◌}
use lib.ListN.{length}
use Rattle.std.specs.Prelude.{Ok}
use Rattle.stream.specs.Payload.{payload}
use Rattle.stream.specs.Inner.Payload.{room}
use Rattle.scene.specs.Inner.Answers.{items_at}
use Rattle.kind_table.specs.KindTable.{entry_of}
use Rattle.convert.specs.Convert.{items_of}
use Rattle.strokes.specs.Inner.Space.{output_by}
use Rattle.convert.specs.Laws.Loops.{Loop}
use Rattle.convert.proofs.items.draw_items.Given as goal

abbrev pub invariant-loop-it : goal.invariant-loop-it
invariant-loop-it l =
    Loop (items_of (entry_of l.kinds) l.cx 0 (items_at (payload l.s) 0) l.initial.state.budget)
    (output_by (length l.initial.work) l.initial.positions l.initial.features l.initial.warnings (Ok l.initial.state))
    (output_by (length l.work) l.positions l.features l.warnings (Ok l.state))
    (items_of (entry_of l.kinds) l.cx l.i (items_at (payload l.s) l.q) l.state.budget) l.state.budget l.q l.i

abbrev pub decreases-loop-it : goal.decreases-loop-it
decreases-loop-it l = room l.s - l.q
