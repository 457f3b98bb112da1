use mathlib.Core.Path.{◌≡◌}
use Prim.Native.Nat.{◌-◌, ◌≤◌}
use lib.ListN.{drop}
use Rattle.stream.specs.Payload.{payload}
use Rattle.stream.specs.Inner.Payload.{room}
use Rattle.records.specs.Layout.{laid_out, laid_out_from}
use Rattle.records.specs.Inner.Order.{pass_of, StateWithin}
use Rattle.records.proofs.order.layout.Given as goal

abbrev pub invariant-loop-r : goal.invariant-loop-r
invariant-loop-r l =
    (l.p ≤ room l.s)
    × StateWithin l.st (room l.s)
    × (laid_out (payload l.s) ≡ laid_out_from (pass_of (payload l.s) l.st) (drop l.p (payload l.s)))

abbrev pub decreases-loop-r : goal.decreases-loop-r
decreases-loop-r l = room l.s - l.p
