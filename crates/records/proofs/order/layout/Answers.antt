use mathlib.Core.Path.{◌≡◌, refl, sym, ◌∙◌}
use mathlib.Core.List.{List}
use Prim.Native.Nat.{ℕ, ◌%◌, ◌≤◌}
use native.Mathlib.Omega.{arith}
use lib.ListN.{drop}
use Rattle.stream.specs.Payload.{payload}
use Rattle.stream.specs.Inner.Payload.{room, rest, part_from}
use Rattle.stream.specs.Laws.Payload.{part_room}
use Rattle.records.specs.declared.records.Step.{Step}
use Rattle.records.specs.Records.{record_of, bytes_at}
use Rattle.records.specs.Layout.{laid_out}
use Rattle.records.specs.Inner.Order.{pass_of}
use Rattle.records.specs.Laws.Walk.{found, got_room}
use Rattle.records.proofs.Passes.{order_bad, order_end, order_stop, order_go}
use Rattle.records.proofs.order.layout.Goals as goal

-- what the reader finds at p stands there
module _ (s : List ℕ) (p : ℕ) (inside : p ≤ room s) {part : List ℕ} {x y : Step} (from : part ≡ part_from s p) (read : x ≡ record_of (rest part (p % 508))) (is : x ≡ y) where
  stands : record_of (drop p (payload s)) ≡ y
  stands = found s p inside from read ∙ is

pub loop-r-init : goal.loop-r-init
unfolding laid_out bytes_at
loop-r-init c = (omega arith, (omega arith, omega arith), refl)

pub next_record-requires : goal.next_record-requires
next_record-requires c = part_room _ _ c.loop-r.invariant.0 c.part_from-part.ensures

pub returns-in-Bad : goal.returns-in-Bad
returns-in-Bad c =
    order_bad _ (pass_of _ c.loop-r.st) (stands _ _ c.loop-r.invariant.0 c.part_from-part.ensures c.next_record.ensures c.in-Bad.is)
    ∙ sym c.loop-r.invariant.2

pub returns-in-End : goal.returns-in-End
returns-in-End c =
    order_end _ (pass_of _ c.loop-r.st) (stands _ _ c.loop-r.invariant.0 c.part_from-part.ensures c.next_record.ensures c.in-End.is)
    ∙ sym c.loop-r.invariant.2

pub step-requires : goal.step-requires
step-requires c = (c.loop-r.invariant.1, record { size = _; got = stands _ _ c.loop-r.invariant.0 c.part_from-part.ensures c.next_record.ensures c.in-Got.is })

pub returns-in_default : goal.returns-in_default
returns-in_default c =
    order_stop _ (pass_of _ c.loop-r.st) (stands _ _ c.loop-r.invariant.0 c.part_from-part.ensures c.next_record.ensures c.in-Got.is) c.in_default.ensures.leads_to
    ∙ sym c.loop-r.invariant.2

pub overflow_add-p : goal.overflow_add-p
overflow_add-p c = omega (arith, got_room c.args.s.now c.loop-r.p (stands _ _ c.loop-r.invariant.0 c.part_from-part.ensures c.next_record.ensures c.in-Got.is))

pub loop-r-smaller : goal.loop-r-smaller
loop-r-smaller c = omega (arith, got_room c.args.s.now c.loop-r.p (stands _ _ c.loop-r.invariant.0 c.part_from-part.ensures c.next_record.ensures c.in-Got.is))

pub loop-r-preserved : goal.loop-r-preserved
loop-r-preserved c =
    let got = stands _ _ c.loop-r.invariant.0 c.part_from-part.ensures c.next_record.ensures c.in-Got.is in
    ((got_room c.args.s.now c.loop-r.p got).1, c.in-Some.ensures.step_within, c.loop-r.invariant.2 ∙ order_go _ c.loop-r.p (pass_of _ c.loop-r.st) got c.in-Some.ensures.leads_to)
