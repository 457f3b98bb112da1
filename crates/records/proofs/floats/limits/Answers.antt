use mathlib.Core.Path.{◌≡◌, refl, sym, ap, ◌∙◌}
use mathlib.Core.Bool.{Bool}
use mathlib.Core.List.{List}
use Prim.Native.Nat.{ℕ, ◌%◌, ◌≤◌}
use native.Mathlib.Omega.{arith}
use lib.ListN.{drop}
use Rattle.stream.specs.Payload.{payload}
use Rattle.stream.specs.Inner.Payload.{room, rest, part_from}
use Rattle.stream.specs.Laws.Payload.{part_at, part_room}
use Rattle.records.specs.declared.records.Record.{Record}
use Rattle.records.specs.declared.records.Step.{Step}
use Rattle.records.specs.Records.{record_of}
use Rattle.records.specs.Limits.{limited_at, limited}
use Rattle.records.specs.Laws.Walk.{found, got_room}
use Rattle.records.proofs.Passes.{limits_none, limits_stop, limits_closed, limits_go}
use Rattle.records.proofs.floats.limits.Goals as goal

-- what the reader finds at p stands there
module _ (s : List ℕ) (p : ℕ) (inside : p ≤ room s) {part : List ℕ} (from : part ≡ part_from s p) where
  stands : {x y : Step} → x ≡ record_of (rest part (p % 508)) → x ≡ y → record_of (drop p (payload s)) ≡ y
  stands read is = found s p inside from read ∙ is

  -- and so do its floats
  tested : (r : Record) {x y : Bool} → x ≡ limited_at (rest part (p % 508)) r → x ≡ y → limited_at (drop p (payload s)) r ≡ y
  tested r read is = ap (λ (l : List ℕ). limited_at l r) (sym (part_at s p inside from)) ∙ sym read ∙ is

pub loop-p-init : goal.loop-p-init
unfolding limited
loop-p-init c = (omega arith, refl)

pub returns-then-tag_at : goal.returns-then-tag_at
returns-then-tag_at c = limits_closed _ c.loop-p.p (sym c.tag_at.ensures ∙ c.if-tag_at.true) ∙ sym c.loop-p.invariant.1

pub next_record-requires : goal.next_record-requires
next_record-requires c = part_room _ _ c.loop-p.invariant.0 c.part_from-part.ensures

pub returns-in_default : goal.returns-in_default
returns-in_default c =
    limits_none _ (stands _ _ c.loop-p.invariant.0 c.part_from-part.ensures c.next_record.ensures refl) c.in_default.not-Got
    ∙ sym c.loop-p.invariant.1

pub limited_at-requires : goal.limited_at-requires
limited_at-requires c = (part_room _ _ c.loop-p.invariant.0 c.part_from-part.ensures, record { size = _; got = sym c.next_record.ensures ∙ c.in-Got.is })

pub returns-then-not-limited_at : goal.returns-then-not-limited_at
returns-then-not-limited_at c =
    limits_stop _
    (stands _ _ c.loop-p.invariant.0 c.part_from-part.ensures c.next_record.ensures c.in-Got.is)
    (tested _ _ c.loop-p.invariant.0 c.part_from-part.ensures _ c.limited_at.ensures c.if-not-limited_at.true)
    ∙ sym c.loop-p.invariant.1

pub overflow_add-p : goal.overflow_add-p
overflow_add-p c = omega (arith, got_room c.args.s.now c.loop-p.p (stands _ _ c.loop-p.invariant.0 c.part_from-part.ensures c.next_record.ensures c.in-Got.is))

pub loop-p-smaller : goal.loop-p-smaller
loop-p-smaller c = omega (arith, got_room c.args.s.now c.loop-p.p (stands _ _ c.loop-p.invariant.0 c.part_from-part.ensures c.next_record.ensures c.in-Got.is))

pub loop-p-preserved : goal.loop-p-preserved
loop-p-preserved c =
    let got = stands _ _ c.loop-p.invariant.0 c.part_from-part.ensures c.next_record.ensures c.in-Got.is in
    let fine = tested _ _ c.loop-p.invariant.0 c.part_from-part.ensures _ c.limited_at.ensures c.if-not-limited_at.false in
    ((got_room c.args.s.now c.loop-p.p got).1, c.loop-p.invariant.1 ∙ limits_go _ c.loop-p.p got fine)
