use native.Mathlib.Omega.{arith}
use borrow.Author.Tests.{not-true, not-false}
use Rattle.strokes.specs.Laws.Polygons.{closer_fits, closer_in, fill_none, outline_few, outline_drawn, own_few, own_drawn}
use Rattle.strokes.proofs.polylines.fill.Goals as goal

pub returns-then-not-p-clause-fills : goal.returns-then-not-p-clause-fills
returns-then-not-p-clause-fills c = let a = c.args in
    λ closed ps o laid v h. fill_none a.cx a.p _ _ _ (not-true _ c.if-not-p.true) h

pub returns-then-end-l-lt8-clause-fills : goal.returns-then-end-l-lt8-clause-fills
returns-then-end-l-lt8-clause-fills c = let a = c.args in
    λ closed ps o laid v h. outline_few a.cx a.p laid _ c.in-Some.is (omega arith) h

pub returns-in-Some-clause-fills : goal.returns-in-Some-clause-fills
returns-in-Some-clause-fills c = let a = c.args in
    λ closed ps o laid v h. outline_drawn a.cx a.p laid _ c.in-Some.is (not-false _ c.if-not-p.false) (omega arith) (c.stroke.ensures _ v h)

pub returns-in-Some-clause-keeps_fit : goal.returns-in-Some-clause-keeps_fit
returns-in-Some-clause-keeps_fit c v h = (c.stroke.ensures _ v h).fits

pub unwrap-ring-requires : goal.unwrap-ring-requires
unwrap-ring-requires c = rw c.ok.ensures.value (closer_fits c.requires.bounds _ c.close_ring.ensures)

pub returns-then-ring-lt8-clause-fills : goal.returns-then-ring-lt8-clause-fills
returns-then-ring-lt8-clause-fills c = let a = c.args in
    let closer = rw (← c.ok.ensures.value, c.unwrap-ring.ensures) at c.close_ring.ensures in
    λ closed ps o laid v h. rw closer.kept (own_few a.cx a.p laid _ c.in_default.is c.requires.bounds closer (omega arith) h)

pub stroke-requires-2 : goal.stroke-requires-2
stroke-requires-2 c = let pre = c.requires in
    let end = closer_in pre.bounds (rw (← c.ok.ensures.value, c.unwrap-ring.ensures) at c.close_ring.ensures) in
    record { some = omega arith; points = end.0; few = end.1; positions = pre.positions; features = pre.features; left = pre.left }

pub returns-clause-fills : goal.returns-clause-fills
returns-clause-fills c = let a = c.args in
    let closer = rw (← c.ok.ensures.value, c.unwrap-ring.ensures) at c.close_ring.ensures in
    λ closed ps o laid v h.
    rw closer.kept (own_drawn a.cx a.p laid _ c.in_default.is c.requires.bounds closer (not-false _ c.if-not-p.false) (omega arith) (c.stroke-2.ensures _ v h))

pub returns-clause-keeps_fit : goal.returns-clause-keeps_fit
returns-clause-keeps_fit c v h = rw c.close_ring.ensures.kept (c.stroke-2.ensures _ v h).fits
