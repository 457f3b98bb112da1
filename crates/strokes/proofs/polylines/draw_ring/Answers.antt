use mathlib.Core.Path.{refl}
use native.Mathlib.Omega.{arith}
use Rattle.strokes.specs.Laws.Polygons.{ring-short, ring_full, ring-drawn}
use Rattle.strokes.proofs.polylines.draw_ring.Goals as goal

pub returns-in_default : goal.returns-in_default
returns-in_default c m ringed v h =
    let a = c.args in
    ring-short a.cx a.p refl (rw c.in_default.is at ringed) refl h

pub returns-then-work-ring-lt2 : goal.returns-then-work-ring-lt2
returns-then-work-ring-lt2 c m ringed v h =
    let a = c.args in
    ring_full a.cx a.p refl (rw c.in-Ok.is at ringed) refl (omega arith) h

pub returns : goal.returns
returns c m ringed v h =
    let a = c.args in
    ring-drawn a.cx a.p refl (rw c.in-Ok.is at ringed) refl (omega arith) h (c.stroke.ensures _ v)
