use Prim.Native.Nat.{◌<◌}
use mathlib.Core.Path.{◌≡◌, refl, sym, ◌∙◌}
use mathlib.Core.Bool.{true, false≢true}
use native.Mathlib.Omega.{arith}
use Rattle.std.proofs.lemmas.Result.{err_from_is_err_and}
use Rattle.strokes.specs.Laws.Applying.{applied_refused}
use Rattle.strokes.specs.Laws.Polygons.{shape_lacks, shape_few, shape_ring, shape_stops, shape_line, shape_not_written}
use Rattle.strokes.proofs.polylines.polyline_or_polygon.Goals as goal
use Rattle.strokes.proofs.polylines.polyline_or_polygon.Goals.{else-closed-via-then-closed+else-l-ge8, else-closed-via-else-closed}

pub returns-in_err-st : goal.returns-in_err-st
returns-in_err-st c =
    let failed = err_from_is_err_and c.from_residual.result c.from_residual.ensures.1 in
    rw (failed.1, failed.2, c.in_err-st.was) (λ w ps o b lays. applied_refused _ _)

pub returns-in_err-l : goal.returns-in_err-l
returns-in_err-l c = let a = c.args in
    let failed = err_from_is_err_and c.from_residual-in_err-l.result c.from_residual-in_err-l.ensures.1 in
    rw (failed.1, failed.2, c.in_ok-st.was, c.in_err-l.was)
    (λ w ps o b lays. shape_lacks a.cx a.p lays refl refl (rw c.in_ok-st.was at c.requires.1))

pub returns-then-l-lt4 : goal.returns-then-l-lt4
returns-then-l-lt4 c = let a = c.args in
    rw (c.in_ok-st.was, c.in_ok-l.was)
    (λ w ps o b lays. shape_few a.cx a.p lays refl refl (rw c.in_ok-st.was at c.requires.1) c.if-l-lt4.true)

pub returns-then-l-ge8 : goal.returns-then-l-ge8
returns-then-l-ge8 c = let a = c.args in
    rw (c.in_ok-st.was, c.in_ok-l.was)
    (λ w ps o b lays.
    shape_ring a.cx a.p lays refl refl (rw c.in_ok-st.was at c.requires.1) c.if-l-lt4.false c.if-closed.true c.if-l-ge8.true (c.stroke.ensures _ _))

pub returns-in_err-filled : goal.returns-in_err-filled
returns-in_err-filled c = let a = c.args in
    let less : a.closed ≡ true → c.in_ok-l.l.ring < 8 =
    elim c.else-closed.branch [ else-closed-via-then-closed+else-l-ge8 t ↦ λ e. omega arith | else-closed-via-else-closed t ↦ λ e. absurd (false≢true (sym t.if-closed.false ∙ e)) ] in
    let failed = err_from_is_err_and c.from_residual-in_err-filled.result c.from_residual-in_err-filled.ensures.1 in
    rw (failed.1, failed.2, c.in_ok-st.was, c.in_ok-l.was)
    (λ w ps o b lays.
    shape_stops a.cx a.p lays refl refl (rw c.in_ok-st.was at c.requires.1) c.if-l-lt4.false _ less (λ laid. c.in_err-filled.ensures.fills a.closed ps o laid _))

pub returns-then-closed-2 : goal.returns-then-closed-2
returns-then-closed-2 c = let a = c.args in
    let less : c.in_ok-l.l.ring < 8 =
    elim c.else-closed.branch [ else-closed-via-then-closed+else-l-ge8 t ↦ omega arith | else-closed-via-else-closed t ↦ absurd (false≢true (sym t.if-closed.false ∙ c.if-closed-2.true)) ] in
    let filled = c.in_ok-filled.ensures in
    rw (c.in_ok-st.was, c.in_ok-l.was)
    (λ w ps o b lays.
    shape_not_written a.cx a.p lays refl refl (rw c.in_ok-st.was at c.requires.1) c.if-l-lt4.false _ filled.work_unchanged (λ laid. filled.fills a.closed ps o laid _) c.if-closed-2.true less
    (c.draw_without_writing.ensures _ _ _))

pub returns : goal.returns
returns c = let a = c.args in
    let filled = c.in_ok-filled.ensures in
    rw (c.in_ok-st.was, c.in_ok-l.was)
    (λ w ps o b lays.
    shape_line a.cx a.p lays refl refl (rw c.in_ok-st.was at c.requires.1) c.if-l-lt4.false _ filled.work_unchanged (λ laid. filled.fills a.closed ps o laid _) c.if-closed-2.false (c.stroke-2.ensures _ _))
