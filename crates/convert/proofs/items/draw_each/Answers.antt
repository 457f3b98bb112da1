use Rattle.std.proofs.lemmas.Result.{err_from_is_err_and}
use mathlib.Core.Path.{◌≡◌}
use borrow.Author.Rules.{rules}
use Rattle.std.specs.Prelude.{option_map}
use Rattle.scene.specs.declared.readers.Path.{Path}
use Rattle.stream.specs.Payload.{payload}
use Rattle.densify.specs.Inner.Written.{drawn_by}
use Rattle.strokes.specs.Inner.Space.{outline_by}
use Rattle.convert.specs.Laws.Loops.{path-ready, path_applied, all_paths, one-path, path-stops}
use Rattle.convert.proofs.items.draw_each.Goals as goal

pub polyline_or_polygon-requires : goal.polyline_or_polygon-requires
polyline_or_polygon-requires c =
    let s = c.args in
    let l = payload s.s.now in
    let before = c.loop-path in
    path-ready before.work _ s.cx.flatten (drawn_by l c.in-Ok.path) before.state.budget _ (outline_by l c.next_outline-outline.result) c.load_path-l.ensures before.invariant.fits

pub returns-in_err-state : goal.returns-in_err-state
returns-in_err-state c =
    let failed = err_from_is_err_and c.from_residual.result c.from_residual.ensures.1 in
    rw (failed.1, failed.2)
    (path-stops _ _ _ _ _ c.loop-path.invariant c.in-Ok.path c.in-Ok.ensures.role_value c.next_outline-outline.result c.next_outline-outline.ensures.q_value _
    (path_applied _ _ _ _ _ _ _ c.load_path-l.ensures c.part_of-props.ensures c.in_err-state.ensures))

pub loop-path-preserved : goal.loop-path-preserved
loop-path-preserved c =
    let after : c.map-o.result ≡ option_map (λ (r : Path). r.next) c.next_outline-outline.result = search rules in
    rw after
    (one-path _ _ _ _ _ c.loop-path.invariant c.in-Ok.path c.in-Ok.ensures.role_value c.next_outline-outline.result c.next_outline-outline.ensures.q_value
    c.in-Ok.ensures.path_within.more (path_applied _ _ _ _ _ _ _ c.load_path-l.ensures c.part_of-props.ensures c.in_ok-state.ensures))

pub returns : goal.returns
returns c = all_paths _ _ _ _ _ c.loop-path.invariant c.in_default.ensures.role_value
