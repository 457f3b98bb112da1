use Rattle.strokes.specs.Laws.Loading.{loads_ready}
use Rattle.convert.specs.Laws.Items.{applied_from, points-missing, points-drawn}
use Rattle.convert.proofs.items.draw_points.Goals as goal

pub returns-in_default : goal.returns-in_default
returns-in_default c = points-missing _ _ _ _ _ c.in_default.ensures.role_value (c.warn.ensures _ _ _ c.requires)

pub load_points-l-requires : goal.load_points-l-requires
load_points-l-requires c =
    (c.in-Some.ensures.count_bound, (λ o e. rw e at c.points_of-outline.ensures.count_bound), c.requires.left)

pub polyline_or_polygon-requires : goal.polyline_or_polygon-requires
polyline_or_polygon-requires c = let lays = c.load_points-l.ensures in
    (loads_ready _ lays, rw lays.kept c.requires)

pub returns : goal.returns
returns c = let lays = c.load_points-l.ensures in
    points-drawn _ _ _ _ _ c.in-Some.ensures.role_value c.points_of-outline.ensures.role_value
    (applied_from c.args.st lays.kept (c.polyline_or_polygon.ensures _ _ _ _ lays))
