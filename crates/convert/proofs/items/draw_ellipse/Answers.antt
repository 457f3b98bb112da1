use Rattle.convert.specs.Laws.Items.{ellipse_round, ring_in, ring_applied}
use Rattle.convert.proofs.items.draw_ellipse.Goals as goal

pub draw_ring-requires : goal.draw_ring-requires
draw_ring-requires c = let ready = c.requires in
    record { ring = ring_in (ellipse_round _ _ _ _ _ ready.left _ _) _ c.ellipse_ring-d.ensures; positions = ready.positions; features = ready.features }

pub returns : goal.returns
returns c = ring_applied (ellipse_round _ _ _ _ _ c.requires.left _ _) _ _ _ c.ellipse_ring-d.ensures c.draw_ring.result c.draw_ring.ensures
