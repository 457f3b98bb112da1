use Rattle.convert.specs.Laws.Items.{box_round, ring_in, ring_applied}
use Rattle.convert.proofs.items.draw_box.Goals as goal

pub draw_ring-requires : goal.draw_ring-requires
draw_ring-requires c = let ready = c.requires in
    record { ring = ring_in (box_round _ _ _ _ _ ready.left _ _ _) _ c.box_ring-d.ensures; positions = ready.positions; features = ready.features }

pub returns : goal.returns
returns c = ring_applied (box_round _ _ _ _ _ c.requires.left _ _ _) _ _ _ c.box_ring-d.ensures c.draw_ring.result c.draw_ring.ensures
