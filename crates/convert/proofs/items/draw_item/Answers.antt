use mathlib.Core.Path.{refl}
use Rattle.scene.specs.Inner.Answers.{item_by}
use Rattle.convert.specs.Convert.{props_of, drawn_of}
use Rattle.strokes.specs.Laws.Applying.{applied_no_events}
use Rattle.convert.specs.Laws.Items.{item-drawn}
use Rattle.convert.proofs.items.draw_item.Goals as goal

pub returns-in-Box : goal.returns-in-Box
unfolding drawn_of
returns-in-Box c = item-drawn _ _ _ _ _ (c.props_of-p.ensures _) (c.shape_of.ensures _) c.in-Box.is (c.draw_box.ensures _ c.requires.1)

pub returns-in-Ellipse : goal.returns-in-Ellipse
unfolding drawn_of
returns-in-Ellipse c = item-drawn _ _ _ _ _ (c.props_of-p.ensures _) (c.shape_of.ensures _) c.in-Ellipse.is (c.draw_ellipse.ensures _ c.requires.1)

pub returns-in-Circle : goal.returns-in-Circle
unfolding drawn_of
returns-in-Circle c = item-drawn _ _ _ _ _ (c.props_of-p.ensures _) (c.shape_of.ensures _) c.in-Circle.is (c.draw_ellipse-in-Circle.ensures _ c.requires.1)

pub returns-in-Dot : goal.returns-in-Dot
unfolding drawn_of
returns-in-Dot c = item-drawn _ _ _ _ _ (c.props_of-p.ensures _) (c.shape_of.ensures _) c.in-Dot.is (c.point_feature.ensures _ _ c.requires.1)

pub returns-in-Points : goal.returns-in-Points
unfolding drawn_of item_by
returns-in-Points c = item-drawn _ _ _ _ _ (c.props_of-p.ensures _) (c.shape_of.ensures _) c.in-Points.is c.draw_points.ensures

pub returns-in-Paths : goal.returns-in-Paths
unfolding drawn_of item_by
returns-in-Paths c = item-drawn _ _ _ _ _ (c.props_of-p.ensures _) (c.shape_of.ensures _) c.in-Paths.is c.draw_paths.ensures

pub returns-in-Missing : goal.returns-in-Missing
unfolding drawn_of props_of
returns-in-Missing c = item-drawn _ _ _ _ _ refl (c.shape_of.ensures _) c.in-Missing.is (c.warn.ensures _ _ _ c.requires.1)

pub returns-in-Nothing : goal.returns-in-Nothing
unfolding drawn_of
returns-in-Nothing c = item-drawn _ _ _ _ _ (c.props_of-p.ensures _) (c.shape_of.ensures _) c.in-Nothing.is (applied_no_events _ _ c.requires.1)
