-- What a whole call is computed with, from its blocks to its floats: to unfold `everything` is to unfold all that its line names.
use Rattle.register.specs.Laws.Everything as registration
use Rattle.projection.specs.Projection as projection
use Rattle.values.specs.Points as points
use Rattle.values.specs.Slices as slices
use Rattle.stream.specs.Blocks as blocks
use Rattle.stream.specs.Payload as payload
use Rattle.records.specs.Walk as walk
use Rattle.records.specs.Layout as layout
use Rattle.records.specs.Limits as limits
use Rattle.records.specs.Values as values
use Rattle.records.specs.Conditions as refusals
use Rattle.budget.specs.Budget as budget
use Rattle.densify.specs.Densify as densify
use Rattle.kind_table.specs.KindTable as kinds
use Rattle.convert.specs.Convert as convert
use Rattle.strokes.specs.Strokes as strokes
use Rattle.strokes.specs.Space as space
use Rattle.geopic.specs.Geopic as geopic

unfoldable pub everything : Type 0
unfolding registration.everything projection.plane_offset_of projection.to_lon_lat_of projection.projection_of projection.to_lon_lat_by projection.round9_of projection.geo_of projection.geo_by projection.project_point blocks.sized blocks.word_sum blocks.checked blocks.all_checked blocks.of_blocks payload.payloads payload.payload walk.ends layout.before layout.step_of layout.in_order layout.laid_out_from layout.laid_out limits.is_finite limits.on_canvas limits.option_floats limits.limited_at limits.all_limited limits.limited values.step_in values.rescale_in values.not_above values.outside_bounds refusals.of_values refusals.of_records refusals.of_stream budget.allowance_of budget.grant_of budget.take_of densify.clamped densify.dist_of densify.flat_of densify.mid_of densify.first_half densify.second_half densify.leaf_of densify.split_of densify.flatten_cubic_of densify.cubics_of densify.form_points densify.same_point densify.close_ring_of densify.path_points_of densify.segment_parts densify.along_of densify.samples_to densify.segment_want densify.segment_of densify.segments_of densify.densify_polyline_of densify.by_tolerance densify.arc_vertices_of densify.round_to densify.ellipse_point densify.ellipse_ring_of densify.sharp_corners densify.corner_point densify.rounded_corners densify.quarter_of densify.box_ring_of points.flats points.points_of slices.put strokes.feature_of strokes.stroke_of strokes.draw_without_writing strokes.point_of strokes.fill_of strokes.shape_trace strokes.work_of strokes.polyline_or_polygon_of strokes.ring_trace convert.outline_of convert.path_of convert.paths_of convert.box_of convert.ellipse_of convert.circle_of convert.dot_of convert.shape_of kinds.entry_of kinds.not_drawn kinds.on_screen kinds.any_above kinds.unusable kinds.of_kind_table kinds.built_in convert.props_of convert.points_trace convert.paths_trace convert.drawn_of convert.item_of convert.items_of convert.spent_of convert.convert_of strokes.draws_in space.apply space.apply_all space.of_space geopic.trace_of geopic.output_of geopic.early geopic.conditions geopic.number_of geopic.answer_of geopic.clear geopic.slice_by geopic.buffers_after
everything = Unit {0}
