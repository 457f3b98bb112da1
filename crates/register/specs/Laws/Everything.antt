-- What a registration is computed with, from its bytes to its floats: to unfold `everything` is to unfold all that its line names.
use Rattle.std.specs.Float.Ieee.{of_bits, to_bits, of_int, to_unsigned, neg, add, sub, mul, div, rem, lt, eq, le, ne, is_nan, sum, round, units, odd, size, climb, span}
use Rattle.float.specs.Functions as floatFunctions
use Rattle.float.specs.Horner as horner
use Rattle.root.specs.Root as roots
use Rattle.elementary.specs.Functions as elementaryFunctions
use Rattle.elementary.specs.Series as series
use Rattle.geodesy.specs.Geodesy as geodesy
use Rattle.fit.specs.Fit as fit
use Rattle.stream.specs.Numbers as numbers
use Rattle.stream.specs.Conditions as conditions
use Rattle.records.specs.Records as records
use Rattle.records.specs.Walk as walk
use Rattle.records.specs.Search as search
use Rattle.records.specs.Values as values
use Rattle.scene.specs.Scene as scene
use Rattle.scene.specs.Labels as labels
use Rattle.register.specs.Register as register

unfoldable pub everything : Type 0
unfolding floatFunctions.abs_of floatFunctions.max_of floatFunctions.min_of floatFunctions.trunc_of floatFunctions.ceil_of floatFunctions.round_of floatFunctions.rem_euclid360_of horner.horner roots.root_digits roots.isqrt roots.scaled roots.root_at roots.root_of elementaryFunctions.clamp_of elementaryFunctions.to_radians_of elementaryFunctions.to_degrees_of elementaryFunctions.hypot_of elementaryFunctions.rem_tau_of elementaryFunctions.quadrant_of elementaryFunctions.rest_of elementaryFunctions.sine_at elementaryFunctions.cosine_at elementaryFunctions.sin_of elementaryFunctions.cos_of elementaryFunctions.tan_of elementaryFunctions.ln_at elementaryFunctions.ln_of elementaryFunctions.two_to elementaryFunctions.exp_at elementaryFunctions.exp_of elementaryFunctions.half_angle_of elementaryFunctions.atan_small elementaryFunctions.atan_nonneg elementaryFunctions.atan_of elementaryFunctions.angle_of elementaryFunctions.half_plane_of elementaryFunctions.atan2_of elementaryFunctions.acos_of series.series_of series.even_of series.odd_of series.factorial series.quotient series.terms series.sine_table series.cosine_table series.logarithm_table series.exponential_table series.arctangent_table geodesy.normalize_lon_of geodesy.mercator_forward_of geodesy.mercator_inverse_of fit.projected_of fit.added fit.sums_of fit.divided_by fit.means_of fit.momented fit.moments_of fit.fit_at fit.solved_of fit.round_of fit.again fit.fit_projected fit.fit_of numbers.u16_at numbers.u32_at numbers.u64_at numbers.float_of numbers.float_at conditions.first_of records.ascii_graphic records.all_to records.named records.labelled records.named_then records.counted records.all_zero records.end_of records.rescale_of records.option_width records.option_fits records.option_of records.feature_of records.variable_of records.place_of records.values_width records.item_begins records.item_fits records.item_with records.item_of records.points_of records.path_with records.cubics_of records.polyline_of records.path_of records.by_tag records.record_of walk.entries records.bytes_at search.ends_search search.search_step_of search.records_of values.flatten_in scene.value_of scene.float_value_at scene.bit scene.point_at scene.points_at scene.cubic_at scene.cubics_at scene.feature_at scene.variable_at scene.place_at scene.form_at scene.path_at scene.item_with scene.item_at scene.scene_of labels.same_bytes labels.variable_of labels.sum_of labels.mean_of labels.mean_point labels.start_of labels.first_start labels.mean_or_start labels.reference_point labels.greater labels.consider labels.best_place labels.label_is labels.best_item labels.point_of_label register.is_mercator register.not_zero register.px_mode register.mentioned register.event_of register.feature_event register.feature_events register.is_lon register.lon_event register.variable_events register.events register.controls_in register.warnings_in register.controls_of register.both_of register.anchor_of register.half_anchor register.within_limits register.all_within_limits register.anchor_within_limits register.scale_value register.above0 register.effective_scale register.registration_by register.registration_of register.of_registration register.any_declared register.ignored_with register.view_warnings register.half_warnings register.register_warnings of_bits to_bits of_int to_unsigned neg add sub mul div rem lt eq le ne is_nan sum round units odd size climb span
everything = Unit {0}
