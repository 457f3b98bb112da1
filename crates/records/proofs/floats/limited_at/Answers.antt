use mathlib.Core.Path.{sym, ap, ◌∙◌}
use native.Mathlib.Omega.{arith}
use Rattle.records.specs.Records.{values_width}
use Rattle.records.specs.Laws.Walk.{got_size, got_has, got_cubics, got_polyline}
use Rattle.records.proofs.Near.{rescale_floats, option_floats_lem, feature_floats, variable_floats, place_floats, item_floats, points_floats, start-far, cubics_floats, polyline_floats}
use Rattle.records.proofs.floats.limited_at.Goals as goal

pub all_within_limit-requires : goal.all_within_limit-requires
all_within_limit-requires c = (c.requires.0, omega (arith, got_size _ c.requires.1.got c.in-Rescale.is))

pub all_within_limit-requires-in-Option : goal.all_within_limit-requires-in-Option
all_within_limit-requires-in-Option c = (c.requires.0, omega (arith, got_size _ c.requires.1.got c.in-Option.is))

pub all_within_limit-requires-in-Feature : goal.all_within_limit-requires-in-Feature
all_within_limit-requires-in-Feature c = (c.requires.0, omega (arith, got_size _ c.requires.1.got c.in-Feature.is))

pub all_within_limit-requires-in-Variable : goal.all_within_limit-requires-in-Variable
all_within_limit-requires-in-Variable c = (c.requires.0, omega (arith, got_size _ c.requires.1.got c.in-Variable.is))

pub all_within_limit-requires-in-Place : goal.all_within_limit-requires-in-Place
all_within_limit-requires-in-Place c = (c.requires.0, omega (arith, got_size _ c.requires.1.got c.in-Place.is))

pub values_width-requires : goal.values_width-requires
values_width-requires c = omega (arith, got_has _ c.requires.1.got c.in-Item.is)

pub all_within_limit-requires-in-Item : goal.all_within_limit-requires-in-Item
all_within_limit-requires-in-Item c = (c.requires.0, omega (arith, got_size _ c.requires.1.got c.in-Item.is, c.values_width.ensures.0 ∙ ap values_width c.from-in-Item-2.ensures))

pub all_within_limit-requires-in-Points : goal.all_within_limit-requires-in-Points
all_within_limit-requires-in-Points c = (c.requires.0, omega (arith, got_size _ c.requires.1.got c.in-Points.is))

pub all_within_limit-requires-then-form : goal.all_within_limit-requires-then-form
all_within_limit-requires-then-form c = (c.requires.0, omega (arith, got_cubics _ c.requires.1.got c.in-Path.is c.if-form.true))

pub all_within_limit-requires-then-all_within_limit : goal.all_within_limit-requires-then-all_within_limit
all_within_limit-requires-then-all_within_limit c = (c.requires.0, omega (arith, got_cubics _ c.requires.1.got c.in-Path.is c.if-form.true))

pub all_within_limit-requires-else-form : goal.all_within_limit-requires-else-form
all_within_limit-requires-else-form c = (c.requires.0, omega (arith, got_polyline _ c.requires.1.got c.in-Path.is c.if-form.false))

pub returns-in-Rescale : goal.returns-in-Rescale
returns-in-Rescale c = rescale_floats _ c.in-Rescale.is c.all_within_limit.ensures

pub returns-in-Option : goal.returns-in-Option
returns-in-Option c = option_floats_lem _ c.in-Option.is c.option_width.ensures.0 c.all_within_limit-in-Option.ensures

pub returns-in-Feature : goal.returns-in-Feature
returns-in-Feature c = feature_floats _ c.in-Feature.is c.from.ensures c.all_within_limit-in-Feature.ensures

pub returns-in-Variable : goal.returns-in-Variable
returns-in-Variable c = variable_floats _ c.in-Variable.is c.from-in-Variable.ensures c.all_within_limit-in-Variable.ensures

pub returns-in-Place : goal.returns-in-Place
returns-in-Place c = place_floats _ c.in-Place.is c.from-in-Place.ensures c.all_within_limit-in-Place.ensures

pub returns-in-Item : goal.returns-in-Item
returns-in-Item c = item_floats _ c.in-Item.is c.from-in-Item.ensures c.from-in-Item-2.ensures c.values_width.ensures.0 c.all_within_limit-in-Item.ensures

pub returns-in-Points : goal.returns-in-Points
returns-in-Points c = points_floats _ c.in-Points.is c.from-in-Points.ensures c.all_within_limit-in-Points.ensures

pub returns-then-all_within_limit : goal.returns-then-all_within_limit
returns-then-all_within_limit c = cubics_floats _ c.in-Path.is c.if-form.true c.from-then-all_within_limit.ensures (sym c.all_within_limit-then-form.ensures ∙ c.if-all_within_limit.true) c.all_within_limit-then-all_within_limit.ensures

pub returns-else-all_within_limit : goal.returns-else-all_within_limit
returns-else-all_within_limit c = start-far _ c.in-Path.is c.if-form.true c.all_within_limit-then-form.ensures c.if-all_within_limit.false

pub returns-else-form : goal.returns-else-form
returns-else-form c = polyline_floats _ c.in-Path.is c.if-form.false c.from-else-form.ensures c.all_within_limit-else-form.ensures
