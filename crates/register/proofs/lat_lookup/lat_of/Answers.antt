use mathlib.Core.Path.{sym, ◌∙◌}
use mathlib.Core.List.{[]}
use Rattle.register.proofs.SuffixNames.{no_more, rises_on, this_one, later-one, none_behind}
use Rattle.register.proofs.lat_lookup.lat_of.Goals as goal

pub returns-then-is_lat : goal.returns-then-is_lat
returns-then-is_lat c = this_one _ _ c.loop-v.q c.in-Ok.v c.in-Ok.ensures.p_value c.is_lat.ensures c.if-is_lat.true ∙ sym c.loop-v.invariant.0

pub returns-then-v-n : goal.returns-then-v-n
returns-then-v-n c =
    let d = c.loop-v.invariant in
    let e = c.in-Ok.ensures.p_value in
    sym (d.0 ∙ later-one _ _ c.loop-v.q c.in-Ok.v e c.is_lat.ensures c.if-is_lat.false ∙ none_behind [] _ c.loop-v.q c.in-Ok.v e c.args.at c.args.n d.1 c.requires.1 c.if-v-at.true c.if-v-n.true)

pub loop-v-preserved : goal.loop-v-preserved
loop-v-preserved c =
    let d = c.loop-v.invariant in
    let e = c.in-Ok.ensures.p_value in
    (d.0 ∙ later-one _ _ c.loop-v.q c.in-Ok.v e c.is_lat.ensures c.if-is_lat.false, rises_on [] _ c.loop-v.q c.in-Ok.v e d.1)

pub returns : goal.returns
returns c = sym (c.loop-v.invariant.0 ∙ no_more _ _ c.loop-v.q c.in_default.ensures.p_value)
