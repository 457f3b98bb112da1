use native.Mathlib.Omega.{arith}
use Rattle.register.specs.Inner.LatLookup.{FirstVariable}
use Rattle.register.proofs.VariableSteps.{long, suffix, start_rises}
use Rattle.register.proofs.MentionLists.{no_lon, on_other, one_lon}
use Rattle.register.proofs.mentions.next_lon.Goals as goal

pub overflow_sub-from : goal.overflow_sub-from
overflow_sub-from c = omega (arith, long c.pass_variable.ensures c.is_lon.ensures c.if-is_lon.true)

pub overflow_sub-v : goal.overflow_sub-v
overflow_sub-v c = long c.pass_variable.ensures c.is_lon.ensures c.if-is_lon.true

pub overflow_sub-result : goal.overflow_sub-result
overflow_sub-result c = long c.pass_variable.ensures c.is_lon.ensures c.if-is_lon.true

pub lat_of-requires : goal.lat_of-requires
lat_of-requires c =
    let a = c.pass_variable.ensures in
    let e = c.is_lon.ensures in
    let h = c.if-is_lon.true in
    (omega (arith, long a e h, a.within), suffix a e h, start_rises a e h)

pub returns-then-is_lon : goal.returns-then-is_lon
returns-then-is_lon c =
    let f : FirstVariable c.args.s.now c.loop-v.c.q c.in-Ok.v = record { lists = c.in-Ok.ensures.p_value; within = c.in-Ok.ensures.within; prefixed = c.in-Ok.ensures.length_prefixed } in
    one_lon c.loop-v.invariant f c.pass_variable.ensures c.is_lon.ensures c.if-is_lon.true _ c.lat_of.ensures

pub loop-v-preserved : goal.loop-v-preserved
loop-v-preserved c =
    let f : FirstVariable c.args.s.now c.loop-v.c.q c.in-Ok.v = record { lists = c.in-Ok.ensures.p_value; within = c.in-Ok.ensures.within; prefixed = c.in-Ok.ensures.length_prefixed } in
    on_other c.loop-v.invariant f c.pass_variable.ensures c.is_lon.ensures c.if-is_lon.false

pub returns : goal.returns
returns c = no_lon c.loop-v.invariant c.in_default.ensures.p_value
