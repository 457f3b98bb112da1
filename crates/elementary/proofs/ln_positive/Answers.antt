use Rattle.std.proofs.Common.{T, sym, ◌∙◌, subst}
use lib.Ieee.{binary64, fits}
use Rattle.float.specs.Laws.Units.{positive_bits}
use Rattle.elementary.proofs.Logarithm.{positive_number, pattern_no_nan, exponent_fits, ln_decomposed}
use Rattle.elementary.proofs.ln_positive.Goals as goal

pub float_to_bits-v : goal.float_to_bits-v
float_to_bits-v c = positive_number c.args.v c.requires

pub decompose-p-requires : goal.decompose-p-requires
decompose-p-requires c =
    let held : T (fits binary64 c.args.v) = subst T (sym c.well_formed.0.1) tt in
    positive_bits c.args.v c.requires held

pub float_from_bits-m : goal.float_from_bits-m
float_from_bits-m c = pattern_no_nan c.decompose-p.result.m c.decompose-p.ensures.full c.decompose-p.ensures.small

pub int_to_float-e : goal.int_to_float-e
int_to_float-e c = exponent_fits c.decompose-p.result.e c.decompose-p.ensures.high

pub returns : goal.returns
returns c =
    let held : T (fits binary64 c.args.v) = subst T (sym c.well_formed.0.1) tt in
    c.ln_at.ensures ∙ ln_decomposed c.args.v c.decompose-p.result.m c.decompose-p.result.e c.requires held c.decompose-p.ensures
