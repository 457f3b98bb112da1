use Rattle.std.proofs.Common.{◌≡◌, sym, ◌∙◌}
use Rattle.std.proofs.lemmas.List.{at_drop_more, at_drop_all}
use Rattle.fit.specs.Fit.{no_sums, sums_of}
use Rattle.fit.specs.Laws.Projected.{means_all}
use Rattle.fit.proofs.means_of.Goals as goal

pub loop-m-preserved : goal.loop-m-preserved
unfolding sums_of
loop-m-preserved c =
    rw c.add_control-s.ensures (sym (at_drop_more (λ ms. sums_of c.args.a ms c.loop-m.s) _ _ _ c.loop-m-test.true) ∙ c.loop-m.invariant)

pub returns : goal.returns
unfolding sums_of
returns c =
    let s : c.loop-m.s ≡ sums_of c.args.a c.args.projected.now no_sums = sym (at_drop_all (λ ms. sums_of c.args.a ms c.loop-m.s) _ _ c.loop-m-test.false) ∙ c.loop-m.invariant in
    means_all _ _ s c.divide.ensures
