use Rattle.std.proofs.Common.{sym, ◌∙◌}
use Rattle.std.proofs.lemmas.List.{at_drop_more, at_drop_all}
use Rattle.fit.specs.Fit.{moments_of}
use Rattle.fit.proofs.moments_of.Goals as goal

pub loop-m-preserved : goal.loop-m-preserved
unfolding moments_of
loop-m-preserved c =
    rw c.add_moment-s.ensures (sym (at_drop_more (λ ms. moments_of c.args.a c.args.c ms c.loop-m.s) _ _ _ c.loop-m-test.true) ∙ c.loop-m.invariant)

pub returns : goal.returns
unfolding moments_of
returns c = sym (at_drop_all (λ ms. moments_of c.args.a c.args.c ms c.loop-m.s) _ _ c.loop-m-test.false) ∙ c.loop-m.invariant
