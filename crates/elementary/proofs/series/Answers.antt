use Rattle.std.proofs.Common.{◌≡◌, ◌<◌, ◌≢◌, length, get_or, sym, ◌∙◌, arith, rules, below_more, get_or-set_other, get_or-set_same, length-set}
use Rattle.std.proofs.lemmas.List.{length-replicate, get_or-replicate, at_drop_all}
use Rattle.std.specs.Float.{nan, binary64}
use Rattle.std.specs.Float.Ieee.{add, mul}
use Rattle.float.specs.Horner.{horner}
use Rattle.float.specs.Laws.Horner.{horner-step}
use Rattle.elementary.specs.Series.{series_of}
use Rattle.elementary.proofs.Horner.{empty, each}
use Rattle.elementary.proofs.series.Goals as goal

pub returns-in_default : goal.returns-in_default
returns-in_default g c =
    let n : length c.args.v ≡ g.row.N = search rules in
    each (series_of c.args.t.now) _ c.args.v (length-replicate _ _ ∙ sym n)
    (λ k h. get_or-replicate g.row.N k _ nan (omega arith) ∙ empty c.args.t.now (get_or c.args.v k nan) c.in_default.ensures.cases)

pub loop-c-init : goal.loop-c-init
unfolding series_of
loop-c-init g c =
    let n : length c.args.v ≡ g.row.N = search rules in
    let t = c.in-Some.ensures.cases.0 in
    (length-replicate _ _ ∙ sym n, λ k h. rw (get_or-replicate g.row.N k c.in-Some.first.now nan (omega arith), t))

pub loop-k-preserved : goal.loop-k-preserved
loop-k-preserved g c =
    let l = c.loop-k in
    let i = c.loop-c.c-index in
    let n : length c.args.v ≡ g.row.N = search rules in
    let b : l.k < length l.acc = omega arith in
    let made = add binary64 (mul binary64 (get_or l.acc l.k nan) (get_or c.args.v l.k nan)) (get_or c.in-Some.rest.now i nan) in (
      simp length-set l.invariant.0,
      below_more _ _
          (λ j h. let o : j ≢ l.k = omega arith in rw (get_or-set_other l.acc l.k j made nan o) (l.invariant.1 j h))
          (rw (get_or-set_same l.acc l.k made nan b) (sym (horner-step (get_or l.acc l.k nan) (get_or c.args.v l.k nan) c.in-Some.rest.now i c.loop-c-test.true) ∙ l.invariant.2 l.k (omega arith) (omega arith))),
      λ j h m. let o : j ≢ l.k = omega arith in rw (get_or-set_other l.acc l.k j made nan o) (l.invariant.2 j (omega arith) m),
    )

pub returns : goal.returns
unfolding horner
returns g c =
    let l = c.loop-c in
    each (series_of c.args.t.now) l.acc c.args.v l.invariant.0
    (λ k h. sym (at_drop_all (λ cs. horner (get_or l.acc k nan) cs (get_or c.args.v k nan)) c.in-Some.rest.now l.c-index c.loop-c-test.false) ∙ l.invariant.1 k h)
