use mathlib.Core.Path.{◌∙◌}
use Rattle.scene.specs.Inner.Answers.{key_by}
use Rattle.scene.proofs.Keys.{at_most, stays, replaces}
use Rattle.scene.proofs.labels.consider_point.Goals as goal

pub returns-in-Some : goal.returns-in-Some
returns-in-Some c =
    let old = c.in-Some in
    rw old.is (stays _ (key_by c.args.key) c.args.at (rw old.old-is at c.le.ensures ∙ at_most (key_by c.args.key) (key_by old.old.key)) c.if-le.true)

pub returns-in_default : goal.returns-in_default
returns-in_default c =
    let old = c.in-Some in
    rw old.is (replaces _ (key_by c.args.key) c.args.at (rw old.old-is at c.le.ensures ∙ at_most (key_by c.args.key) (key_by old.old.key)) c.if-le.false)
