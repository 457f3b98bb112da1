use Rattle.std.proofs.lemmas.Result.{err_from_is_err_and}
use Rattle.register.specs.Register.{ignored_with}
use Rattle.register.proofs.PushedWarnings.{none_written, both_written, first_shut, ignored_split}
use Rattle.register.proofs.warnings.warn_ignored.Goals as goal

pub returns-then-n-eq0 : goal.returns-then-n-eq0
unfolding ignored_with
returns-then-n-eq0 c = λ sc x. rw c.if-n-eq0.true (none_written c.requires)

pub returns-in_err-used : goal.returns-in_err-used
returns-in_err-used c = λ sc x.
    let p = err_from_is_err_and c.from_residual.result c.from_residual.ensures.1 in
    rw (p.1, p.2, ignored_split c.args.n sc c.if-n-eq0.false, ← c.ignores_declared.ensures sc x) (first_shut _ c.in_err-used.ensures)

pub returns : goal.returns
returns c = λ sc x.
    rw (ignored_split c.args.n sc c.if-n-eq0.false, ← c.ignores_declared.ensures sc x, ← x.anchor, ← c.is_some.ensures) (both_written c.in_ok-used.ensures c.warn_if-2.ensures)
