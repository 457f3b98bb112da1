use native.Mathlib.Omega.{arith}
use lib.ListN.{length-set}
use Rattle.std.proofs.Common.{refl}
use Rattle.std.proofs.lemmas.Result.{err_from_is_err_and}
use Rattle.values.specs.Laws.Warnings.{push_shut, push_full, push_more}
use Rattle.values.proofs.warning.push_warning.Goals as goal

pub returns-in_err-used : goal.returns-in_err-used
returns-in_err-used c =
    let failed = err_from_is_err_and c.from_residual.result c.from_residual.ensures.1 in
    rw (failed.1, failed.2, c.in_err-used.was) (push_shut _ _ _ refl)

pub returns-then-out-used-lt2 : goal.returns-then-out-used-lt2
returns-then-out-used-lt2 c = rw c.in_ok-used.was (push_full _ _ _ refl (rw c.in_ok-used.was at c.requires) c.if-out-used-lt2.true)

pub bounds-out-used-2 : goal.bounds-out-used-2
bounds-out-used-2 c = simp length-set (omega arith)

pub returns : goal.returns
returns c = rw c.in_ok-used.was (push_more _ _ _ refl (rw c.in_ok-used.was at c.requires) c.if-out-used-lt2.false)
