use mathlib.Core.Path.{refl}
use Rattle.std.specs.Prelude.{Ok}
use Rattle.values.specs.Inner.Refusals.{kind_of}
use Rattle.values.specs.Warnings.{Warning}
use Rattle.values.specs.declared.refusal.Refusal.TheVariants.{WarningRoom}
use Rattle.strokes.specs.Inner.Space.{output_by}
use Rattle.std.proofs.lemmas.Result.{err_from_is_err_and}
use Rattle.strokes.specs.Laws.Applying.{applied_err}
use Rattle.strokes.specs.Laws.Events.{pushed_fits, pushed_lacks}
use Rattle.strokes.proofs.state.warn.Goals as goal

pub returns-in_err-used : goal.returns-in_err-used
returns-in_err-used c w q f h = let s = c.args in
    let told : Warning = record { kind = kind_of s.kind; index = s.index } in
    let p = err_from_is_err_and c.from_residual.result c.from_residual.ensures.1 in
    rw (p.1, p.2) (applied_err WarningRoom refl (pushed_lacks told (output_by w q f s.warnings.now (Ok s.st)) s.st.budget refl h (rw c.number.ensures at c.in_err-used.ensures) refl))

pub returns : goal.returns
returns c w p f h = let s = c.args in
    pushed_fits (record { kind = kind_of s.kind; index = s.index }) (output_by w p f s.warnings.now (Ok s.st)) s.st.budget refl h (rw c.number.ensures at c.in_ok-used.ensures) refl
