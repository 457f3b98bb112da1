use Prim.Native.Nat.{◌<◌}
use mathlib.Core.Path.{sym, ◌∙◌}
use native.Mathlib.Omega.{arith}
use Rattle.records.specs.Laws.Records.{counted_fits}
use Rattle.records.proofs.Cases.{some_told, form_is, form_not, product}
use Rattle.records.proofs.records.read_form.Goals as goal

pub returns-in_default : goal.returns-in_default
returns-in_default c = form_not _ _ _ _ (sym c.count_at.ensures ∙ c.in_default.is)

pub byte-role-requires : goal.byte-role-requires
byte-role-requires c = (omega arith, omega (arith, counted_fits _ _ _ (some_told _ _ _ (sym c.count_at.ensures ∙ c.in-Some.is)).0))

pub byte-closed-requires : goal.byte-closed-requires
byte-closed-requires c = (omega arith, omega (arith, counted_fits _ _ _ (some_told _ _ _ (sym c.count_at.ensures ∙ c.in-Some.is)).0))

pub overflow_mul-result : goal.overflow_mul-result
overflow_mul-result c = let short : c.from.result < 65536 = omega arith in
    omega (arith, product c.requires.1.short short)

pub overflow_add-result-2 : goal.overflow_add-result-2
overflow_add-result-2 c = let short : c.from.result < 65536 = omega arith in
    omega (arith, product c.requires.1.short short)

pub returns : goal.returns
returns c = rw (← c.number.ensures) (form_is _ _ _ _ (sym c.count_at.ensures ∙ c.in-Some.is) c.byte-role.ensures c.byte-closed.ensures c.from.ensures)
