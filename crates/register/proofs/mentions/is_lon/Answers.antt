use borrow.Author.Tests.{lt-leb}
use mathlib.Core.Path.{refl, sym, ◌∙◌}
use mathlib.Core.Bool.{false≢true}
use Rattle.register.proofs.LonNames.{too_short, lon_by_parts}
use Rattle.register.proofs.mentions.is_lon.Goals as goal
use Rattle.register.proofs.mentions.is_lon.Goals.{then-n-ge4, else-n-ge4}

pub returns-then-name_is : goal.returns-then-name_is
returns-then-name_is c =
    elim c.if-n-ge4.branch [
      | then-n-ge4 w ↦ rw (lon_by_parts c.args.s.now c.args.at c.args.n c.requires w.if-n-ge4.true, ← w.name_is.ensures, ← w.value-is, c.if-name_is.true, ← c.name_is-then-name_is.ensures) refl
      | else-n-ge4 w ↦ absurd (false≢true (sym (lt-leb 4 c.args.n w.if-n-ge4.false) ∙ sym w.value-is ∙ c.if-name_is.true))
    ]

pub returns-else-name_is : goal.returns-else-name_is
returns-else-name_is c =
    elim c.if-n-ge4.branch [
      | then-n-ge4 w ↦ rw (lon_by_parts c.args.s.now c.args.at c.args.n c.requires w.if-n-ge4.true, ← w.name_is.ensures, ← w.value-is, c.if-name_is.false) refl
      | else-n-ge4 w ↦ rw c.if-name_is.false (too_short c.args.s.now c.args.at c.args.n c.requires w.if-n-ge4.false)
    ]
