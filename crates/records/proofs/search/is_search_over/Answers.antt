use borrow.Author.Tests.{eq-eqb, ne_eqb}
use mathlib.Core.Path.{refl}
use Rattle.records.proofs.search.is_search_over.Goals as goal

pub returns-then-x : goal.returns-then-x
returns-then-x c = rw (eq-eqb _ 0 c.if-x.true) refl

pub returns : goal.returns
returns c = rw (ne_eqb _ 0 c.if-x.false) c.ends_search.ensures
