use borrow.Author.Tests.{lt-ltb, le-ltb}
use mathlib.Core.Path.{refl}
use native.Mathlib.Omega.{arith}
use Rattle.records.specs.Search.{ends_search}
use Rattle.records.proofs.search.ends_search.Goals as goal

pub returns-then-t : goal.returns-then-t
unfolding ends_search
returns-then-t c = rw (lt-ltb _ 6 c.if-t.true) refl

pub returns-then-t-2 : goal.returns-then-t-2
unfolding ends_search
returns-then-t-2 c = rw c.if-t-2.true refl

pub returns : goal.returns
unfolding ends_search
returns c = rw (le-ltb _ 6 c.if-t.false, lt-ltb 6 c.args.t (omega arith)) refl
