use borrow.Author.Rules.{rules}
use native.Mathlib.Omega.{arith}
use mathlib.Core.Path.{◌∙◌, sym}
use Rattle.records.specs.Laws.Records.{begins_fits}
use Rattle.records.proofs.Cases.{item_has, item-is, item_long, item-not, item-short}
use Rattle.records.proofs.records.read_item.Goals as goal

pub returns-then-not-item_begins : goal.returns-then-not-item_begins
returns-then-not-item_begins c = item-not _ (sym c.item_begins.ensures ∙ c.if-not-item_begins.true)

pub byte-kind-requires : goal.byte-kind-requires
byte-kind-requires c = (search rules, omega (arith, begins_fits _ (sym c.item_begins.ensures ∙ c.if-not-item_begins.false)))

pub byte-flags-requires : goal.byte-flags-requires
byte-flags-requires c = (search rules, omega (arith, begins_fits _ (sym c.item_begins.ensures ∙ c.if-not-item_begins.false)))

pub byte-label-requires : goal.byte-label-requires
byte-label-requires c = (search rules, omega (arith, begins_fits _ (sym c.item_begins.ensures ∙ c.if-not-item_begins.false)))

pub returns-then-len-n : goal.returns-then-len-n
returns-then-len-n c = item-short _ (omega arith)

pub returns-then-has-ge32 : goal.returns-then-has-ge32
returns-then-has-ge32 c = item_has _ (c.from-n.ensures ∙ c.byte-label.ensures) c.byte-has.ensures (omega arith)

pub returns-then-len-size : goal.returns-then-len-size
returns-then-len-size c = item_long _ (c.from-n.ensures ∙ c.byte-label.ensures) (c.from.ensures ∙ c.byte-has.ensures) (omega arith)

pub returns : goal.returns
returns c = item-is _ (search rules) (search rules) (search rules) c.from-n.ensures c.byte-has.ensures c.from.ensures c.values_width.ensures.0
    (sym c.item_begins.ensures ∙ c.if-not-item_begins.false) (omega arith) (omega arith)
