use Rattle.kind_table.specs.Laws.KindTable.{entry_within, entry_none}
use Rattle.kind_table.proofs.entry_of.Goals as goal

pub returns-then-k-kinds : goal.returns-then-k-kinds
returns-then-k-kinds c = entry_within _ _ c.if-k-kinds.true

pub returns-else-k-kinds : goal.returns-else-k-kinds
returns-else-k-kinds c = entry_none _ _ c.if-k-kinds.false
