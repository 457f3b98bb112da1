use Rattle.std.proofs.Common.{ltb, ◌∙◌, rules, tests}
use Rattle.std.proofs.lemmas.Iterator.{YieldsList-from_slice}
use Rattle.std.proofs.lemmas.Iterator.Search.{any_from_yields_List}
use Rattle.kind_table.specs.Laws.KindTable.{any_above_listed}
use Rattle.kind_table.proofs.is_any_above.Goals as goal

pub returns : goal.returns
returns c =
    any_from_yields_List (ltb 2) _ _ _ c.any.ensures.ran (YieldsList-from_slice c.args.kinds.now cc) (λ x b q k. search (rules, tests))
    ∙ any_above_listed c.args.kinds.now
