use Rattle.std.proofs.Common.{◌∙◌, rules, tests}
use Rattle.std.proofs.lemmas.Iterator.{YieldsList-from_slice}
use Rattle.std.proofs.lemmas.Iterator.Search.{all_from_yields_List}
use Rattle.records.specs.Records.{ascii_graphic}
use Rattle.records.proofs.Tests.{all_listed, graphic_is}
use Rattle.records.proofs.records.contiguous_ascii_graphic.Goals as goal

pub returns : goal.returns
returns c =
    all_from_yields_List ascii_graphic _ _ _ c.all.ensures.ran (YieldsList-from_slice _ c.iter.ensures.rest) (λ x b q k. search (rules, tests, graphic_is))
    ∙ all_listed ascii_graphic c.args.part.now c.args.at c.args.n c.requires
