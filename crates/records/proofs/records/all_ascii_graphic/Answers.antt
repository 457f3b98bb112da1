use mathlib.Core.Path.{◌∙◌, ap}
use native.Mathlib.Omega.{arith}
use Rattle.stream.specs.Laws.Payload.{within}
use Rattle.records.specs.Records.{ascii_graphic}
use Rattle.records.proofs.Tests.{all_to_same}
use Rattle.records.proofs.records.all_ascii_graphic.Goals as goal

pub contiguous_at-requires : goal.contiguous_at-requires
contiguous_at-requires c = omega (arith, within _ _ _ _ c.requires.0 c.requires.1)

pub returns-in-Ok : goal.returns-in-Ok
returns-in-Ok c = let so = c.in-Ok.ensures.are_contiguous _ c.requires.0 c.requires.1 in
    c.contiguous_ascii_graphic.ensures ∙ all_to_same _ _ _ (λ k h. ap ascii_graphic (so.same k h))
