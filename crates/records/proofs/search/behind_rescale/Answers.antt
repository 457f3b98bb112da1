use mathlib.Core.Path.{◌≡◌, refl, sym, ◌∙◌}
use mathlib.Core.List.{List}
use Prim.Native.Nat.{ℕ, ◌≤◌}
use native.Mathlib.Omega.{arith}
use lib.ListN.{length, get_or}
use Rattle.stream.specs.Payload.{payload}
use Rattle.stream.specs.Laws.Payload.{payload-length, rest-length}
use Rattle.records.specs.Records.{by_tag}
use Rattle.records.specs.Inner.Hits.{SkipsTo}
use Rattle.records.specs.Laws.Search.{passed_over}
use Rattle.records.proofs.Cases.{rescale-is, record_is}
use Rattle.records.proofs.search.behind_rescale.Goals as goal

-- rescale stands first
behind : (l : List ℕ) → get_or l 0 0 ≡ 1 → 9 ≤ length l → SkipsTo l 1 0 9
unfolding by_tag
behind l e h t k a m = passed_over l 0 t k (sym (record_is l (omega arith) e (rescale-is l h))) a m

pub returns-then-tag_at : goal.returns-then-tag_at
returns-then-tag_at c t k a m = refl

pub returns-then-remaining-lt9 : goal.returns-then-remaining-lt9
returns-then-remaining-lt9 c t k a m = refl

pub returns : goal.returns
returns c = let s = c.args.s.now in
    behind (payload s) (sym c.tag_at.ensures ∙ omega arith) (omega (arith, payload-length s, rest-length s 0))
