use mathlib.Core.Path.{sym}
use native.Mathlib.Omega.{arith}
use lib.ListN.{get_or-eq_default}
use Rattle.stream.specs.Payload.{payload}
use Rattle.stream.specs.Inner.Payload.{rest}
use Rattle.stream.specs.Laws.Payload.{payload-length, rest-length}
use Rattle.records.proofs.search.tag_at.Goals as goal

pub returns-then-q-remaining : goal.returns-then-q-remaining
returns-then-q-remaining c = let s = c.args.s.now in
    sym (get_or-eq_default (payload s) 0 (omega (arith, payload-length s, rest-length s 0)))

pub returns : goal.returns
unfolding rest
returns c = c.byte.ensures
