use mathlib.Core.Path.{◌≡◌, refl, sym, ◌∙◌}
use mathlib.Core.List.{List}
use Prim.Native.Nat.{ℕ, ◌+◌, ◌≤◌}
use native.Mathlib.Omega.{arith}
use lib.ListN.{drop}
use Rattle.stream.specs.Payload.{payload}
use Rattle.stream.specs.Inner.Payload.{room}
use Rattle.records.specs.declared.records.Record.{Record}
use Rattle.records.specs.declared.records.Step.{Step}
use Rattle.records.specs.declared.records.Step.TheVariants.{Got}
use Rattle.records.specs.declared.search.SearchStep.{SearchStep}
use Rattle.records.specs.declared.search.SearchStep.TheVariants.{Skip}
use Rattle.records.specs.Records.{record_of}
use Rattle.records.specs.Search.{search_step_of, with_found}
use Rattle.records.specs.Inner.Hits.{records_at, SkipsTo}
use Rattle.records.specs.Laws.Walk.{got_room}
use Rattle.records.specs.Laws.Search.{search_none, search_got, search_over, here, not-greater, passed_over}
use Rattle.records.proofs.search.find.Goals as goal

-- a record stands at the position
module _ (s : List ℕ) (q : ℕ) {r : Record} {size : ℕ} {x : Step} (answered : x ≡ record_of (drop q (payload s))) (is : x ≡ Got r size) where
  got : record_of (drop q (payload s)) ≡ Got r size
  got = sym answered ∙ is

  within : (1 ≤ size) × (q + size ≤ room s)
  within = got_room s q got

  module _ (p tag key : ℕ) {turn y : SearchStep} (e : turn ≡ search_step_of tag key r) (is_turn : turn ≡ y) where
    onward : records_at (payload s) p tag key ≡ records_at (payload s) q tag key
        → records_at (payload s) p tag key ≡ with_found y (drop q (payload s)) (records_at (payload s) (q + size) tag key)
    onward i = i ∙ rw (← is_turn, e) (search_got (payload s) q tag key got)

    -- it has no greater tag
    later : y ≡ Skip → SkipsTo (payload s) tag p q → SkipsTo (payload s) tag p (q + size)
    later skip before t k a b = before t k a b ∙ passed_over (payload s) q t k got (omega (arith, not-greater tag key r (sym e ∙ is_turn ∙ skip) (omega arith))) b

pub returns-then-is_search_over-clause-key_value : goal.returns-then-is_search_over-clause-key_value
returns-then-is_search_over-clause-key_value c = c.loop-p.invariant.1 ∙ search_over _ c.loop-p.q _ _ c.tag_at.ensures (sym c.is_search_over.ensures ∙ c.if-is_search_over.true)

pub returns-in_default : goal.returns-in_default
returns-in_default c =
    record { key_value = c.loop-p.invariant.1 ∙ search_none _ c.loop-p.q _ _ (sym c.record_at.ensures) c.in_default.not-Got; record_at = tt; p_le_at = c.loop-p.invariant.0; skips_to = c.loop-p.invariant.2 }

pub overflow_add-result : goal.overflow_add-result
overflow_add-result c = omega (arith, within c.args.s.now c.loop-p.q c.record_at.ensures c.in-Got.is)

pub returns-in-Matches-clause-key_value : goal.returns-in-Matches-clause-key_value
returns-in-Matches-clause-key_value c = onward _ c.loop-p.q c.record_at.ensures c.in-Got.is _ _ _ c.search_step.ensures c.in-Matches.is c.loop-p.invariant.1

pub returns-in-Matches-clause-record_at : goal.returns-in-Matches-clause-record_at
returns-in-Matches-clause-record_at c =
    let asked = here _ _ _ (sym c.search_step.ensures ∙ c.in-Matches.is) in
    record { is = c.in-Got.r; size = c.in-Got.k; got = got _ _ c.record_at.ensures c.in-Got.is; ends = refl; tag = asked.0; key = asked.1 }

pub returns-in-Over-clause-key_value : goal.returns-in-Over-clause-key_value
returns-in-Over-clause-key_value c = onward _ c.loop-p.q c.record_at.ensures c.in-Got.is _ _ _ c.search_step.ensures c.in-Over.is c.loop-p.invariant.1

pub overflow_add-q : goal.overflow_add-q
overflow_add-q c = omega (arith, within c.args.s.now c.loop-p.q c.record_at.ensures c.in-Got.is)

pub loop-p-smaller : goal.loop-p-smaller
loop-p-smaller c = omega (arith, within c.args.s.now c.loop-p.q c.record_at.ensures c.in-Got.is)

pub loop-p-preserved : goal.loop-p-preserved
loop-p-preserved c = (
  omega arith,
  onward _ c.loop-p.q c.record_at.ensures c.in-Got.is _ _ _ c.search_step.ensures c.in-Skip.is c.loop-p.invariant.1,
  later _ c.loop-p.q c.record_at.ensures c.in-Got.is _ _ _ c.search_step.ensures c.in-Skip.is refl c.loop-p.invariant.2,
)
