use borrow.Author.Tests.{eq-eqb, ne_eqb}
use mathlib.Core.Path.{◌≡◌, refl, sym, ◌∙◌}
use mathlib.Core.Bool.{false, ◌&&◌}
use lib.Dec.{eqb}
use Rattle.records.specs.Walk.{tag_of}
use Rattle.records.specs.Search.{key_of, search_step_of}
use Rattle.records.proofs.search.search_step.Goals as goal
use Rattle.records.proofs.search.search_step.Goals.{then-x-tag+else-key_of-key, else-x-tag}

pub returns-then-key_of-key : goal.returns-then-key_of-key
unfolding search_step_of
returns-then-key_of-key c =
    rw (eq-eqb _ _ (sym (c.number-x.ensures ∙ c.tag_of.ensures) ∙ c.if-x-tag.true), eq-eqb _ _ (sym c.key_of.ensures ∙ c.if-key_of-key.true)) refl

pub returns-then-ends_search : goal.returns-then-ends_search
unfolding search_step_of
returns-then-ends_search c =
    let other : (eqb (tag_of c.args.r) c.args.tag && eqb (key_of c.args.r) c.args.key) ≡ false = elim c.if-x-tag.branch [
      | then-x-tag+else-key_of-key w ↦
          rw (eq-eqb _ _ (sym (c.number-x.ensures ∙ c.tag_of.ensures) ∙ w.if-x-tag.true), ne_eqb _ _ (λ e. w.if-key_of-key.false (w.key_of.ensures ∙ e))) refl
      | else-x-tag w ↦ rw (ne_eqb _ _ (λ e. w.if-x-tag.false (c.number-x.ensures ∙ c.tag_of.ensures ∙ e))) refl
    ] in
    rw (other, ← (c.number-x.ensures ∙ c.tag_of.ensures), ← c.ends_search.ensures, c.if-ends_search.true) refl

pub returns : goal.returns
unfolding search_step_of
returns c =
    let other : (eqb (tag_of c.args.r) c.args.tag && eqb (key_of c.args.r) c.args.key) ≡ false = elim c.if-x-tag.branch [
      | then-x-tag+else-key_of-key w ↦
          rw (eq-eqb _ _ (sym (c.number-x.ensures ∙ c.tag_of.ensures) ∙ w.if-x-tag.true), ne_eqb _ _ (λ e. w.if-key_of-key.false (w.key_of.ensures ∙ e))) refl
      | else-x-tag w ↦ rw (ne_eqb _ _ (λ e. w.if-x-tag.false (c.number-x.ensures ∙ c.tag_of.ensures ∙ e))) refl
    ] in
    rw (other, ← (c.number-x.ensures ∙ c.tag_of.ensures), ← c.ends_search.ensures, c.if-ends_search.false) refl
