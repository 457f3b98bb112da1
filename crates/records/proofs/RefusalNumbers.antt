-- Each number of a refusal, from the tests that lead to it. Assumes nothing.
use mathlib.Core.Path.{◌≡◌, refl, sym, ◌∙◌}
use mathlib.Core.Bool.{true, false, not}
use mathlib.Core.List.{List}
use Prim.Native.Nat.{ℕ, ◌%◌, ◌≤◌}
use native.Mathlib.Omega.{arith}
use lib.ListN.{length}
use lib.Dec.{leb}
use borrow.Author.Tests.{leb-true, eqb-true, not-false}
use Rattle.stream.specs.Conditions.{first_of}
use Rattle.stream.specs.Blocks.{sized, of_blocks}
use Rattle.std.specs.Prelude.{Ok, Err}
use Rattle.values.specs.declared.refusal.Refusal.{Refusal}
use Rattle.values.specs.Inner.Refusals.{number_of}
use Rattle.stream.specs.Inner.Blocks.{BlocksChecked}
use Rattle.stream.specs.Laws.Conditions.{first-none, first_ahead, first_behind, blocks_numbered, refusal_numbered}
use Rattle.stream.specs.Payload.{payload}
use Rattle.records.specs.Layout.{laid_out}
use Rattle.records.specs.Limits.{limited}
use Rattle.records.specs.Values.{flatten_in, step_in, rescale_in, not_above, outside_bounds}
use Rattle.records.specs.Conditions.{of_values, of_records, of_stream}
use Rattle.records.specs.Inner.Refusals.{values_refusal, refusal_of}
use Rattle.records.specs.Laws.Tests.{and_left, and_right}

-- ---- 5, 19 and 6
module _ (l : List ℕ) where
  pub by_flatten : not_above (flatten_in l) ≡ true → 5 ≡ values_refusal l
  unfolding of_values first_of
  by_flatten f = rw f refl

  module _ (f : not_above (flatten_in l) ≡ false) where
    pub by_step : outside_bounds (step_in l) ≡ true → 19 ≡ values_refusal l
    unfolding of_values first_of
    by_step e = rw (f, e) refl

    module _ (e : outside_bounds (step_in l) ≡ false) where
      pub by_rescale : not_above (rescale_in l) ≡ true → 6 ≡ values_refusal l
      unfolding of_values first_of
      by_rescale r = rw (f, e, r) refl

      pub by_none : not_above (rescale_in l) ≡ false → 0 ≡ values_refusal l
      unfolding of_values first_of
      by_none r = rw (f, e, r) refl

-- ---- what the blocks' answer says
sized-holds : (s : List ℕ) → first_of (of_blocks s) ≡ 0 → not (sized s) ≡ false
unfolding of_blocks
sized-holds s e = (first-none (of_blocks s) (blocks_numbered s) e).0

sized-block : (s : List ℕ) → sized s ≡ true → 512 ≤ length s
unfolding sized
sized-block s a =
    let e = leb-true 1 (length s) (and_left _ _ a) in
    let f = eqb-true (length s % 512) 0 (and_left _ _ (and_right (leb 1 (length s)) _ a)) in
    omega arith

-- conditions 1 and 2 are the first
pub by_blocks : (s : List ℕ) {r : Refusal} → BlocksChecked s (Err r) → number_of r ≡ refusal_of s
unfolding of_stream
by_blocks s {r} j = j.number ∙ sym (first_ahead (of_blocks s) (of_records (payload s)) (blocks_numbered s) (λ e. absurd (omega (arith, refusal_numbered r, j.number))))

module _ (s : List ℕ) {m : ℕ} (j : BlocksChecked s (Ok m)) where
  none : first_of (of_blocks s) ≡ 0
  none = sym j.number

  -- a stream of blocks has one
  pub one_block : 512 ≤ length s
  one_block = sized-block s (not-false (sized s) (sized-holds s none))

  behind : refusal_of s ≡ first_of (of_records (payload s))
  unfolding of_stream
  behind = first_behind (of_blocks s) (of_records (payload s)) (blocks_numbered s) none

  pub by_layout : laid_out (payload s) ≡ false → 3 ≡ refusal_of s
  unfolding of_records first_of
  by_layout k = sym (behind ∙ rw k)

  pub by_limits : laid_out (payload s) ≡ true → limited (payload s) ≡ false → 4 ≡ refusal_of s
  unfolding of_records first_of
  by_limits k l = sym (behind ∙ rw (k, l))

  pub by_values : laid_out (payload s) ≡ true → limited (payload s) ≡ true → values_refusal (payload s) ≡ refusal_of s
  unfolding of_records first_of
  by_values k l = sym (behind ∙ rw (k, l))
