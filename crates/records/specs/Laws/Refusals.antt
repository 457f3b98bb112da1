-- What a stream is that conditions 1 to 6 and 19 let pass.
use Rattle.std.specs.Prelude.{◌≡◌, refl, Bool, true, false, not, List, [], ◌∷◌, ℕ, ◌/◌, ◌%◌, ◌≤◌, length, eqb, leb, Some}
use Rattle.std.proofs.Common.{arith}
use borrow.Author.Tests.{leb-true, eqb-true, not-false}
use Rattle.stream.specs.Blocks.{sized, all_checked, of_blocks}
use Rattle.stream.specs.Laws.Conditions.{Numbered, first-none, numbered_append, blocks_numbered}
use Rattle.stream.specs.Payload.{payload}
use Rattle.stream.specs.Inner.Payload.{room}
use Rattle.records.specs.declared.records.Record.{Record}
use Rattle.records.specs.declared.records.Record.TheVariants.{Rescale, Option, Feature, Variable, Place, Item, Points, Path}
use Rattle.records.specs.Walk.{Entry, entries}
use Rattle.records.specs.Search.{ends_search, with_found, search_step_of, records_of}
use Rattle.records.specs.Layout.{laid_out}
use Rattle.records.specs.Limits.{is_finite, option_floats, limited_at, all_limited, limited}
use Rattle.records.specs.Values.{float_or, hundred, step_in, rescale_in, not_above, outside_bounds}
use Rattle.records.specs.Records.{all_to}
use Rattle.records.specs.Conditions.{of_values, of_records, of_stream}
use Rattle.records.specs.Inner.Refusals.{refusal_of}
use Rattle.records.specs.Laws.Tests.{and_left, and_right}

pub stream_numbered : (s : List ℕ) → Numbered (of_stream s)
unfolding of_stream of_records of_values
stream_numbered s = numbered_append (of_blocks s) (of_records (payload s)) (blocks_numbered s) (omega arith, (omega arith, (omega arith, (omega arith, (omega arith, tt)))))

-- ---- condition 4: an option's float is finite
found_finite : (b : List ℕ) (r : Record) (ls : List (List ℕ)) → limited_at b r ≡ true → is_finite (float_or ls (Some hundred)) ≡ true
    → is_finite (float_or (with_found (search_step_of 2 7 r) b ls) (Some hundred)) ≡ true
unfolding search_step_of ends_search limited_at is_finite option_floats all_to
found_finite b Rescale ls h k = k
found_finite b (Option o) ls h k = by (eqb o 7) refl
  where
    by : (t : Bool) → eqb o 7 ≡ t → is_finite (float_or (with_found (search_step_of 2 7 (Option o)) b ls) (Some hundred)) ≡ true
    by true e = rw e (rw (eqb-true o 7 e) at h)
    by false e = rw e k
found_finite b (Feature n) ls h k = refl
found_finite b (Variable n) ls h k = refl
found_finite b (Place n) ls h k = refl
found_finite b (Item k f n m) ls h z = refl
found_finite b (Points r c) ls h k = refl
found_finite b (Path r c f m) ls h k = refl

all_finite_lem : (es : List Entry) → all_limited es ≡ true → is_finite (float_or (records_of 2 7 es) (Some hundred)) ≡ true
unfolding records_of all_limited is_finite
all_finite_lem [] h = refl
all_finite_lem (e ∷ es) h = found_finite e.bytes e.parsed (records_of 2 7 es) (and_left _ _ h) (all_finite_lem es (and_right (limited_at e.bytes e.parsed) _ h))

module _ (s : List ℕ) (h : refusal_of s ≡ 0) where
  tests : (not (sized s) ≡ false) × (not (all_checked s (length s / 512)) ≡ false) × (not (laid_out (payload s)) ≡ false) × (not (limited (payload s)) ≡ false)
  unfolding of_stream of_blocks of_records of_values
  tests = let n = first-none (of_stream s) (stream_numbered s) h in (n.0, n.1.0, n.1.1.0, n.1.1.1.0)

  pub is_rescaled : not_above (rescale_in (payload s)) ≡ false
  unfolding of_stream of_blocks of_records of_values
  is_rescaled = (first-none (of_stream s) (stream_numbered s) h).1.1.1.1.1.1.0

  pub is-step : outside_bounds (step_in (payload s)) ≡ false
  unfolding of_stream of_blocks of_records of_values
  is-step = (first-none (of_stream s) (stream_numbered s) h).1.1.1.1.1.0

  -- the payload of 65,536 blocks
  pub is-short : room s ≤ 33292288
  unfolding sized
  is-short =
      let z = not-false (sized s) tests.0 in
      omega (arith, leb-true (length s / 512) 65536 (and_right (eqb (length s % 512) 0) _ (and_right (leb 1 (length s)) _ z)))

  pub is_laid_out : laid_out (payload s) ≡ true
  is_laid_out = not-false (laid_out (payload s)) tests.2

  pub is-limited : limited (payload s) ≡ true
  is-limited = not-false (limited (payload s)) tests.3

  pub is_finite_step : is_finite (step_in (payload s)) ≡ true
  unfolding step_in limited
  is_finite_step = all_finite_lem (entries (payload s) 0) is-limited
