-- `root::guess` meets its contract, by the law of a chord. Assumes nothing.
use Prim.Native.Nat.{ℕ, ◌+◌, ◌*◌, ◌/◌, ◌%◌, ◌^◌, ◌<◌}
use native.Mathlib.Omega.{arith}
use Rattle.root.specs.Inner.Halves.{NearRoot}
use Rattle.root.proofs.Mean.{product_fits, near, guess_lt}
use Rattle.root.proofs.guess.Goals as goal
use Rattle.root.proofs.guess.Goals.{After-chord_at-c}

module _ (c : After-chord_at-c) where
  abbrev m : ℕ
  m = c.args.m

  fits : c.chord_at-c.result.1 * (m % 2 ^ 48 / 2 ^ 16) < 2 ^ 64
  fits = product_fits m c.chord_at-c.result.0 c.chord_at-c.result.1 c.chord_at-c.ensures c.requires.0 c.requires.1

  close : NearRoot m (c.chord_at-c.result.0 + c.chord_at-c.result.1 * (m % 2 ^ 48 / 2 ^ 16) / 2 ^ 32)
  close = near m c.chord_at-c.result.0 c.chord_at-c.result.1 c.chord_at-c.ensures c.requires.0 c.requires.1

pub chord_at-c-requires : goal.chord_at-c-requires
chord_at-c-requires c = omega arith

pub overflow_mul-result : goal.overflow_mul-result
overflow_mul-result c = record { fits = fits c.before }

pub overflow_add-result : goal.overflow_add-result
overflow_add-result c = omega (arith, guess_lt (m c.before.before) _ c.requires.1 (close c.before.before))

pub returns : goal.returns
returns c = close c.before.before
