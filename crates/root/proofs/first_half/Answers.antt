-- `root::first_half` meets its contract: the mean of the guess and the quotient is the whole root or one more. Assumes
-- nothing.
use mathlib.Core.Path.{refl}
use Prim.Native.Nat.{ℕ, ◌+◌, ◌-◌, ◌*◌, ◌/◌, ◌^◌, ◌<◌}
use native.Mathlib.Nat.{le_trans, lt_of_le_of_lt, sub-le}
use native.Mathlib.Omega.{arith}
use lib.Dec.{ltb}
use mir.Val.{bool_byte}
use Rattle.root.specs.Laws.Whole.{IsRoot}
use Rattle.root.proofs.Halves.{bit_le}
use Rattle.root.proofs.Mean.{lowered, remains, guess_lt, quotient_lt, square_lt}
use Rattle.root.proofs.first_half.Goals as goal
use Rattle.root.proofs.first_half.Goals.{After-guess-g}

module _ (c : After-guess-g) where
  abbrev m : ℕ
  m = c.args.m

  abbrev g : ℕ
  g = c.guess-g.result

  abbrev mean : ℕ
  mean = (g + m / g) / 2

  quotient : m / g < 2 ^ 28
  quotient = quotient_lt m g c.requires.1 c.guess-g.ensures

  divisor : g < 2 ^ 27
  divisor = guess_lt m g c.requires.1 c.guess-g.ensures

  mean_lt : mean < 2 ^ 28
  mean_lt = omega (arith, quotient, divisor)

  whole : IsRoot m (mean - bool_byte (ltb m (mean * mean)))
  whole = lowered m g mean c.guess-g.ensures refl

pub overflow_add-mean : goal.overflow_add-mean
overflow_add-mean c = omega (arith, quotient c, divisor c)

pub overflow_mul-over : goal.overflow_mul-over
overflow_mul-over c = record { fits = square_lt (mean c) (mean_lt c) }

pub overflow_sub-root : goal.overflow_sub-root
overflow_sub-root c = le_trans (bit_le (ltb (m c) (mean c * mean c))) (omega (arith, c.guess-g.ensures.least))

pub overflow_mul-result : goal.overflow_mul-result
overflow_mul-result c = record { fits = square_lt _ (lt_of_le_of_lt (sub-le _ _) (mean_lt c)) }

pub overflow_sub-result : goal.overflow_sub-result
overflow_sub-result c = (whole c).least

pub returns : goal.returns
returns c = remains _ _ (whole c)
