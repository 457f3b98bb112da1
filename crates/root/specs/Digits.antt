-- Change iii: how many binary digits of the root of a binary64 are worked out, and how. Definitions only.
use Rattle.std.specs.Prelude.{true, false, cond, ℕ, zero, suc, ◌+◌, ◌-◌, ◌*◌, ◌/◌, ◌^◌, leb, eqb, Float}
use Rattle.std.specs.Int.Count.{count_trailing_zeros}
use Rattle.std.specs.Float.{nan, inf, fin}
use Rattle.std.specs.Float.Ieee.{size}
use Rattle.root.specs.Root.{isqrt, scaled}

-- ---- their number
-- from the first 1 to the last where the root is exact, 54 for any other finite argument above zero, else 0:
-- the binary digits of n from the first 1 to the last
unfoldable pub significant : ℕ → ℕ
unfolding size count_trailing_zeros
significant n = size n - count_trailing_zeros (size n) n

-- those of the root of n units of 2 ^ -2150, as `root_at` takes it
unfoldable pub digits_at : ℕ → ℕ
unfolding isqrt significant
digits_at n = let r = isqrt n in cond (eqb (r * r) n) (significant r) 54

-- those of the root of every f64
unfoldable pub digits_of : Float → ℕ
unfolding digits_at scaled
digits_of nan = 0
digits_of (inf s) = 0
digits_of (fin s zero e) = 0
digits_of (fin true (suc m) e) = 0
digits_of (fin false (suc m) e) = digits_at (scaled (suc m) e)

-- ---- one by one, from the highest, ended as soon as nothing remains to be taken off
-- r is the root of n so far; where k + 1 of the 54 digits are left, the next has the place k + j, so its 1 is 2 ^ (k + j)
unfoldable pub work_from : ℕ → ℕ → ℕ → ℕ → ℕ × ℕ
work_from j n zero r = (r, 54)
work_from j n (suc k) r =
    cond (eqb (r * r) n) (r, 54 - suc k)
    (let more = r + 2 ^ (k + j) in work_from j n k (cond (leb (more * more) n) more r))

-- the root of n as far as it is worked out, and the number of its digits; the whole root has (size n + 1) / 2
unfoldable pub worked_out : ℕ → ℕ × ℕ
unfolding work_from size
worked_out n = work_from ((size n + 1) / 2 - 54) n 54 0
