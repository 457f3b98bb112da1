-- A number that is clamped to lo .. hi lies there, and stays within what it lay in. Assumes nothing.
use Rattle.std.specs.Prelude.{Bool, true, false, not, T, is_nan, Float}
use Rattle.std.specs.Float.Ieee.{lt, le}
use Rattle.std.specs.Float.Ieee.Scale.{finite}
use Rattle.float.specs.Functions.{pick}
use Rattle.float.specs.Laws.Comparisons.{lt→le, neither}
use Rattle.float.specs.Laws.Intervals.{Between}
use Rattle.float.specs.Laws.Order.{le_trans, le_refl}
use Rattle.elementary.specs.Functions.{clamp_of}

pub clamp_in : (lo hi v : Float) → T (finite lo) → T (finite hi) → T (le lo hi) → T (not (is_nan v)) → Between lo hi (clamp_of lo hi v)
unfolding clamp_of
clamp_in lo hi v p q h n = go (lt v lo) (lt hi v) (neither lo hi v p q n)
  where
    go : (a b : Bool) → (T (not a) → T (not b) → Between lo hi v) → Between lo hi (pick a lo (pick b hi v))
    go true b f = record { low = le_refl lo p; high = h; fl = p; fh = q }
    go false true f = record { low = h; high = le_refl hi q; fl = p; fh = q }
    go false false f = f tt tt

-- between a and b, which lie between lo and hi
pub clamp_keeps : (lo hi a b v : Float) → T (le lo a) → T (le b hi) → Between a b v → Between a b (clamp_of lo hi v)
unfolding clamp_of
clamp_keeps lo hi a b v h k i = go (lt v lo) (lt hi v) (lt→le v lo) (lt→le hi v)
  where
    ends : T (le a b)
    ends = le_trans a v b i.low i.high

    go : (x y : Bool) → (T x → T (le v lo)) → (T y → T (le hi v)) → Between a b (pick x lo (pick y hi v))
    go true y f g = record { low = le_trans a v lo i.low (f tt); high = le_trans lo a b h ends; fl = i.fl; fh = i.fh }
    go false true f g = record { low = le_trans a b hi ends k; high = le_trans hi v b (g tt) i.high; fl = i.fl; fh = i.fh }
    go false false f g = i
