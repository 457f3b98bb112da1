-- std's `clamp` is the definition's. Assumes nothing.
use Rattle.std.proofs.Common.{◌≡◌, Bool, true, false, cond, refl}
use Rattle.std.specs.Float.{Float, float_clamp}
use Rattle.std.specs.Float.Ieee.{lt}
use Rattle.float.specs.Functions.{pick}
use Rattle.elementary.specs.Functions.{clamp_of}

pub clamped : (lo hi v : Float) → float_clamp v lo hi ≡ clamp_of lo hi v
unfolding clamp_of
clamped lo hi v = go (lt v lo) (lt hi v)
  where
    go : (a b : Bool) → cond a lo (cond b hi v) ≡ pick a lo (pick b hi v)
    go true b = refl
    go false true = refl
    go false false = refl
