use mathlib.Core.Path.{◌≡◌, refl}
use mathlib.Core.List.{List}
use Prim.Native.Nat.{ℕ, ◌/◌, ◌<◌}
use native.Mathlib.Omega.{arith}
use lib.ListN.{length}
use lib.Ieee.{binary64, of_bits}
use Rattle.stream.specs.Numbers.{u16_at, u32_at, u64_at, float_of, float_at}
use Rattle.stream.specs.Payload.{payload, payloads}
use Rattle.scene.specs.Scene.{scene_of, float_value_at, value_of}
use Rattle.scene.proofs.options.rescale.Goals as goal

-- with no block there is no payload, and what is behind its end counts as 0
no_block : (s : List ℕ) → length s < 512 → of_bits binary64 0 ≡ float_value_at (payload s) 1
unfolding payload payloads float_value_at value_of float_at float_of u64_at u32_at u16_at of_bits
no_block s h =
    let e : length s / 512 ≡ 0 = omega arith in
    rw e refl

pub returns-then-s-lt512 : goal.returns-then-s-lt512
unfolding scene_of
returns-then-s-lt512 c = no_block _ c.if-s-lt512.true
