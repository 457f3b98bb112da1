-- An array filled from a place on.
use mathlib.Core.Path.{◌≡◌, refl, ◌∙◌}
use mathlib.Core.List.{List, ◌++◌}
use Prim.Native.Nat.{ℕ, ◌+◌, ◌-◌, ◌<◌}
use native.Mathlib.Omega.{arith}
use lib.ListN.{length, take, replicate, length-replicate}
use Rattle.std.proofs.lemmas.Grind.{common_steps}
use borrow.Rule.Slice.PartMut.{put_mid}
use Rattle.register.specs.Inner.LatLookup.{prefix_starts}

pub all_filled : (starts ys : List ℕ) (c q : ℕ) → c < 32 → length starts ≡ 32 → ys ≡ replicate (length starts - (c + 1)) q → put_mid (c + 1) (length starts - (c + 1)) starts ys ≡ prefix_starts starts c q
unfolding prefix_starts
all_filled starts ys c q h n e =
    let k : length starts - (c + 1) ≡ 31 - c = omega arith in
    let few : length ys ≡ 31 - c = rw (e, k) (length-replicate (31 - c) q) in
    let behind : put_mid (c + 1) (length starts - (c + 1)) starts ys ≡ take (c + 1) starts ++ ys = grind (arith, common_steps) in
    behind ∙ rw (e, k) refl
