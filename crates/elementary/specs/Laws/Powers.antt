-- 2 ^ k for a whole number k, and its bounds. Assumes nothing.
use Rattle.std.specs.Prelude.{◌≡◌, ℕ, zero, suc, ◌*◌, ◌/◌, ◌^◌, ◌≤◌, Bool, true, false, cond, T, ℤ, pos, neg_ℤ, refl, Float}
use Rattle.std.proofs.Common.{sym, ap, ◌∙◌, subst, true≢false, mul-div_cancel, mul-one, mul-pos, arith, pow_pos, pow_mono}
use Rattle.std.specs.Float.{nan, inf, fin}
use Rattle.std.specs.Float.Ieee.{up, down, le}
use Rattle.std.specs.Float.Ieee.Exact.{HasValue}
use Rattle.std.specs.Float.Ieee.Fits.{down_pos}
use Rattle.float.specs.Laws.Signed.{→le}
use Rattle.float.specs.Laws.Intervals.{Between}
use Rattle.elementary.specs.Functions.{two_to}

-- 2 ^ n, or 2 ^ -n where b is true
abbrev pub power : Bool → ℕ → Float
power b n = fin false 1 (cond b (neg_ℤ (pos n)) (pos n))

size_is : (m : ℕ) (e : ℤ) (n : ℕ) → m * up e * 1 ≡ n * down e → m * up e / down e ≡ n
size_is m e n h = ap (λ (x : ℕ). x / down e) (sym (mul-one (m * up e)) ∙ h) ∙ mul-div_cancel n (down_pos e)

pub two_to_is : (k : Float) (b : Bool) (n : ℕ) → HasValue k b n 1 → two_to k ≡ power b n
unfolding two_to
two_to_is nan b n h = absurd h
two_to_is (inf s) b n h = absurd h
two_to_is (fin true m e) true n h = ap (λ (x : ℕ). fin false 1 (neg_ℤ (pos x))) (size_is m e n h.1)
two_to_is (fin false m e) false n h = ap (λ (x : ℕ). fin false 1 (pos x)) (size_is m e n h.1)
two_to_is (fin true m e) false n h = absurd (true≢false h.0)
two_to_is (fin false m e) true n h = absurd (true≢false (sym h.0))

up_minus : (n : ℕ) → up (neg_ℤ (pos n)) ≡ 1
up_minus zero = refl
up_minus (suc n) = refl

down_minus : (n : ℕ) → down (neg_ℤ (pos n)) ≡ 2 ^ n
down_minus zero = refl
down_minus (suc n) = refl

power_le : (x y : ℤ) → up x * down y ≤ up y * down x → T (le (fin false 1 x) (fin false 1 y))
power_le x y h = →le (fin false 1 x) (fin false 1 y) tt tt (omega arith)

-- k is n with the sign b
pub two_to_in : (k : Float) (b : Bool) (n most : ℕ) → HasValue k b n 1 → n ≤ most → Between (power true most) (power false most) (two_to k)
two_to_in k b n most v h = subst (λ (z : Float). Between (power true most) (power false most) z) (sym (two_to_is k b n v)) (go b)
  where
    grow : 2 ^ n ≤ 2 ^ most
    grow = pow_mono h

    some : 1 ≤ 2 ^ most * 2 ^ n
    some = mul-pos (pow_pos most) (pow_pos n)

    go : (b : Bool) → Between (power true most) (power false most) (power b n)
    go true = record {
      low = power_le (neg_ℤ (pos most)) (neg_ℤ (pos n)) (simp (up_minus, down_minus) (omega (arith, grow)));
      high = power_le (neg_ℤ (pos n)) (pos most) (simp (up_minus, down_minus) (omega (arith, some)));
      fl = tt;
      fh = tt;
    }
    go false = record {
      low = power_le (neg_ℤ (pos most)) (pos n) (simp (up_minus, down_minus) (omega (arith, some)));
      high = power_le (pos n) (pos most) (omega (arith, grow));
      fl = tt;
      fh = tt;
    }
