-- The loop over a table: what is summed so far, with the terms that are left, is the series. Assumes nothing.
use Rattle.std.proofs.Common.{◌≡◌, ℕ, suc, ◌<◌, List, [], ◌∷◌, length, get_or, map, refl, sym, ◌∙◌, arith}
use Rattle.std.proofs.lemmas.List.{ext_get_or, get_or-map, length-map}
use lib.Ieee.{Float, nan, of_bits, binary64}
use Rattle.elementary.specs.Series.{series_of}

pub empty : (t : List Float) (v : Float) → length t ≡ 0 → of_bits binary64 0 ≡ series_of t v
unfolding series_of of_bits
empty [] v h = refl
empty (c ∷ cs) v h = absurd (none (length cs) h)
  where
    none : (n : ℕ) → suc n ≡ 0 → ⊥
    none n h = omega arith

-- f of each value, by what stands at each place
pub each : (f : Float → Float) (r v : List Float) → length r ≡ length v → ((k : ℕ) → k < length v → get_or r k nan ≡ f (get_or v k nan)) → r ≡ map f v
each f r v l h =
    ext_get_or nan r (map f v) (l ∙ sym (length-map v f)) (λ k b. let d : k < length v = omega arith in h k d ∙ sym (get_or-map f v k nan nan d))
