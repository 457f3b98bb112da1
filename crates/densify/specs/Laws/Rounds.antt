-- Points written one after another: by their numbers, and in runs. Assumes nothing.
use Rattle.std.specs.Prelude.{◌≡◌, ℕ, zero, suc, ◌+◌, ◌*◌, ◌<◌, ◌≤◌, List, [], ◌∷◌, ◌++◌, length, Float, Option, Some, None}
use Rattle.std.proofs.Common.{arith, ◌∙◌, ap}
use Rattle.std.proofs.Math.Numerals.{add-one}
use Rattle.std.proofs.Math.Path.{refl}
use Rattle.budget.specs.declared.Budget.{Budget}
use Rattle.values.specs.declared.Point.{Point}
use Rattle.densify.specs.declared.append.PointCursor.{PointCursor}
use Rattle.densify.specs.Densify.{without_draws, round_to, samples_to}
use Rattle.scene.specs.Scene.{point_at, points_at}
use Rattle.densify.specs.Inner.Written.{Written}
use Rattle.densify.specs.Laws.Writing.{written_none, still_short, join_short, join_done}
use Rattle.densify.specs.Laws.Counts.{round_length}

module _ (f : ℕ → Point) where
  -- the first k points stand from `at` to `next`
  abbrev pub Rounds : List Float → List Float → ℕ → Budget → ℕ → ℕ → Type 0
  Rounds w w₁ at b next k = Written w w₁ at (without_draws (round_to f k) b) (Some (record { at = next; budget = b }))

  pub round_none : (w : List Float) (at : ℕ) (b : Budget) → at ≤ length w → Rounds w w at b at 0
  unfolding round_to
  round_none w at b h = written_none w at b h

  module _ (k : ℕ) {w w₁ w₂ : List Float} {at next : ℕ} {b : Budget} (first : Rounds w w₁ at b next k) where
    one_more : {r : Option PointCursor} → Written w₁ w₂ next (without_draws (f k ∷ []) b) r → Written w w₂ at (without_draws (round_to f (k + 1)) b) r
    unfolding round_to
    one_more one = rw add-one (join_done first (without_draws (f k ∷ [])) one)

    pub round_next : {d : PointCursor} → Written w₁ w₂ next (without_draws (f k ∷ []) b) (Some d) → Rounds w w₂ at b d.at (k + 1)
    round_next one =
        let h = one_more one in
        record { asked = h.asked; next = h.next; left = refl; holds = h.holds; before = h.before; kept = h.kept }

    -- no room for one of n: none for all of them
    pub round_short : (n : ℕ) → k < n → Written w₁ w₂ next (without_draws (f k ∷ []) b) None → Written w w₂ at (without_draws (round_to f n) b) None
    round_short n h one = still_short (one_more one) (without_draws (round_to f n) b) (omega (arith, round_length f (k + 1), round_length f n))

-- ---- one run after another, both from the same budget
module _ (p q : List Point) {w w₁ : List Float} {at : ℕ} {b : Budget} where
  pub runs_short : Written w w₁ at (without_draws p b) None → Written w w₁ at (without_draws (p ++ q) b) None
  runs_short one = join_short one (without_draws q)

  pub runs_done : {d : PointCursor} → Written w w₁ at (without_draws p b) (Some d) → {w₂ : List Float} {s : Option PointCursor} → Written w₁ w₂ d.at (without_draws q b) s
      → Written w w₂ at (without_draws (p ++ q) b) s
  runs_done one two = join_done one (without_draws q) (rw one.left two)

-- ---- other lists as such a run
pub samples_round : (f : ℕ → Point) (n : ℕ) → samples_to f n ≡ round_to (λ k. f (k + 1)) n
unfolding samples_to round_to
samples_round f zero = refl
samples_round f (suc k) = rw (samples_round f k, add-one)

round_as : (f g : ℕ → Point) → ((k : ℕ) → f k ≡ g k) → (n : ℕ) → round_to f n ≡ round_to g n
unfolding round_to
round_as f g same zero = refl
round_as f g same (suc k) = rw (round_as f g same k, same k)

round_first : (f : ℕ → Point) (n : ℕ) → f 0 ∷ round_to (λ k. f (suc k)) n ≡ round_to f (suc n)
unfolding round_to
round_first f zero = refl
round_first f (suc n) = ap (λ ps. ps ++ (f (suc n) ∷ [])) (round_first f n)

pub points_round : (l : List ℕ) (n from : ℕ) → points_at l from n ≡ round_to (λ k. point_at l (from + 16 * k)) n
unfolding points_at round_to
points_round l zero from = refl
points_round l (suc n) from =
    let f : ℕ → Point = λ k. point_at l (from + 16 * k) in
    let first : point_at l from ≡ f 0 = ap (point_at l) (omega arith) in
    let rest : points_at l (from + 16) n ≡ round_to (λ k. f (suc k)) n =
    points_round l n (from + 16) ∙ round_as _ _ (λ k. ap (point_at l) (omega arith)) n in
    rw (first, rest) (round_first f n)
