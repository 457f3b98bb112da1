-- A computed test at every number of a range. Assumes nothing.
use Rattle.std.specs.Prelude.{◌≡◌, ◌⊎◌, Bool, true, false, not, ℕ, zero, suc, ◌+◌, ◌≤◌, ◌<◌, T, ltb}
use Rattle.std.proofs.Common.{subst, inl, inr, arith, ltb→lt, nltb→le}

-- t at k, k + 1, .., as many as n. It stops at the first that fails.
abbrev pub every : ℕ → (ℕ → Bool) → ℕ → Bool
every zero t k = true
every (suc n) t k = elim (t k) [ true ↦ every n t (suc k) | false ↦ false ]

both : (b x : Bool) → T (elim b [ true ↦ x | false ↦ false ]) → T b × T x
both true x t = (tt, t)
both false x t = absurd t

pub split_at : (m j : ℕ) → (j < m) ⊎ (m ≤ j)
split_at m j = go (ltb j m) (ltb→lt j m) (nltb→le j m)
  where
    go : (b : Bool) → (T b → j < m) → (T (not b) → m ≤ j) → (j < m) ⊎ (m ≤ j)
    go true p q = inl (p tt)
    go false p q = inr (q tt)

pub every-at : (n : ℕ) (t : ℕ → Bool) (k j : ℕ) → T (every n t k) → k ≤ j → j < k + n → T (t j)
every-at zero t k j h l u = absurd (past k j l u)
  where
    past : (k j : ℕ) → k ≤ j → j < k + 0 → ⊥
    past k j l u = omega arith
every-at (suc n) t k j h l u =
    let w = both (t k) (every n t (suc k)) h in
    elim (split_at (suc k) j) [ inl g ↦ subst (λ (i : ℕ). T (t i)) (same k j l g) w.0 | inr g ↦ every-at n t (suc k) j w.1 g (shift k j n u) ]
  where
    same : (k j : ℕ) → k ≤ j → j < suc k → k ≡ j
    same k j l g = omega arith

    shift : (k j n : ℕ) → j < k + suc n → j < suc k + n
    shift k j n u = omega arith
