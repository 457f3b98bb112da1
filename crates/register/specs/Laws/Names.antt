-- Names that share their first bytes with two others, of which one comes before the other.
use Rattle.std.specs.Prelude.{◌≡◌, refl, ◌⊎◌, Bool, true, false, cond, List, [], ◌∷◌, ℕ, zero, suc, ◌≤◌, ◌<◌, length, take, eqb}
use Rattle.std.proofs.Common.{inl, inr, arith, eq-eqb, eqb-true}
use Rattle.std.proofs.lemmas.Bool.{false≢true}
use Rattle.records.specs.Layout.{before}
use Rattle.scene.specs.Laws.Rising.{before_less, before-next, before_cases}
use Rattle.records.specs.Inner.Names.{common_prefix}

common_more : (x y : ℕ) (xs ys : List ℕ) → x ≡ y → common_prefix (x ∷ xs) (y ∷ ys) ≡ suc (common_prefix xs ys)
unfolding common_prefix
common_more x y xs ys e = rw (eq-eqb x y e) refl

-- a name that shares more bytes with w than u does comes after u
pub between_names : (u w name : List ℕ) (j : ℕ) → before u w ≡ true → common_prefix u w < j → j ≤ length w → take j name ≡ take j w → before u name ≡ true
unfolding before common_prefix
between_names [] w name zero h c k e = absurd (omega arith)
between_names [] [] name (suc j) h c k e = absurd (omega arith)
between_names [] (y ∷ ys) [] (suc j) h c k e = let z : ◌≡◌ {A = ℕ} 0 1 = cc in absurd (omega arith)
between_names [] (y ∷ ys) (z ∷ zs) (suc j) h c k e = refl
between_names (x ∷ xs) w name zero h c k e = absurd (omega arith)
between_names (x ∷ xs) [] name (suc j) h c k e = absurd (false≢true h)
between_names (x ∷ xs) (y ∷ ys) [] (suc j) h c k e = let z : ◌≡◌ {A = ℕ} 0 1 = cc in absurd (omega arith)
between_names (x ∷ xs) (y ∷ ys) (z ∷ zs) (suc j) h c k e = by (before_cases x y xs ys h) (cc) (between_names xs ys zs j)
  where
    by : (x < y) ⊎ ((x ≡ y) × (before xs ys ≡ true)) → z ≡ y → (before xs ys ≡ true → common_prefix xs ys < j → j ≤ length ys → take j zs ≡ take j ys → before xs zs ≡ true) → before (x ∷ xs) (z ∷ zs) ≡ true
    by (inl p) q f = before_less x z xs zs (omega arith)
    by (inr p) q f = before-next x z xs zs (omega arith) (f p.1 (omega (arith, common_more x y xs ys p.0)) (omega arith) (cc))

first_alike : (t : Bool) (j k : ℕ) → suc j ≤ cond t (suc k) 0 → (t ≡ true) × (j ≤ k)
first_alike true j k h = (refl, omega arith)
first_alike false j k h = absurd (omega arith)

-- two names agree on the bytes that they begin with alike
pub common_take : (u w : List ℕ) (j : ℕ) → j ≤ common_prefix u w → take j u ≡ take j w
unfolding common_prefix
common_take u w zero h = refl
common_take [] w (suc j) h = absurd (omega arith)
common_take (x ∷ xs) [] (suc j) h = absurd (omega arith)
common_take (x ∷ xs) (y ∷ ys) (suc j) h =
    let both = first_alike (eqb x y) j (common_prefix xs ys) h in
    rw (eqb-true x y both.0, common_take xs ys j both.1) refl
