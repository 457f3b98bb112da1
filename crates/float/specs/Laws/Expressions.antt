-- Straight-line float code as data: run on values, and on intervals. One law says that the second holds the first.
use Rattle.std.specs.Prelude.{List, [], ◌∷◌, Bool, ℕ, zero, suc, T, get_or, Float}
use Rattle.std.specs.Float.{nan, binary64}
use Rattle.std.specs.Float.Ieee.{neg, add, sub, mul, div, le}
use Rattle.float.specs.Laws.Intervals.{Iv, top, iv, mk, In, Between, ineg, iadd, isub, imul, idiv, ihorner, neg_in, add_in, sub_in, mul_in, div_in, horner, horner_in, point_in_lem, inside, inside_in}
use Rattle.float.specs.Laws.Bisection.{bisect, bisect_in}

pub data Expr : Type 0 where
  var : ℕ → Expr
  lit : Float → Expr
  minus : Expr → Expr
  plus less times over : Expr → Expr → Expr
  series : Float → List Float → Expr → Expr
  bind : Expr → Expr → Expr

abbrev pub eval : Expr → List Float → Float
eval (var i) ρ = get_or ρ i nan
eval (lit c) ρ = c
eval (minus a) ρ = neg (eval a ρ)
eval (plus a b) ρ = add binary64 (eval a ρ) (eval b ρ)
eval (less a b) ρ = sub binary64 (eval a ρ) (eval b ρ)
eval (times a b) ρ = mul binary64 (eval a ρ) (eval b ρ)
eval (over a b) ρ = div binary64 (eval a ρ) (eval b ρ)
eval (series c cs a) ρ = horner c cs (eval a ρ)
eval (bind a b) ρ = eval b (eval a ρ ∷ ρ)

abbrev pub ieval : Expr → List Iv → Iv
ieval (var i) σ = get_or σ i top
ieval (lit c) σ = mk c c
ieval (minus a) σ = ineg (ieval a σ)
ieval (plus a b) σ = iadd (ieval a σ) (ieval b σ)
ieval (less a b) σ = isub (ieval a σ) (ieval b σ)
ieval (times a b) σ = imul (ieval a σ) (ieval b σ)
ieval (over a b) σ = idiv (ieval a σ) (ieval b σ)
ieval (series c cs a) σ = ihorner (mk c c) cs (ieval a σ)
ieval (bind a b) σ = ieval b (ieval a σ ∷ σ)

abbrev pub AllIn : List Iv → List Float → Type 0
AllIn [] [] = Unit {0}
AllIn [] (x ∷ ρ) = ⊥
AllIn (I ∷ σ) [] = ⊥
AllIn (I ∷ σ) (x ∷ ρ) = In I x × AllIn σ ρ

at : (i : ℕ) (σ : List Iv) (ρ : List Float) → AllIn σ ρ → In (get_or σ i top) (get_or ρ i nan)
at i [] [] h = tt
at i [] (x ∷ ρ) h = absurd h
at i (I ∷ σ) [] h = absurd h
at zero (I ∷ σ) (x ∷ ρ) h = h.0
at (suc i) (I ∷ σ) (x ∷ ρ) h = at i σ ρ h.1

pub sound : (e : Expr) (σ : List Iv) (ρ : List Float) → AllIn σ ρ → In (ieval e σ) (eval e ρ)
sound (var i) σ ρ h = at i σ ρ h
sound (lit c) σ ρ h = point_in_lem c
sound (minus a) σ ρ h = neg_in (ieval a σ) (eval a ρ) (sound a σ ρ h)
sound (plus a b) σ ρ h = add_in (ieval a σ) (ieval b σ) (eval a ρ) (eval b ρ) (sound a σ ρ h) (sound b σ ρ h)
sound (less a b) σ ρ h = sub_in (ieval a σ) (ieval b σ) (eval a ρ) (eval b ρ) (sound a σ ρ h) (sound b σ ρ h)
sound (times a b) σ ρ h = mul_in (ieval a σ) (ieval b σ) (eval a ρ) (eval b ρ) (sound a σ ρ h) (sound b σ ρ h)
sound (over a b) σ ρ h = div_in (ieval a σ) (ieval b σ) (eval a ρ) (eval b ρ) (sound a σ ρ h) (sound b σ ρ h)
sound (series c cs a) σ ρ h = horner_in (mk c c) cs (ieval a σ) c (eval a ρ) (point_in_lem c) (sound a σ ρ h)
sound (bind a b) σ ρ h = sound b (ieval a σ ∷ σ) (eval a ρ ∷ ρ) (sound a σ ρ h, h)

-- ---- one variable in [a, b]: the result is in [lo, hi], by cutting [a, b] at most n times deep
abbrev pub fits_in : ℕ → Expr → Float → Float → Float → Float → Bool
fits_in n e lo hi a b = bisect n (λ (x y : Float). inside (ieval e (iv x y ∷ [])) lo hi) a b

pub range : (n : ℕ) (e : Expr) (lo hi a b x : Float) → T (fits_in n e lo hi a b) → Between a b x → T (le lo (eval e (x ∷ []))) × T (le (eval e (x ∷ [])) hi)
range n e lo hi a b x t i =
    bisect_in (λ (z : Float). T (le lo (eval e (z ∷ []))) × T (le (eval e (z ∷ [])) hi)) (λ (x y : Float). inside (ieval e (iv x y ∷ [])) lo hi)
    (λ a' b' z t' i'. inside_in (ieval e (iv a' b' ∷ [])) lo hi (eval e (z ∷ [])) t' (sound e (iv a' b' ∷ []) (z ∷ []) (i', tt))) n a b x t i
