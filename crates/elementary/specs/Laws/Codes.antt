-- Straight-line code on intervals: one computed test for any code, and the series, whatever the table's length, as such
-- code. Assumes nothing.
use Rattle.std.specs.Prelude.{◌≡◌, ℕ, Bool, false, ◌&&◌, T, List, [], ◌∷◌, pos, refl, Float}
use Rattle.std.specs.Float.{fin}
use Rattle.std.specs.Float.Ieee.Fits.{and_l, and_r}
use Rattle.std.specs.Float.Ieee.Scale.{finite}
use Rattle.float.specs.Laws.Intervals.{Iv, Between, inside, inside_in}
use Rattle.float.specs.Laws.Expressions.{Expr, var, lit, times, series, eval, ieval, AllIn, sound, fits_in, range}
use Rattle.elementary.specs.Series.{series_of, even_of, odd_of}

-- where each variable lies in its interval, the code's value lies from lo to hi
abbrev pub encloses : Expr → List Iv → Float → Float → Bool
encloses e σ lo hi = finite lo && finite hi && inside (ieval e σ) lo hi

pub enclosed : (e : Expr) (σ : List Iv) (ρ : List Float) (lo hi : Float) → T (encloses e σ lo hi) → AllIn σ ρ → Between lo hi (eval e ρ)
enclosed e σ ρ lo hi t i =
    let f = and_l (finite lo && finite hi) (inside (ieval e σ) lo hi) t in
    let r = inside_in (ieval e σ) lo hi (eval e ρ) (and_r (finite lo && finite hi) (inside (ieval e σ) lo hi) t) (sound e σ ρ i) in
    record { low = r.0; high = r.1; fl = and_l (finite lo) (finite hi) f; fh = and_r (finite lo) (finite hi) f }

abbrev pub plain_code : List Float → Expr
plain_code [] = lit (fin false 0 (pos 0))
plain_code (c ∷ cs) = series c cs (var 0)

abbrev pub even_code : List Float → Expr
even_code [] = lit (fin false 0 (pos 0))
even_code (c ∷ cs) = series c cs (times (var 0) (var 0))

abbrev pub odd_code : List Float → Expr
odd_code cs = times (even_code cs) (var 0)

plain-is : (cs : List Float) (u : Float) (ρ : List Float) → eval (plain_code cs) (u ∷ ρ) ≡ series_of cs u
unfolding series_of
plain-is [] u ρ = refl
plain-is (c ∷ cs) u ρ = refl

even_is : (cs : List Float) (u : Float) (ρ : List Float) → eval (even_code cs) (u ∷ ρ) ≡ even_of cs u
unfolding even_of
even_is [] u ρ = refl
even_is (c ∷ cs) u ρ = refl

pub odd_is : (cs : List Float) (u : Float) (ρ : List Float) → eval (odd_code cs) (u ∷ ρ) ≡ odd_of cs u
unfolding odd_of
odd_is [] u ρ = refl
odd_is (c ∷ cs) u ρ = refl

-- from a test on [a, b], cut at most n times deep, to each u in it
within : (n : ℕ) (e : Expr) (lo hi a b u : Float) → T (finite lo) → T (finite hi) → T (fits_in n e lo hi a b) → Between a b u → Between lo hi (eval e (u ∷ []))
within n e lo hi a b u p q t i = let r = range n e lo hi a b u t i in record { low = r.0; high = r.1; fl = p; fh = q }

pub plain_range : (n : ℕ) (cs : List Float) (lo hi a b u : Float) → T (finite lo) → T (finite hi) → T (fits_in n (plain_code cs) lo hi a b) → Between a b u → Between lo hi (series_of cs u)
plain_range n cs lo hi a b u p q t i = rw plain-is at (within n (plain_code cs) lo hi a b u p q t i)

pub even_range : (n : ℕ) (cs : List Float) (lo hi a b u : Float) → T (finite lo) → T (finite hi) → T (fits_in n (even_code cs) lo hi a b) → Between a b u → Between lo hi (even_of cs u)
even_range n cs lo hi a b u p q t i = rw even_is at (within n (even_code cs) lo hi a b u p q t i)

pub odd_range : (n : ℕ) (cs : List Float) (lo hi a b u : Float) → T (finite lo) → T (finite hi) → T (fits_in n (odd_code cs) lo hi a b) → Between a b u → Between lo hi (odd_of cs u)
odd_range n cs lo hi a b u p q t i = rw odd_is at (within n (odd_code cs) lo hi a b u p q t i)
