-- Series by Horner, and the tables of their coefficients, each one quotient rounded once. A table's rule gives the term
-- at k, and the table runs from the highest k down to 0.
use Rattle.std.specs.Prelude.{ℕ, zero, suc, ◌+◌, ◌*◌, ◌%◌, Bool, false, List, [], ◌∷◌, pos, ◌==◌, Float}
use Rattle.std.specs.Float.{fin, binary64}
use Rattle.std.specs.Float.Ieee.{round, mul}
use Rattle.float.specs.Horner.{horner}

-- c0 * v ^ n + .. + cn by Horner: from the highest term, each operation rounded once
unfoldable pub series_of : List Float → Float → Float
unfolding horner
series_of [] v = fin false 0 (pos 0)
series_of (c ∷ cs) v = horner c cs v

-- a series in the square of its variable
unfoldable pub even_of : List Float → Float → Float
unfolding series_of
even_of cs v = series_of cs (mul binary64 v v)

-- a series in the square of its variable, the variable multiplied last
unfoldable pub odd_of : List Float → Float → Float
unfolding series_of
odd_of cs v = mul binary64 (series_of cs (mul binary64 v v)) v

unfoldable pub factorial : ℕ → ℕ
factorial zero = 1
factorial (suc n) = suc n * factorial n

-- 1 / d, negative where s is true
unfoldable pub quotient : Bool → ℕ → Float
unfolding round
quotient s d = round binary64 s 1 d

abbrev pub is_odd : ℕ → Bool
is_odd k = k % 2 == 1

unfoldable pub terms : (ℕ → Float) → ℕ → List Float
terms t zero = t zero ∷ []
terms t (suc k) = t (suc k) ∷ terms t k

-- u - u³/3! + .. + u²¹/21!
unfoldable pub sine_table : List Float
unfolding terms quotient factorial
sine_table = terms (λ k. quotient (is_odd k) (factorial (2 * k + 1))) 10

-- 1 - u²/2! + .. + u²⁰/20!
unfoldable pub cosine_table : List Float
unfolding terms quotient factorial
cosine_table = terms (λ k. quotient (is_odd k) (factorial (2 * k))) 10

-- s + s³/3 + .. + s³³/33
unfoldable pub logarithm_table : List Float
unfolding terms quotient
logarithm_table = terms (λ k. quotient false (2 * k + 1)) 16

-- 1 + u + u²/2! + .. + u¹⁸/18!
unfoldable pub exponential_table : List Float
unfolding terms quotient factorial
exponential_table = terms (λ k. quotient false (factorial k)) 18

-- v - v³/3 + .. - v²³/23
unfoldable pub arctangent_table : List Float
unfolding terms quotient
arctangent_table = terms (λ k. quotient (is_odd k) (2 * k + 1)) 11
