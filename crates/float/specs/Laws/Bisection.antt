-- A test on an interval [a, b] that says something of each value in it. Where it fails the interval is cut in the
-- middle, at most n times deep.
use Rattle.std.specs.Prelude.{◌⊎◌, Bool, true, false, ℕ, zero, suc, negsuc, T, Float}
use Rattle.std.proofs.Common.{inl, inr}
use Rattle.std.specs.Float.{nan, inf, fin}
use Rattle.std.specs.Float.Ieee.Scale.{finite}
use Rattle.float.specs.Laws.Order.{le_total, finite_of}
use Rattle.float.specs.Laws.Quick.{qadd, qmul}
use Rattle.float.specs.Laws.Intervals.{Between}

abbrev pub middle : Float → Float → Float
middle a b = qmul (qadd a b) (fin false 1 (negsuc 0))

abbrev pub bisect : ℕ → (Float → Float → Bool) → Float → Float → Bool
bisect zero t a b = t a b
bisect (suc n) t a b =
    elim (t a b) [
      | true ↦ true
      | false ↦
          elim (middle a b) [
            | nan ↦ false
            | inf s ↦ false
            | fin s m e ↦
                elim (bisect n t a (fin s m e)) [
                  | true ↦ bisect n t (fin s m e) b
                  | false ↦ false
                ]
          ]
    ]

both : (b x y : Bool) → T (elim b [ true ↦ x | false ↦ y ]) → (T b × T x) ⊎ T y
both true x y t = inl (tt, t)
both false x y t = inr t

at : (m : Float) (k : Float → Bool) → T (elim m [ nan ↦ false | inf s ↦ false | fin s m e ↦ k (fin s m e) ]) → T (finite m) × T (k m)
at nan k t = absurd t
at (inf s) k t = absurd t
at (fin s m e) k t = (tt, t)

pub bisect_in : (Q : Float → Type 0) (t : Float → Float → Bool) → ((a b x : Float) → T (t a b) → Between a b x → Q x) → (n : ℕ) (a b x : Float) → T (bisect n t a b) → Between a b x → Q x
bisect_in Q t s zero a b x h i = s a b x h i
bisect_in Q t s (suc n) a b x h i =
    let halves : Float → Bool = λ c. elim (bisect n t a c) [ true ↦ bisect n t c b | false ↦ false ] in
    elim (both (t a b) true (elim (middle a b) [ nan ↦ false | inf s ↦ false | fin s m e ↦ halves (fin s m e) ]) h) [
      | inl k ↦ s a b x k.0 i
      | inr k ↦
          let m = middle a b in
          let c : T (finite m) × T (halves m) = at m halves k in
          elim (both (bisect n t a m) (bisect n t m b) false c.1) [
            | inl w ↦
                elim (le_total x m (finite_of a x b i.fl i.fh i.low i.high) c.0) [
                  | inl l ↦ bisect_in Q t s n a m x w.0 (record { low = i.low; high = l; fl = i.fl; fh = c.0 })
                  | inr l ↦ bisect_in Q t s n m b x w.1 (record { low = l; high = i.high; fl = c.0; fh = i.fh })
                ]
            | inr w ↦ absurd w
          ]
    ]
