-- Bytes as big-endian numbers: their order is that of the numbers.
use mathlib.Core.Path.{◌≡◌, refl, sym, ap, ◌∙◌}
use mathlib.Core.Bool.{true}
use mathlib.Core.List.{List, [], ◌∷◌, ◌++◌}
use Prim.Native.Nat.{ℕ, suc, ◌+◌, ◌*◌, ◌/◌, ◌^◌, ◌<◌}
use native.Mathlib.Nat.{div-div-eq-div-mul, two-pow-succ}
use native.Mathlib.Decide.{dec_lt}
use native.Mathlib.Omega.{arith}
use lib.ListN.{length}
use Rattle.records.specs.Layout.{before}
use Rattle.scene.specs.Laws.Rising.{before_less, before-next}

-- the number of the bytes behind u
unfoldable pub be_of : ℕ → List ℕ → ℕ
be_of u [] = u
be_of u (b ∷ bs) = be_of (256 * u + b) bs

-- each is below 256
abbrev pub Small : List ℕ → Type 0
Small [] = Unit {0}
Small (b ∷ bs) = (b < 256) × Small bs

pub be_less : (u v : ℕ) (a b : List ℕ) → length a ≡ length b → Small a → u < v → be_of u a < be_of v b
unfolding be_of
be_less u v [] [] e s h = h
be_less u v [] (y ∷ ys) e s h = absurd (omega arith)
be_less u v (x ∷ xs) [] e s h = absurd (omega arith)
be_less u v (x ∷ xs) (y ∷ ys) e s h = let l = s.0 in be_less (256 * u + x) (256 * v + y) xs ys (omega arith) s.1 (omega arith)

pub be_before : (u : ℕ) (a b c d : List ℕ) → length a ≡ length b → Small b → be_of u a < be_of u b → before (a ++ c) (b ++ d) ≡ true
unfolding be_of
be_before u [] [] c d e s h = absurd (omega arith)
be_before u [] (y ∷ ys) c d e s h = absurd (omega arith)
be_before u (x ∷ xs) [] c d e s h = absurd (omega arith)
be_before u (x ∷ xs) (y ∷ ys) c d e s h =
    elim (dec_lt x y) [
      | yes l ↦ before_less x y (xs ++ c) (ys ++ d) l
      | no l ↦
          elim (dec_lt y x) [
            | yes m ↦ absurd (omega (arith, be_less (256 * u + y) (256 * u + x) ys xs (omega arith) s.1 (omega arith)))
            | no m ↦
                let g : x ≡ y = omega arith in
                before-next x y (xs ++ c) (ys ++ d) g (be_before (256 * u + y) xs ys c d (omega arith) s.1 (rw g at h))
          ]
    ]

pub be_same : (u : ℕ) (a b : List ℕ) → length a ≡ length b → Small a → Small b → be_of u a ≡ be_of u b → a ≡ b
unfolding be_of
be_same u [] [] e s t h = refl
be_same u [] (y ∷ ys) e s t h = absurd (omega arith)
be_same u (x ∷ xs) [] e s t h = absurd (omega arith)
be_same u (x ∷ xs) (y ∷ ys) e s t h =
    elim (dec_lt x y) [
      | yes l ↦ absurd (omega (arith, be_less (256 * u + x) (256 * u + y) xs ys (omega arith) s.1 (omega arith)))
      | no l ↦
          elim (dec_lt y x) [
            | yes m ↦ absurd (omega (arith, be_less (256 * u + y) (256 * u + x) ys xs (omega arith) t.1 (omega arith)))
            | no m ↦
                let g : x ≡ y = omega arith in
                let k : xs ≡ ys = be_same (256 * u + y) xs ys (omega arith) s.1 t.1 (rw g at h) in
                rw (g, k) refl
          ]
    ]

pub be_append : (u : ℕ) (a b : List ℕ) → be_of u (a ++ b) ≡ be_of (be_of u a) b
unfolding be_of
be_append u [] b = refl
be_append u (x ∷ xs) b = be_append (256 * u + x) xs b

-- what is left without its last bytes
pub be_cut : (v : ℕ) (b : List ℕ) → Small b → be_of v b / 2 ^ (8 * length b) ≡ v
unfolding be_of
be_cut v [] s = omega arith
be_cut v (x ∷ xs) s =
    let l = s.0 in
    let n = length xs in
    rw (power n) (sym (div-div-eq-div-mul (be_of (256 * v + x) xs) (2 ^ (8 * n)) 256) ∙ ap (λ (z : ℕ). z / 256) (be_cut (256 * v + x) xs s.1) ∙ last l)
  where
    eight : (k : ℕ) → 2 ^ suc (suc (suc (suc (suc (suc (suc (suc k))))))) ≡ 2 ^ k * 256
    eight k =
        let a = two-pow-succ k in
        let b = two-pow-succ (suc k) in
        let c = two-pow-succ (suc (suc k)) in
        let d = two-pow-succ (suc (suc (suc k))) in
        let e = two-pow-succ (suc (suc (suc (suc k)))) in
        let f = two-pow-succ (suc (suc (suc (suc (suc k))))) in
        let g = two-pow-succ (suc (suc (suc (suc (suc (suc k)))))) in
        let h = two-pow-succ (suc (suc (suc (suc (suc (suc (suc k))))))) in
        omega arith

    power : (n : ℕ) → 2 ^ (8 * suc n) ≡ 2 ^ (8 * n) * 256
    power n = let e : 8 * suc n ≡ suc (suc (suc (suc (suc (suc (suc (suc (8 * n)))))))) = omega arith in ap (λ (z : ℕ). 2 ^ z) e ∙ eight (8 * n)

    last : x < 256 → (256 * v + x) / 256 ≡ v
    last h = omega arith
