-- The first 27 digits: a guess g on a chord, and the mean of g and m / g, which is the whole root of m or one more.
-- Assumes nothing.
use mathlib.Core.Path.{◌≡◌, sym, ap, ◌∙◌, subst}
use mathlib.Core.Bool.{Bool, true, false, not}
use Prim.Native.Nat.{ℕ, zero, suc, ◌+◌, ◌-◌, ◌*◌, ◌/◌, ◌%◌, ◌^◌, ◌≤◌, ◌<◌}
use native.Mathlib.Nat.{le_trans, le_of_lt, mul-le-mul, mul-le-mul_left, mul-le-mul_right, le_of_mul-le-mul_right, mul-pos, div-add-mod', mod-lt, div-lt_iff_lt-mul, lt_of_le_of_lt, lt_of_not-le}
use native.Mathlib.Omega.{arith}
use lib.Dec.{T, leb, ltb, leb→le, nleb→lt}
use mir.Val.{bool_byte}
use Rattle.root.specs.Laws.Whole.{IsRoot, sq_lt_back}
use Rattle.root.specs.Inner.Halves.{IsChord, NearRoot, IsRemainder}
use Rattle.root.proofs.Halves.{one_less}

-- ---- squares of sums
-- (g + h) ^ 2 is not below 4 * g * h
four : (g h : ℕ) → 4 * (g * h) ≤ (g + h) * (g + h)
four g h = go (leb g h) (leb→le g h) (nleb→lt g h)
  where
    more : (a d : ℕ) → 4 * (a * (a + d)) ≤ (a + (a + d)) * (a + (a + d))
    more a d = omega arith

    go : (b : Bool) → (T b → g ≤ h) → (T (not b) → h < g) → 4 * (g * h) ≤ (g + h) * (g + h)
    go true f k = subst (λ (x : ℕ). 4 * (g * x) ≤ (g + x) * (g + x)) (omega (arith, f tt)) (more g (h - g))
    go false f k = let e : h + (g - h) ≡ g = omega (arith, k tt) in omega (arith, subst (λ (x : ℕ). 4 * (h * x) ≤ (h + x) * (h + x)) e (more h (g - h)))

-- what the rise of a chord adds to a square on it, at u of w, with r left
bend : (w u r rise e : ℕ) → 0 < w → u + r ≡ w → rise * u ≤ e * w → rise ≤ 2 ^ 21 → u * (rise * rise) ≤ w * (e * e) + w * 2 ^ 40
bend w u r rise e W s h R =
    le_of_mul-le-mul_right {k = w}
    (omega (
      arith,
      mul-le-mul h h,
      mul-le-mul (subst (λ (x : ℕ). 4 * (u * r) ≤ x * x) s (four u r)) (mul-le-mul R R),
      ap (λ (x : ℕ). x * (u * (rise * rise))) s,
    ))
    W

-- between the whole roots of i * w and of (i + 1) * w a chord is not far below the root
not-far : (w i low rise u r e : ℕ) → 0 < w → u + r ≡ w → i * w ≤ low * low + 2 * low → (i + 1) * w ≤ (low + rise) * (low + rise) + 2 * (low + rise) → rise * u ≤ e * w → rise ≤ 2 ^ 21
    → i * w + u ≤ (low + e) * (low + e) + 2 ^ 40 + 2 * (low + rise)
not-far w i low rise u r e W s l t h R =
    le_of_mul-le-mul_right {k = w}
    (omega (
      arith,
      bend w u r rise e W s h R,
      mul-le-mul_left low h,
      mul-le-mul_left r l,
      mul-le-mul_left u t,
      mul-le-mul_left {m = u} {n = w} rise (omega arith),
      ap (λ (x : ℕ). x * (low * low)) s,
      ap (λ (x : ℕ). x * low) s,
      ap (λ (x : ℕ). x * (i * w)) s,
    ))
    W

-- ---- the guess: low + d, d the part of the rise that u is of 2 ^ 48, less two at most
module _ (i low rise : ℕ) (C : IsChord i low rise) where
  pub low_ge : 16 ≤ i → 2 ^ 26 ≤ low
  low_ge h = let l : 2 ^ 26 < low + 1 = sq_lt_back (2 ^ 26) (low + 1) (omega (arith, C.1)) in omega arith

  pub top_lt : i < 64 → low + rise < 2 ^ 28
  top_lt h = sq_lt_back (low + rise) (2 ^ 28) (omega (arith, C.2))

  pub rise_le : 16 ≤ i → rise ≤ 2 ^ 21
  rise_le h = let l : rise < 2 ^ 21 + 1 = lt_of_not-le over in omega arith
    where
      over : 2 ^ 21 + 1 ≤ rise → ⊥
      over g =
          let s : (low + (2 ^ 21 + 1)) * (low + (2 ^ 21 + 1)) ≤ (low + rise) * (low + rise) = mul-le-mul (omega arith) (omega arith) in
          omega (arith, low_ge h, C.1, C.2)

  module _ (u d : ℕ) (U : u < 2 ^ 48) (D : d * 2 ^ 48 ≤ rise * u) where
    abbrev rest : ℕ
    rest = 2 ^ 48 - u

    all_of : (x : ℕ) → u * x + rest * x ≡ 2 ^ 48 * x
    all_of x = sym (dist u rest x) ∙ ap (λ (k : ℕ). k * x) whole
      where
        dist : (a b x : ℕ) → (a + b) * x ≡ a * x + b * x
        dist a b x = omega arith

        whole : u + rest ≡ 2 ^ 48
        whole = omega arith

    pub d_le : d ≤ rise
    d_le = le_of_mul-le-mul_right (le_trans D (mul-le-mul_left rise (le_of_lt U))) (omega arith)

    pub guess-above : (low + d) * (low + d) ≤ i * 2 ^ 48 + u
    guess-above =
        omega (
          arith,
          mul-le-mul_left low D,
          mul-le-mul d_le D,
          mul-le-mul_left rest C.0,
          mul-le-mul_left u C.2,
          all_of (low * low),
          all_of i,
          all_of 1,
        )

    pub guess_below : rise * u < (d + 2) * 2 ^ 48 → low + rise < 2 ^ 28 → rise ≤ 2 ^ 21 → i * 2 ^ 48 + u ≤ (low + d) * (low + d) + (2 ^ 40 + 2 ^ 31)
    guess_below A L R = omega (arith, not-far (2 ^ 48) i low rise u rest (d + 2) (omega arith) (omega arith) (omega (arith, C.1)) (omega (arith, C.3)) (le_of_lt A) R, d_le)

-- the code's guess: u is m % 2 ^ 48, of which it leaves out the last 16 digits
module _ (m low rise : ℕ) (C : IsChord (m / 2 ^ 48) low rise) (lo : 2 ^ 52 ≤ m) (hi : m < 2 ^ 54) where
  abbrev u : ℕ
  u = m % 2 ^ 48

  abbrev part : ℕ
  part = u / 2 ^ 16

  abbrev d : ℕ
  d = rise * part / 2 ^ 32

  small : rise ≤ 2 ^ 21
  small = rise_le (m / 2 ^ 48) low rise C (omega arith)

  pub product_fits : rise * part < 2 ^ 64
  product_fits = omega (arith, mul-le-mul {n₁ = rise} {m₁ = part} {n₂ = 2 ^ 21} {m₂ = 2 ^ 32} small (omega arith))

  pub near : NearRoot m (low + d)
  near =
      let D : d * 2 ^ 48 ≤ rise * u = omega (arith, mul-le-mul_left {m = part * 2 ^ 16} {n = u} rise (omega arith)) in
      let A : rise * u < (d + 2) * 2 ^ 48 = omega (arith, mul-le-mul_left {m = u} {n = part * 2 ^ 16 + 2 ^ 16} rise (omega arith), small) in
      let L : low + rise < 2 ^ 28 = top_lt (m / 2 ^ 48) low rise C (omega arith) in
      let U : u < 2 ^ 48 = omega arith in
      record {
        least = omega (arith, low_ge (m / 2 ^ 48) low rise C (omega arith));
        above = omega (arith, guess-above (m / 2 ^ 48) low rise C u d U D);
        below = omega (arith, guess_below (m / 2 ^ 48) low rise C u d U D A L small);
      }

-- ---- the mean
-- not below the whole root, whatever g is
pub mean-above : (m g : ℕ) → 0 < g → m < ((g + m / g) / 2 + 1) * ((g + m / g) / 2 + 1)
mean-above m g G = go (m / g) ((g + m / g) / 2) (omega (arith, div-add-mod' m g, mod-lt m G)) (omega arith)
  where
    go : (h r : ℕ) → m < (h + 1) * g → g + h + 1 ≤ 2 * (r + 1) → m < (r + 1) * (r + 1)
    go h r l k =
        let f : 4 * (g * (h + 1)) ≤ (g + (h + 1)) * (g + (h + 1)) = four g (h + 1) in
        let s : (g + (h + 1)) * (g + (h + 1)) ≤ 2 * (r + 1) * (2 * (r + 1)) = mul-le-mul (omega arith) (omega arith) in
        omega arith

-- (g * g + m - 2 * g) ^ 2 is at most 4 * g * g * m, for a g = h + 1 whose square is d below m
squared : (h d : ℕ) → 2 ^ 26 ≤ h + 1 → d ≤ 2 ^ 40 + 2 ^ 31 → (2 * ((h + 1) * h) + d) * (2 * ((h + 1) * h) + d) ≤ 4 * ((h + 1) * (h + 1) * ((h + 1) * (h + 1) + d))
squared h d H D = omega (arith, mul-le-mul (mul-le-mul H H) more, mul-le-mul D D)
  where
    more : 2 ^ 26 + 2 ^ 25 ≤ 2 * h + 1
    more = omega arith

-- at most one above the whole root, for a g near the root
pub mean-close : (m g s : ℕ) → NearRoot m g → 2 * (s + 1) ≤ g + m / g → s * s ≤ m
mean-close m zero s N l = absurd (omega (arith, N.least))
mean-close m (suc h) s N l =
    let d = m - (h + 1) * (h + 1) in
    let n : suc h ≡ h + 1 = omega arith in
    let a : (h + 1) * (h + 1) ≤ m = subst (λ (x : ℕ). x * x ≤ m) n N.above in
    let k : m ≤ (h + 1) * (h + 1) + (2 ^ 40 + 2 ^ 31) = subst (λ (x : ℕ). m ≤ x * x + (2 ^ 40 + 2 ^ 31)) n N.below in
    let D : m ≡ (h + 1) * (h + 1) + d = omega arith in
    let b = 2 * ((h + 1) * h) + d in
    let w : 2 * (s + 1) ≤ h + 1 + m / (h + 1) = subst (λ (x : ℕ). 2 * (s + 1) ≤ x + m / x) n l in
    let x : 2 * (s * (h + 1)) ≤ b = omega (arith, mul-le-mul_right (h + 1) w, div-add-mod' m (h + 1)) in
    let y : 2 * (s * (h + 1)) * (2 * (s * (h + 1))) ≤ b * b = mul-le-mul x x in
    let z : b * b ≤ 4 * ((h + 1) * (h + 1) * m) = subst (λ (x : ℕ). b * b ≤ 4 * ((h + 1) * (h + 1) * x)) (sym D) (squared h d (omega (arith, N.least)) (omega arith)) in
    le_of_mul-le-mul_right {k = (h + 1) * (h + 1)} (omega arith) (mul-pos (omega arith) (omega arith))

-- one less where its square is above m: the whole root of m
pub lowered : (m g mean : ℕ) → NearRoot m g → mean ≡ (g + m / g) / 2 → IsRoot m (mean - bool_byte (ltb m (mean * mean)))
lowered m g mean N e = one_less m mean m (mean * mean) (λ l. below mean e l) (λ l. record { least = l; most = most })
  where
    most : m < (mean + 1) * (mean + 1)
    most = subst (λ (x : ℕ). m < (x + 1) * (x + 1)) (sym e) (mean-above m g (omega (arith, N.least)))

    below : (r : ℕ) → r ≡ (g + m / g) / 2 → m < r * r → IsRoot m (r - 1)
    below zero e l = absurd (omega arith)
    below (suc s) e l =
        let d : s ≡ suc s - 1 = omega arith in
        let k : 2 * (s + 1) ≤ g + m / g = omega (arith, e) in
        subst (IsRoot m) d (record { least = mean-close m g s N k; most = omega arith })

pub remains : (m r : ℕ) → IsRoot m r → IsRemainder m r (m - r * r)
remains m r R = let l = R.least in let h = R.most in record { is = omega arith; little = omega arith }

-- ---- what the code works out fits
pub guess_lt : (m g : ℕ) → m < 2 ^ 54 → NearRoot m g → g < 2 ^ 27
guess_lt m g h N = sq_lt_back g (2 ^ 27) (omega (arith, N.above))

pub quotient_lt : (m g : ℕ) → m < 2 ^ 54 → NearRoot m g → m / g < 2 ^ 28
quotient_lt m g h N = (div-lt_iff_lt-mul {k = g} {x = m} {y = 2 ^ 28} (omega (arith, N.least))).1 (omega (arith, N.least))

pub square_lt : (r : ℕ) → r < 2 ^ 28 → r * r < 2 ^ 64
square_lt r h = lt_of_le_of_lt (mul-le-mul_left r (le_of_lt h)) (omega arith)
