-- trunc, ceil and round on the values of the format: each is exact, monotone, and keeps a whole number as it is. All
-- three take the size of the value, a fraction, to a whole number by a rule that may look at the sign, and the laws
-- hold for any rule that is monotone and keeps whole numbers. Assumes nothing.
use Rattle.std.specs.Prelude.{◌≡◌, refl, Bool, true, false, ℕ, suc, ◌+◌, ◌-◌, ◌*◌, ◌/◌, ◌^◌, ◌≤◌, ◌<◌, ℤ, pos, negsuc, T, Float}
use Rattle.std.proofs.Common.{sym, ap, ◌∙◌, subst, le_trans, le_of_eq, le_antisymm, le_of_suc-le-suc, zero-mul, mul-pos, mul-one, mul-le-mul_right, div-one, div-lt_iff_lt-mul, le_of_mul-le-mul_right, arith, pow_pos}
use Rattle.std.proofs.Math.Nat.{lt-div-mul-add}
use Rattle.std.specs.Float.{nan, inf, fin, binary64}
use Rattle.std.specs.Float.Ieee.{up, down, fits, le}
use Rattle.std.specs.Float.Ieee.Fits.{down_pos, round-fits}
use Rattle.std.specs.Float.Ieee.Exact.{HasValue}
use Rattle.std.specs.Float.Ieee.Nearest.{div_mono}
use Rattle.std.specs.Float.Ieee.Back.{round_whole, whole_unique}
use Rattle.std.specs.Float.Ieee.Scale.{finite}
use Rattle.float.specs.Laws.Signed.{sp, sn, P, N, D, Le, le→, round_le, zero_of}
use Rattle.float.specs.Laws.Magnitude.{has_finite}
use Rattle.float.specs.Laws.Remainder.{Whole, exact_at, fits_digits}
use Rattle.float.specs.Laws.Exact.{fits_top}
use Rattle.float.specs.Functions.{whole_at, trunc_of, ceil_of, round_of}

-- the whole number that a fraction a / d goes to, below zero and above it
abbrev pub Rule : Type 0
Rule = Bool → ℕ → ℕ → ℕ

abbrev pub whole_of : Rule → Float → Float
whole_of r nan = nan
whole_of r (inf s) = inf s
whole_of r (fin s m e) = whole_at s (r s (m * up e) (down e))

-- g goes by the rule r, which is monotone and keeps whole numbers
pub record ByRule (g : Float → Float) (r : Rule) : Type 0 where
  pub is : (x : Float) → g x ≡ whole_of r x
  pub mono : (s : Bool) (a d b c : ℕ) → 0 < d → 0 < c → a * c ≤ b * d → r s a d ≤ r s b c
  pub own : (s : Bool) (w : ℕ) → r s w 1 ≡ w

-- ---- the three rules
abbrev pub to_zero : Rule
to_zero s a d = a / d

abbrev pub upward : Rule
upward true a d = a / d
upward false a d = (a + (d - 1)) / d

abbrev pub to_nearest : Rule
to_nearest s a d = (2 * a + d) / (2 * d)

pub trunc_by_rule : ByRule trunc_of to_zero
unfolding trunc_of
trunc_by_rule = record { is = is; mono = λ s a d b c D C h. div_mono a d b c D C h; own = λ s w. div-one w }
  where
    is : (x : Float) → trunc_of x ≡ whole_of to_zero x
    is nan = refl
    is (inf s) = refl
    is (fin s m e) = refl

-- a ≤ q * d for the q that a / d goes up to, and for no smaller q
up_least : (a d : ℕ) → 0 < d → a ≤ (a + (d - 1)) / d * d
up_least a d D = omega (arith, lt-div-mul-add {a = a + (d - 1)} D)

up_mono : (a d b c : ℕ) → 0 < d → 0 < c → a * c ≤ b * d → (a + (d - 1)) / d ≤ (b + (c - 1)) / c
up_mono a d b c D C h = le_of_suc-le-suc ((div-lt_iff_lt-mul D).1 (room a d ((b + (c - 1)) / c) D (le_of_mul-le-mul_right (cross ((b + (c - 1)) / c) (up_least b c C)) C)))
  where
    cross : (q : ℕ) → b ≤ q * c → a * c ≤ q * d * c
    cross q k = omega (arith, mul-le-mul_right d k)

    room : (a d q : ℕ) → 0 < d → a ≤ q * d → a + (d - 1) < suc q * d
    room a d q D h = omega arith

pub ceil_by_rule : ByRule ceil_of upward
unfolding ceil_of
ceil_by_rule = record { is = is; mono = mono; own = own }
  where
    is : (x : Float) → ceil_of x ≡ whole_of upward x
    is nan = refl
    is (inf s) = refl
    is (fin true m e) = refl
    is (fin false m e) = refl

    mono : (s : Bool) (a d b c : ℕ) → 0 < d → 0 < c → a * c ≤ b * d → upward s a d ≤ upward s b c
    mono true a d b c D C h = div_mono a d b c D C h
    mono false a d b c D C h = up_mono a d b c D C h

    own : (s : Bool) (w : ℕ) → upward s w 1 ≡ w
    own true w = div-one w
    own false w = omega arith

pub round_by_rule : ByRule round_of to_nearest
unfolding round_of
round_by_rule = record { is = is; mono = λ s a d b c D C h. div_mono (2 * a + d) (2 * d) (2 * b + c) (2 * c) (mul-pos (pow_pos 1) D) (mul-pos (pow_pos 1) C) (cross a d b c h); own = λ s w. omega arith }
  where
    is : (x : Float) → round_of x ≡ whole_of to_nearest x
    is nan = refl
    is (inf s) = refl
    is (fin s m e) = refl

    cross : (a d b c : ℕ) → a * c ≤ b * d → (2 * a + d) * (2 * c) ≤ (2 * b + c) * (2 * d)
    cross a d b c h = omega arith

-- ---- the laws
module _ {g : Float → Float} {r : Rule} (R : ByRule g r) where
  same : (s : Bool) (a d b c : ℕ) → 0 < d → 0 < c → a * c ≡ b * d → r s a d ≡ r s b c
  same s a d b c D C h = le_antisymm (R.mono s a d b c D C (le_of_eq h)) (R.mono s b c a d C D (le_of_eq (sym h)))

  -- the size as another fraction
  pub whole-at : (x : Float) (s : Bool) (a c : ℕ) → 0 < c → HasValue x s a c → g x ≡ whole_at s (r s a c)
  whole-at nan s a c C h = absurd h
  whole-at (inf t) s a c C h = absurd h
  whole-at (fin t m e) s a c C h =
      R.is (fin t m e) ∙ ap (λ (u : Bool). whole_at u (r u (m * up e) (down e))) h.0 ∙ ap (whole_at s) (same s (m * up e) (down e) a c (down_pos e) C h.1)

  exact : (s : Bool) (m : ℕ) (e : ℤ) → T (fits binary64 (fin s m e)) → HasValue (whole_at s (r s (m * up e) (down e))) s (r s (m * up e) (down e)) 1
  exact s m (pos k) t =
      let F = fits_digits s m (pos k) t in
      subst (λ (w : ℕ). HasValue (whole_at s w) s w 1) (sym (R.own s (m * 2 ^ k))) (exact_at s m (pos k) F.0 F.1 (fits_top s m (pos k) t))
  exact s m (negsuc k) t =
      round_whole binary64 s (r s (m * 1) (2 ^ suc k))
      (le_trans (R.mono s (m * 1) (2 ^ suc k) (2 ^ 53) 1 (pow_pos (suc k)) (pow_pos 0) (few m (2 ^ suc k) (fits_digits s m (negsuc k) t).0 (pow_pos (suc k)))) (le_of_eq (R.own s (2 ^ 53))))
    where
      few : (m d : ℕ) → m < 2 ^ 53 → 0 < d → m * 1 * 1 ≤ 2 ^ 53 * d
      few m d h D = omega arith

  -- nothing is rounded: g's value is the rule's whole number
  pub whole-value : (s : Bool) (m : ℕ) (e : ℤ) → T (fits binary64 (fin s m e)) → HasValue (g (fin s m e)) s (r s (m * up e) (down e)) 1
  whole-value s m e t = rw (R.is (fin s m e)) (exact s m e t)

  pub whole_finite : (x : Float) → T (fits binary64 x) → T (finite x) → T (finite (g x))
  whole_finite nan t f = absurd f
  whole_finite (inf s) t f = absurd f
  whole_finite (fin s m e) t f = has_finite (g (fin s m e)) s (r s (m * up e) (down e)) 1 (whole-value s m e t)

  -- a whole number stays as it is
  pub whole_own : (x : Float) (s : Bool) (w : ℕ) → T (fits binary64 x) → HasValue x s w 1 → g x ≡ x
  whole_own nan s w t h = absurd h
  whole_own (inf u) s w t h = absurd h
  whole_own (fin u m e) s w t h =
      let k = r u (m * up e) (down e) in
      let is : k ≡ w = same u (m * up e) (down e) w 1 (down_pos e) (pow_pos 0) h.1 ∙ R.own u w in
      R.is (fin u m e) ∙ whole_unique binary64 (whole_at u k) (fin u m e) u w (round-fits binary64 u k 1) t (subst (λ (z : ℕ). HasValue (whole_at u k) u z 1) is (exact u m e t)) (refl, h.1)

  none : (s : Bool) (a d : ℕ) → 0 < d → a ≡ 0 → r s a d ≡ 0
  none s a d D z = ap (λ (k : ℕ). r s k d) z ∙ same s 0 d 0 1 D (pow_pos 0) (omega arith) ∙ R.own s 0

  pub whole_mono : (x y : Float) → T (finite x) → T (finite y) → T (le x y) → T (le (g x) (g y))
  whole_mono nan y p q h = absurd p
  whole_mono (inf s) y p q h = absurd p
  whole_mono (fin s m e) nan p q h = absurd q
  whole_mono (fin s m e) (inf t) p q h = absurd q
  whole_mono (fin s m e) (fin t n d) p q h =
      rw (R.is (fin s m e), R.is (fin t n d))
      (round_le binary64 s (r s (m * up e) (down e)) 1 t (r t (n * up d) (down d)) 1 (pow_pos 0) (pow_pos 0) (go s t (le→ (fin s m e) (fin t n d) tt tt h)))
    where
      go : (s t : Bool) → Le (fin s m e) (fin t n d) → sp s (r s (m * up e) (down e)) * 1 + sn t (r t (n * up d) (down d)) * 1 ≤ sp t (r t (n * up d) (down d)) * 1 + sn s (r s (m * up e) (down e)) * 1
      go false false h = omega (arith, R.mono false (m * up e) (down e) (n * up d) (down d) (down_pos e) (down_pos d) (omega arith))
      go true true h = omega (arith, R.mono true (n * up d) (down d) (m * up e) (down e) (down_pos d) (down_pos e) (omega arith))
      go true false h = omega arith
      go false true h =
          omega (arith, none false (m * up e) (down e) (down_pos e) (zero_of (m * up e) (down d) (down_pos d) (omega arith)), none true (n * up d) (down d) (down_pos d) (zero_of (n * up d) (down e) (down_pos e) (omega arith)))

-- ---- a value that is a whole number
has_parts : (z : Float) (s : Bool) (w : ℕ) → HasValue z s w 1 → (P z ≡ sp s w * D z) × (N z ≡ sn s w * D z)
has_parts nan s w h = absurd h
has_parts (inf t) s w h = absurd h
has_parts (fin t m e) s w h = subst (λ (u : Bool). (sp u (m * up e) ≡ sp s w * down e) × (sn u (m * up e) ≡ sn s w * down e)) (sym h.0) (go s)
  where
    size : m * up e ≡ w * down e
    size = sym (mul-one (m * up e)) ∙ h.1

    go : (s : Bool) → (sp s (m * up e) ≡ sp s w * down e) × (sn s (m * up e) ≡ sn s w * down e)
    go true = (sym (zero-mul (down e)), size)
    go false = (size, sym (zero-mul (down e)))

pub has_whole : (z : Float) (w : ℕ) → HasValue z false w 1 → Whole z w
has_whole z w h = let p = has_parts z false w h in record { is_finite = has_finite z false w 1 h; up_is = p.0; no_minus = p.1 ∙ zero-mul (D z) }
