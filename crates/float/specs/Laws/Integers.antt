-- Whole numbers as floats: their sums and differences are exact. Assumes nothing.
use Rattle.std.specs.Prelude.{◌≡◌, Bool, true, not, ℕ, suc, ◌+◌, ◌-◌, ◌*◌, ◌≤◌, ◌<◌, pos, negsuc, Float}
use Rattle.std.proofs.Math.Path.{sym, ap}
use Rattle.std.proofs.Common.{◌∙◌, true≢false, arith, pow_pos}
use Rattle.std.proofs.Math.Bool.{false, cond}
use native.Mathlib.Nat.{mul-pos, mul-le-mul_right, mul-lt-mul_of_pos_right}
use lib.Dec.{T, leb, ltb, leb→le, nleb→lt, lt→ltb}
use lib.Arith.{le→nltb}
use Rattle.std.specs.Float.{nan, inf, fin}
use Rattle.std.specs.Float.Ieee.{binary64, up, down, minus, round, of_int, sum, add, sub}
use Rattle.std.specs.Float.Ieee.Bits.{is_true, is_false}
use Rattle.std.specs.Float.Ieee.Exact.{HasValue}
use Rattle.std.specs.Float.Ieee.Fits.{down_pos}
use Rattle.std.specs.Float.Ieee.Scale.{round_same}

round_units : (s : Bool) (w c : ℕ) → 0 < c → round binary64 s (w * c) c ≡ round binary64 s w 1
round_units s w c C = round_same binary64 s (w * c) c w 1 C (pow_pos 0) (one (w * c))
  where
    one : (x : ℕ) → x * 1 ≡ x
    one x = omega arith

-- a / c and b / c with a common c: the parts of `sum` at unlike signs
part : (x a d e : ℕ) → x * 1 ≡ a * d → x * e ≡ a * (d * e)
part x a d e h = omega (arith, ap (λ (j : ℕ). j * e) h)

other : (y b d e : ℕ) → y * 1 ≡ b * e → y * d ≡ b * (d * e)
other y b d e h = omega (arith, ap (λ (j : ℕ). j * d) h)

less : (a b c : ℕ) → a ≤ b → b * c - a * c ≡ (b - a) * c
less a b c h =
    let e : (b - a) * c + a * c ≡ b * c = sym (native.Mathlib.Nat.add-mul (b - a) a c) ∙ ap (λ (j : ℕ). j * c) (back a b h) in
    omega arith
  where
    back : (a b : ℕ) → a ≤ b → b - a + a ≡ b
    back a b h = omega arith

-- +a and -b, in parts of 1 / c
apart : (a b c : ℕ) → 0 < c → cond (ltb (a * c) (b * c)) (round binary64 true (b * c - a * c) c) (round binary64 false (a * c - b * c) c) ≡ of_int binary64 (minus a b)
unfolding of_int
apart a b c C = go (leb b a) (leb→le b a) (nleb→lt b a)
  where
    go : (t : Bool) → (T t → b ≤ a) → (T (not t) → a < b)
        → cond (ltb (a * c) (b * c)) (round binary64 true (b * c - a * c) c) (round binary64 false (a * c - b * c) c) ≡ of_int binary64 (cond t (pos (a - b)) (negsuc (b - suc a)))
    go true f g =
        ap (λ (u : Bool). cond u (round binary64 true (b * c - a * c) c) (round binary64 false (a * c - b * c) c)) (is_false (ltb (a * c) (b * c)) (le→nltb (a * c) (b * c) (mul-le-mul_right c (f tt))))
        ∙ ap (λ (j : ℕ). round binary64 false j c) (less b a c (f tt))
        ∙ round_units false (a - b) c C
    go false f g =
        ap (λ (u : Bool). cond u (round binary64 true (b * c - a * c) c) (round binary64 false (a * c - b * c) c)) (is_true (ltb (a * c) (b * c)) (lt→ltb (a * c) (b * c) (mul-lt-mul_of_pos_right (g tt) C)))
        ∙ ap (λ (j : ℕ). round binary64 true j c) (less a b c (under (g tt)))
        ∙ round_units true (b - a) c C
        ∙ ap (λ (j : ℕ). round binary64 true j 1) (next (g tt))
      where
        under : a < b → a ≤ b
        under h = omega arith

        next : a < b → b - a ≡ suc (b - suc a)
        next h = omega arith

pub whole_sub : (x y : Float) (a b : ℕ) → HasValue x false a 1 → HasValue y false b 1 → sub binary64 x y ≡ of_int binary64 (minus a b)
unfolding sub
whole_sub nan y a b h k = absurd h
whole_sub (inf s) y a b h k = absurd h
whole_sub (fin s m e) nan a b h k = absurd k
whole_sub (fin s m e) (inf t) a b h k = absurd k
whole_sub (fin true m e) (fin t n d) a b h k = absurd (true≢false h.0)
whole_sub (fin false m e) (fin true n d) a b h k = absurd (true≢false k.0)
whole_sub (fin false m e) (fin false n d) a b h k =
    ap (λ (j : ℕ). cond (ltb j (n * up d * down e)) (round binary64 true (n * up d * down e - j) (down e * down d)) (round binary64 false (j - n * up d * down e) (down e * down d))) (part (m * up e) a (down e) (down d) h.1)
    ∙ ap (λ (j : ℕ). cond (ltb (a * (down e * down d)) j) (round binary64 true (j - a * (down e * down d)) (down e * down d)) (round binary64 false (a * (down e * down d) - j) (down e * down d))) (other (n * up d) b (down e) (down d) k.1)
    ∙ apart a b (down e * down d) (mul-pos (down_pos e) (down_pos d))

-- b + a, or b - a where s is true
abbrev pub moved : Bool → ℕ → ℕ → ℕ
moved true a b = b - a
moved false a b = b + a

-- a whole number of either sign, added to a larger one
pub whole-add : (x y : Float) (s : Bool) (a b : ℕ) → HasValue x s a 1 → HasValue y false b 1 → a < b → add binary64 x y ≡ of_int binary64 (pos (moved s a b))
unfolding add of_int
whole-add nan y s a b h k l = absurd h
whole-add (inf t) y s a b h k l = absurd h
whole-add (fin t m e) nan s a b h k l = absurd k
whole-add (fin t m e) (inf u) s a b h k l = absurd k
whole-add (fin t m e) (fin true n d) s a b h k l = absurd (true≢false k.0)
whole-add (fin true m e) (fin false n d) false a b h k l = absurd (true≢false h.0)
whole-add (fin false m e) (fin false n d) true a b h k l = absurd (true≢false (sym h.0))
whole-add (fin true m e) (fin false n d) true a b h k l =
    ap (λ (j : ℕ). sum binary64 true j false (n * up d * down e) (down e * down d)) (part (m * up e) a (down e) (down d) h.1)
    ∙ ap (λ (j : ℕ). sum binary64 true (a * (down e * down d)) false j (down e * down d)) (other (n * up d) b (down e) (down d) k.1)
    ∙ below (down e * down d) (mul-pos (down_pos e) (down_pos d))
  where
    under : a < b → a ≤ b
    under h = omega arith

    below : (c : ℕ) → 0 < c → sum binary64 true (a * c) false (b * c) c ≡ round binary64 false (b - a) 1
    below c C = unfold sum in
        ap (λ (u : Bool). cond u (round binary64 false (b * c - a * c) c) (round binary64 (ltb (b * c) (a * c)) (a * c - b * c) c)) (is_true (ltb (a * c) (b * c)) (lt→ltb (a * c) (b * c) (mul-lt-mul_of_pos_right l C)))
        ∙ ap (λ (j : ℕ). round binary64 false j c) (less a b c (under l))
        ∙ round_units false (b - a) c C
whole-add (fin false m e) (fin false n d) false a b h k l =
    ap (λ (j : ℕ). sum binary64 false j false (n * up d * down e) (down e * down d)) (part (m * up e) a (down e) (down d) h.1)
    ∙ ap (λ (j : ℕ). sum binary64 false (a * (down e * down d)) false j (down e * down d)) (other (n * up d) b (down e) (down d) k.1)
    ∙ above (down e * down d) (mul-pos (down_pos e) (down_pos d))
  where
    above : (c : ℕ) → 0 < c → sum binary64 false (a * c) false (b * c) c ≡ round binary64 false (b + a) 1
    above c C = unfold sum in
        ap (λ (j : ℕ). round binary64 false j c) (native.Mathlib.Nat.add_comm (a * c) (b * c) ∙ sym (native.Mathlib.Nat.add-mul b a c)) ∙ round_units false (b + a) c C

-- the difference of two numbers does not change where both grow alike
pub minus_shift : (a b c : ℕ) → minus (a + c) (b + c) ≡ minus a b
minus_shift a b c =
    ap (λ (t : Bool). cond t (pos (a + c - (b + c))) (negsuc (b + c - suc (a + c)))) (test a b c)
    ∙ ap (λ (j : ℕ). cond (leb b a) (pos j) (negsuc (b + c - suc (a + c)))) (same a b c)
    ∙ ap (λ (j : ℕ). cond (leb b a) (pos (a - b)) (negsuc j)) (same' a b c)
  where
    same : (a b c : ℕ) → a + c - (b + c) ≡ a - b
    same a b c = omega arith

    same' : (a b c : ℕ) → b + c - suc (a + c) ≡ b - suc a
    same' a b c = omega arith

    test : (a b c : ℕ) → leb (b + c) (a + c) ≡ leb b a
    test a b c = go (leb b a) (leb→le b a) (nleb→lt b a)
      where
        go : (t : Bool) → (T t → b ≤ a) → (T (not t) → a < b) → leb (b + c) (a + c) ≡ t
        go true f g = let h = f tt in is_true (leb (b + c) (a + c)) (lib.Dec.le→leb (b + c) (a + c) (omega arith))
        go false f g = let h = g tt in is_false (leb (b + c) (a + c)) (lib.Arith.lt→nleb (b + c) (a + c) (omega arith))
