-- Change iii to the letter: binary digits worked out one by one, from the highest, until nothing remains to be taken
-- off, round to `root_of`, and their number is `digits_of`. Assumes nothing.
use Rattle.std.specs.Prelude.{◌≡◌, refl, Bool, not, cond, T, leb, eqb}
use Rattle.std.proofs.Math.Path.{sym, ap, ap₂, subst}
use Rattle.std.proofs.Common.{◌∙◌, zero-add, suc-add, add-zero, mul_assoc, pow-suc, mul-pos, le_trans, le_of_eq, lt_irrefl, lt_of_lt_of_le, lt_of_le_of_lt, mul-le-mul, mul-le-mul_right, mul-lt-mul_of_pos_right, le_of_mul-le-mul_right, lt_of_mul-lt-mul_right, arith, leb→le, eqb→eq, pow_pos, pow-add}
use Rattle.std.proofs.Math.Bool.{true, false}
use Prim.Native.Nat.{ℕ, zero, suc, ◌+◌, ◌-◌, ◌*◌, ◌/◌, ◌%◌, ◌^◌, ◌≤◌, ◌<◌}
use Rattle.std.proofs.Math.Nat.{mul-mul-mul_comm, eq_of_mul-eq-mul_right}
use Rattle.std.proofs.Math.Dec.{nleb→lt, eqb_refl}
use Rattle.std.specs.Int.Count.{count_trailing_zeros, under}
use Rattle.std.specs.Float.{binary64}
use Rattle.std.specs.Float.Ieee.{size, round}
use Rattle.std.specs.Float.Ieee.Digits.{size-lt, size-le}
use Rattle.root.specs.Root.{sticky, root_at}
use Rattle.root.specs.Digits.{digits_at, work_from, worked_out}
use Rattle.root.specs.Laws.Whole.{IsRoot, root_unique, pow_lt_back}
use Rattle.root.specs.Laws.Counted.{exact_root, zeros_shifted, counted_exact, counted_other}

odd_zeros : (d s : ℕ) → s % 2 ≡ 1 → count_trailing_zeros d s ≡ 0
unfolding count_trailing_zeros
odd_zeros zero s o = refl
odd_zeros (suc d) s o = ap (λ (r : ℕ). under r (count_trailing_zeros d (s / 2))) o

differs : (x a : ℕ) → T (not (eqb x a)) → x ≡ a → ⊥
differs x a t e = both (eqb x x) (eqb_refl x) (subst (λ (y : ℕ). T (not (eqb x y))) (sym e) t)
  where
    both : (b : Bool) → T b → T (not b) → ⊥
    both true t n = n
    both false t n = t

-- the root so far is s * b, and the last digit of s is a 1 where that is the exact root
record Step (n b s : ℕ) : Type 0 where
  least : s * b * (s * b) ≤ n
  most : n < (s * b + b) * (s * b + b)
  last : s * b * (s * b) ≡ n → s % 2 ≡ 1

-- ---- the digits of the root p of a are those of the root of a * 4 ^ j
module _ (a p j : ℕ) (A : IsRoot a p) where
  abbrev n : ℕ
  n = a * (2 ^ j * 2 ^ j)

  abbrev Right : ℕ × ℕ → Type 0
  Right v = (v.0 ≡ p * 2 ^ j) × (p * p ≡ a → v.1 ≡ 54 - count_trailing_zeros 54 p) × ((p * p ≡ a → ⊥) → v.1 ≡ 54)

  w_pos : 0 < 2 ^ j * 2 ^ j
  w_pos = mul-pos (pow_pos j) (pow_pos j)

  square : (s : ℕ) → s * 2 ^ j * (s * 2 ^ j) ≡ s * s * (2 ^ j * 2 ^ j)
  square s = mul-mul-mul_comm s (2 ^ j) s (2 ^ j)

  exact : (s : ℕ) → s * 2 ^ j * (s * 2 ^ j) ≡ n → s * s ≡ a
  exact s e = eq_of_mul-eq-mul_right (2 ^ j * 2 ^ j) w_pos (s * s) a (sym (square s) ∙ e)

  at_end : (s : ℕ) → Step n (2 ^ j) s → Right (s * 2 ^ j, 54)
  at_end s v =
      let u : s ≡ p = root_unique whole A in (
        ap (λ (x : ℕ). x * 2 ^ j) u,
        (λ h. sym (ap (λ (x : ℕ). 54 - x) (odd_zeros 54 p (subst (λ (x : ℕ). x % 2 ≡ 1) u (v.last (square s ∙ ap (λ (x : ℕ). x * x * (2 ^ j * 2 ^ j)) u ∙ ap (λ (x : ℕ). x * (2 ^ j * 2 ^ j)) h)))))),
        (λ h. refl),
      )
    where
      next : (s w : ℕ) → s * w + w ≡ (s + 1) * w
      next s w = omega arith

      whole : IsRoot a s
      whole = record {
        least = le_of_mul-le-mul_right (le_trans (le_of_eq (sym (square s))) v.least) w_pos;
        most = lt_of_mul-lt-mul_right (2 ^ j * 2 ^ j) (lt_of_lt_of_le v.most (le_of_eq (ap (λ (x : ℕ). x * x) (next s (2 ^ j)) ∙ square (s + 1))));
      }

  -- nothing remains, with i digits left
  ends : (i s : ℕ) → i ≤ 54 → Step n (2 ^ (i + j)) s → s * 2 ^ (i + j) * (s * 2 ^ (i + j)) ≡ n → Right (s * 2 ^ (i + j), 54 - i)
  ends i s l v e =
      let f : s * 2 ^ (i + j) ≡ s * 2 ^ i * 2 ^ j = ap (λ (x : ℕ). s * x) (pow-add 2 i j) ∙ sym (mul_assoc s (2 ^ i) (2 ^ j)) in
      let g : s * 2 ^ i * (s * 2 ^ i) ≡ a = exact (s * 2 ^ i) (subst (λ (x : ℕ). x * x ≡ n) f e) in
      let u : s * 2 ^ i ≡ p = root_unique (exact_root a (s * 2 ^ i) g) A in
      let z : count_trailing_zeros 54 p ≡ i =
      ap (count_trailing_zeros 54) (sym u)
      ∙ zeros_shifted i (54 - i) 54 s (omega arith)
      ∙ ap (λ (x : ℕ). i + x) (odd_zeros (54 - i) s (v.last e))
      ∙ add-zero i in
      (f ∙ ap (λ (x : ℕ). x * 2 ^ j) u, (λ h. sym (ap (λ (x : ℕ). 54 - x) z)), (λ h. absurd (h (ap (λ (x : ℕ). x * x) (sym u) ∙ g))))

  -- a turn, with b the next digit's worth
  module _ (i s b : ℕ) (k : (x : ℕ) → Step n b x → Right (work_from j n i (x * b))) (v : Step n (b * 2) s) where
    abbrev r : ℕ
    r = s * (b * 2)

    even_is : 2 * s * b ≡ s * (b * 2)
    even_is = omega arith

    odd_is : (2 * s + 1) * b ≡ s * (b * 2) + b
    odd_is = omega arith

    next-is : (2 * s + 1) * b + b ≡ s * (b * 2) + b * 2
    next-is = omega arith

    turn : (r * r ≡ n → ⊥) → (c : Bool) → (T c → (r + b) * (r + b) ≤ n) → (T (not c) → n < (r + b) * (r + b)) → Right (work_from j n i (cond c (r + b) r))
    turn m true f g =
        subst (λ (x : ℕ). Right (work_from j n i x)) odd_is
        (k (2 * s + 1)
        (record {
          least = subst (λ (x : ℕ). x * x ≤ n) (sym odd_is) (f tt);
          most = subst (λ (x : ℕ). n < x * x) (sym next-is) v.most;
          last = λ h. omega arith;
        }))
    turn m false f g =
        subst (λ (x : ℕ). Right (work_from j n i x)) even_is
        (k (2 * s)
        (record {
          least = subst (λ (x : ℕ). x * x ≤ n) (sym even_is) v.least;
          most = subst (λ (x : ℕ). n < (x + b) * (x + b)) (sym even_is) (g tt);
          last = λ h. absurd (m (subst (λ (x : ℕ). x * x ≡ n) even_is h));
        }))

  goes : (i s : ℕ) → i ≤ 54 → Step n (2 ^ (i + j)) s → Right (work_from j n i (s * 2 ^ (i + j)))
  unfolding work_from
  goes zero s l v = subst (λ (x : ℕ). Right (s * x, 54)) (sym low) (at_end s (subst (λ (x : ℕ). Step n x s) low v))
    where
      low : 2 ^ (0 + j) ≡ 2 ^ j
      low = ap (λ (x : ℕ). 2 ^ x) (zero-add j)
  goes (suc i) s l v = case (λ x w. goes i x (omega arith) w) (eqb (r * r) n) (eqb→eq (r * r) n) (differs (r * r) n)
    where
      r : ℕ
      r = s * 2 ^ (suc i + j)

      b : ℕ
      b = 2 ^ (i + j)

      Rest : Type 0
      Rest = (x : ℕ) → Step n (2 ^ (i + j)) x → Right (work_from j n i (x * 2 ^ (i + j)))

      twice : 2 ^ (suc i + j) ≡ 2 ^ (i + j) * 2
      twice = ap (λ (x : ℕ). 2 ^ x) (suc-add i j) ∙ pow-suc 2 (i + j)

      more : Rest → (r * r ≡ n → ⊥) → Right (work_from j n i (cond (leb ((r + b) * (r + b)) n) (r + b) r))
      more k m =
          subst (λ (x : ℕ). Right (work_from j n i (cond (leb ((s * x + b) * (s * x + b)) n) (s * x + b) (s * x)))) (sym twice)
          (turn i s b k (subst (λ (x : ℕ). Step n x s) twice v)
          (subst (λ (x : ℕ). s * x * (s * x) ≡ n → ⊥) twice m)
          (leb ((s * (b * 2) + b) * (s * (b * 2) + b)) n)
          (leb→le ((s * (b * 2) + b) * (s * (b * 2) + b)) n)
          (nleb→lt ((s * (b * 2) + b) * (s * (b * 2) + b)) n))

      case : Rest → (c : Bool) → (T c → r * r ≡ n) → (T (not c) → r * r ≡ n → ⊥) → Right (cond c (r, 54 - suc i) (work_from j n i (cond (leb ((r + b) * (r + b)) n) (r + b) r)))
      case k true e m = ends (suc i) s l v (e tt)
      case k false e m = more k (m tt)

-- ---- from the highest digit
module _ (a p j : ℕ) (A : IsRoot a p) (lo : 2 ^ 53 ≤ p) (hi : p < 2 ^ 54) where
  -- n is from 4 ^ (53 + j) up to 4 ^ (54 + j)
  reach : (k : ℕ) → 2 ^ k * 2 ^ k * (2 ^ j * 2 ^ j) ≡ 2 ^ (2 * (k + j))
  reach k =
      mul-mul-mul_comm (2 ^ k) (2 ^ k) (2 ^ j) (2 ^ j)
      ∙ ap (λ (x : ℕ). x * x) (sym (pow-add 2 k j))
      ∙ sym (pow-add 2 (k + j) (k + j))
      ∙ ap (λ (x : ℕ). 2 ^ x) (omega arith)

  n-lo : 2 ^ (2 * (53 + j)) ≤ a * (2 ^ j * 2 ^ j)
  n-lo = le_trans (le_of_eq (sym (reach 53))) (mul-le-mul_right (2 ^ j * 2 ^ j) (le_trans (mul-le-mul lo lo) A.least))

  n-hi : a * (2 ^ j * 2 ^ j) < 2 ^ (2 * (54 + j))
  n-hi =
      lt_of_lt_of_le
      (mul-lt-mul_of_pos_right (lt_of_lt_of_le A.most (mul-le-mul {n₂ = 2 ^ 54} {m₂ = 2 ^ 54} (omega arith) (omega arith))) (mul-pos (pow_pos j) (pow_pos j)))
      (le_of_eq (reach 54))

  places : (size (n a p j A) + 1) / 2 - 54 ≡ j
  places =
      let l : 2 * (53 + j) < size (n a p j A) = pow_lt_back (2 * (53 + j)) (size (n a p j A)) (lt_of_le_of_lt n-lo (size-lt (n a p j A))) in
      let h : size (n a p j A) ≤ 2 * (54 + j) = size-le (n a p j A) (2 * (54 + j)) n-hi in
      omega arith

  start : Step (n a p j A) (2 ^ (54 + j)) 0
  start = record {
    least = le_trans (le_of_eq (none (2 ^ (54 + j)))) (omega arith);
    most = lt_of_lt_of_le n-hi (le_of_eq (ap (λ (x : ℕ). 2 ^ x) (omega arith) ∙ pow-add 2 (54 + j) (54 + j) ∙ ap (λ (x : ℕ). x * x) (sym (first (2 ^ (54 + j))))));
    last = λ e. absurd (lt_irrefl 0 (subst (λ (x : ℕ). 0 < x) (sym e ∙ none (2 ^ (54 + j))) (lt_of_lt_of_le (pow_pos (2 * (53 + j))) n-lo)));
  }
    where
      none : (b : ℕ) → 0 * b * (0 * b) ≡ 0
      none b = omega arith

      first : (b : ℕ) → 0 * b + b ≡ b
      first b = omega arith

  given : Right a p j A (work_from j (n a p j A) 54 0)
  given = subst (λ (x : ℕ). Right a p j A (work_from j (n a p j A) 54 x)) (omega arith) (goes a p j A 54 0 (omega arith) start)

  pub worked_out_lem : worked_out (a * (2 ^ j * 2 ^ j)) ≡ (p * 2 ^ j, digits_at (a * (2 ^ j * 2 ^ j)))
  unfolding worked_out
  worked_out_lem =
      ap (λ (x : ℕ). work_from x (n a p j A) 54 0) places
      ∙ ap₂ (λ (x y : ℕ). (x, y)) given.0 (go (eqb (p * p) a) (eqb→eq (p * p) a) (differs (p * p) a))
    where
      go : (b : Bool) → (T b → p * p ≡ a) → (T (not b) → p * p ≡ a → ⊥) → (work_from j (n a p j A) 54 0).1 ≡ digits_at (a * (2 ^ j * 2 ^ j))
      go true e m = given.1 (e tt) ∙ sym (counted_exact a p j A lo hi (e tt))
      go false e m = given.2 (m tt) ∙ sym (counted_other a p j A lo hi (m tt))

-- ---- every f64 above zero
-- what the digits of the root of n units of 2 ^ -2150 come to
abbrev pub Worked : ℕ → Type 0
Worked n = (round binary64 false (sticky (worked_out n).0 n) (2 ^ 1076) ≡ root_at n) × ((worked_out n).1 ≡ digits_at n)
