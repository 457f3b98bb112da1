-- Whole bounds of either sign: x lies from a - b to c - d. Sums, products with a whole number, quotients by one, means
-- and `round` keep them while a + b + c + d is at most 2 ^ 53: rounding is monotone, and such a number is its own
-- rounding. Assumes nothing.
use Rattle.std.specs.Prelude.{◌≡◌, refl, List, [], ◌∷◌, map, Bool, true, false, not, ℕ, suc, ◌+◌, ◌-◌, ◌*◌, ◌/◌, ◌^◌, ◌≤◌, ◌<◌, pos, T, leb, length, Float}
use Rattle.std.proofs.Common.{sym, ap, subst, inl, inr, le_trans, mul-pos, mul-le-mul_right, le_of_mul-le-mul_right, div-add-mod', div-mul-le_self, mod-lt, arith, leb→le}
use Rattle.std.proofs.Math.Dec.{nleb→lt}
use Rattle.std.proofs.Math.Pow.{pow_pos}
use Rattle.std.specs.Float.{nan, inf, fin}
use Rattle.std.specs.Float.Ieee.{binary64, up, down, round, of_int, neg, add, sub, mul, div, le, of_bits}
use Rattle.std.specs.Float.Ieee.Back.{round_whole}
use Rattle.std.specs.Float.Ieee.Exact.{HasValue}
use Rattle.std.specs.Float.Ieee.Fits.{down_pos, round-fits}
use Rattle.std.specs.Float.Ieee.Scale.{finite}
use Rattle.float.specs.Laws.Signed.{sp, sn, P, N, D, D_pos, le→, →le}
use Rattle.float.specs.Laws.Operations.{Rounds, FLe, rounds_le, add_rounds, mul_rounds, finite_neg, neg_P, neg_N, neg_D}
use Rattle.float.specs.Laws.Order.{sign_of, div_rounds}
use Rattle.float.specs.Laws.Magnitude.{Within, has_finite}
use Rattle.float.specs.Laws.Intervals.{Between, in_finite}
use Rattle.float.specs.Laws.Remainder.{Whole}
use Rattle.float.specs.Laws.Whole.{Rule, ByRule, whole_mono, whole_own, has_whole}

-- a - b ≤ (p - n) / d
abbrev pub From : ℕ → ℕ → ℕ → ℕ → ℕ → Type 0
From a b p n d = a * d + n ≤ p + b * d

pub record Spans (a b c d : ℕ) (x : Float) : Type 0 where
  pub is_finite : T (finite x)
  pub low : From a b (P x) (N x) (D x)
  pub high : From d c (N x) (P x) (D x)

abbrev pub Few : ℕ → ℕ → ℕ → ℕ → Type 0
Few a b c d = a + b + c + d ≤ 2 ^ 53

-- ---- from one fraction to another
through : (a b p n d p' n' d' : ℕ) → 0 < d → From a b p n d → FLe p n d p' n' d' → From a b p' n' d'
through a b p n d p' n' d' E h k = le_of_mul-le-mul_right (omega (arith, mul-le-mul_right d' h)) E

-- from a bound to a wider one
wider_from : (a b a' b' p n d : ℕ) → a' + b ≤ a + b' → From a b p n d → From a' b' p n d
wider_from a b a' b' p n d h k = omega (arith, mul-le-mul_right d h)

pub looser : {a b c d : ℕ} (a' b' c' d' : ℕ) {x : Float} → a' + b ≤ a + b' → c + d' ≤ c' + d → Spans a b c d x → Spans a' b' c' d' x
looser {a} {b} {c} {d} a' b' c' d' {x} h k s = record {
  is_finite = s.is_finite;
  low = wider_from a b a' b' (P x) (N x) (D x) h s.low;
  high = wider_from d c d' c' (N x) (P x) (D x) (omega arith) s.high;
}

-- ---- the number a - b as a float
record End (a b : ℕ) : Type 0 where
  sign : Bool
  size : ℕ
  val : sp sign size + b ≡ sn sign size + a
  most : size ≤ 2 ^ 53

end : (a b : ℕ) → a + b ≤ 2 ^ 53 → End a b
end a b h = go (leb b a) (leb→le b a) (nleb→lt b a)
  where
    go : (t : Bool) → (T t → b ≤ a) → (T (not t) → a < b) → End a b
    go true f g = let l = f tt in record { sign = false; size = a - b; val = omega arith; most = omega arith }
    go false f g = let l = g tt in record { sign = true; size = b - a; val = omega arith; most = omega arith }

module _ {a b : ℕ} (E : End a b) where
  value : Float
  value = round binary64 E.sign E.size 1

  value_has : HasValue value E.sign E.size 1
  unfolding value
  value_has = round_whole binary64 E.sign E.size E.most

  value_finite : T (finite value)
  value_finite = has_finite value E.sign E.size 1 value_has

  value_rounds : Rounds binary64 value a b 1
  unfolding value
  value_rounds = record { sign = E.sign; size = E.size; is = refl; val = E.val; den = pow_pos 0 }

  value-is : Spans a b a b value
  value-is = go value E.sign E.size value_has E.val
    where
      go : (z : Float) (s : Bool) (w : ℕ) → HasValue z s w 1 → sp s w + b ≡ sn s w + a → Spans a b a b z
      go nan s w h v = absurd h
      go (inf t) s w h v = absurd h
      go (fin t m e) s w h v = subst (λ (u : Bool). Spans a b a b (fin u m e)) (sym h.0) (at s v)
        where
          at : (s : Bool) → sp s w + b ≡ sn s w + a → Spans a b a b (fin s m e)
          at true v = record { is_finite = tt; low = omega (arith, h.1, ap (λ (k : ℕ). k * down e) v); high = omega (arith, h.1, ap (λ (k : ℕ). k * down e) v) }
          at false v = record { is_finite = tt; low = omega (arith, h.1, ap (λ (k : ℕ). k * down e) v); high = omega (arith, h.1, ap (λ (k : ℕ). k * down e) v) }

-- ---- from the order to whole bounds, and back
turned : (p n d q m e : ℕ) → FLe p n d q m e → FLe m q e n p d
turned p n d q m e h = omega arith

pub between_spans : (a b c d : ℕ) (lo hi x : Float) → From a b (P lo) (N lo) (D lo) → From d c (N hi) (P hi) (D hi) → Between lo hi x → Spans a b c d x
between_spans a b c d lo hi x f g i =
    let F = in_finite lo hi x i in
    record {
      is_finite = F;
      low = through a b (P lo) (N lo) (D lo) (P x) (N x) (D x) (D_pos lo) f (le→ lo x i.fl F i.low);
      high = through d c (N hi) (P hi) (D hi) (N x) (P x) (D x) (D_pos hi) g (turned (P x) (N x) (D x) (P hi) (N hi) (D hi) (le→ x hi F i.fh i.high));
    }

-- two fractions with a - b between them
across : (a b p n d p' n' d' : ℕ) → From b a n p d → From a b p' n' d' → FLe p n d p' n' d'
across a b p n d p' n' d' h k = omega (arith, mul-le-mul_right d' h, mul-le-mul_right d k)

pub spans_between : (a b c d : ℕ) (lo hi x : Float) → T (finite lo) → T (finite hi) → From b a (N lo) (P lo) (D lo) → From c d (P hi) (N hi) (D hi) → Spans a b c d x → Between lo hi x
spans_between a b c d lo hi x p q f g s = record {
  low = →le lo x p s.is_finite (across a b (P lo) (N lo) (D lo) (P x) (N x) (D x) f s.low);
  high = →le x hi s.is_finite q (across c d (P x) (N x) (D x) (P hi) (N hi) (D hi) s.high g);
  fl = p;
  fh = q;
}

-- x between two ends, where those are c, the whole number k, and its opposite
pub ends_spans : (k : ℕ) (c x : Float) → Whole c k → Between (neg c) c x → Spans 0 k k 0 x
ends_spans k c x v i = between_spans 0 k k 0 (neg c) c x (rw (neg_P c, neg_N c, neg_D c, v.up_is) (omega arith)) (omega (arith, v.up_is, v.no_minus)) i

pub spans_ends : (k : ℕ) (c x : Float) → Whole c k → Spans 0 k k 0 x → Between (neg c) c x
spans_ends k c x v s =
    spans_between 0 k k 0 (neg c) c x (finite_neg c v.is_finite) v.is_finite (rw (neg_P c, neg_N c, neg_D c, v.no_minus, v.up_is) (omega arith)) (omega (arith, v.up_is, v.no_minus)) s

-- ---- a fraction rounded
pub rounds_spans : (a b c d : ℕ) (z : Float) (p n e : ℕ) → Few a b c d → Rounds binary64 z p n e → From a b p n e → From d c n p e → Spans a b c d z
rounds_spans a b c d z p n e w r f g =
    let A = end a b (omega arith) in
    let C = end c d (omega arith) in
    between_spans a b c d (value A) (value C) z (value-is A).low (value-is C).high (record {
      low = rounds_le binary64 (value A) z a b 1 p n e (value_rounds A) r (omega arith);
      high = rounds_le binary64 z (value C) p n e c d 1 r (value_rounds C) (omega arith);
      fl = value_finite A;
      fh = value_finite C;
    })

-- ---- the operations
pub neg_spans : {a b c d : ℕ} {x : Float} → Spans a b c d x → Spans d c b a (neg x)
neg_spans {x = x} s = record { is_finite = finite_neg x s.is_finite; low = rw (neg_P x, neg_N x, neg_D x) s.high; high = rw (neg_P x, neg_N x, neg_D x) s.low }

plus-from : (a b p n d a' b' p' n' d' : ℕ) → From a b p n d → From a' b' p' n' d' → From (a + a') (b + b') (p * d' + p' * d) (n * d' + n' * d) (d * d')
plus-from a b p n d a' b' p' n' d' h k = omega (arith, mul-le-mul_right d' h, mul-le-mul_right d k)

pub add_spans : {a b c d a' b' c' d' : ℕ} {x y : Float} → Few (a + a') (b + b') (c + c') (d + d') → Spans a b c d x → Spans a' b' c' d' y → Spans (a + a') (b + b') (c + c') (d + d') (add binary64 x y)
add_spans {a} {b} {c} {d} {a'} {b'} {c'} {d'} {x} {y} w s t =
    rounds_spans (a + a') (b + b') (c + c') (d + d') (add binary64 x y) _ _ _ w (add_rounds binary64 x y s.is_finite t.is_finite)
    (plus-from a b (P x) (N x) (D x) a' b' (P y) (N y) (D y) s.low t.low)
    (plus-from d c (N x) (P x) (D x) d' c' (N y) (P y) (D y) s.high t.high)

pub sub_spans : {a b c d a' b' c' d' : ℕ} {x y : Float} → Few (a + d') (b + c') (c + b') (d + a') → Spans a b c d x → Spans a' b' c' d' y → Spans (a + d') (b + c') (c + b') (d + a') (sub binary64 x y)
unfolding sub
sub_spans w s t = add_spans w s (neg_spans t)

times_from : (k a b p n d q e : ℕ) → q ≡ k * e → From a b p n d → From (k * a) (k * b) (p * q) (n * q) (d * e)
times_from k a b p n d q e h f = rw h (omega (arith, mul-le-mul_right (k * e) f))

pub mul_spans : (k : ℕ) {a b c d : ℕ} {x : Float} (y : Float) → Whole y k → Few (k * a) (k * b) (k * c) (k * d) → Spans a b c d x → Spans (k * a) (k * b) (k * c) (k * d) (mul binary64 x y)
mul_spans k {a} {b} {c} {d} {x} y v w s =
    rounds_spans (k * a) (k * b) (k * c) (k * d) (mul binary64 x y) _ _ _ w (mul_rounds binary64 x y s.is_finite v.is_finite)
    (none-added (P x) (N x) (P y) (N y) (k * a) (k * b) (D x * D y) v.no_minus (times_from k a b (P x) (N x) (D x) (P y) (D y) v.up_is s.low))
    (none_added' (P x) (N x) (P y) (N y) (k * d) (k * c) (D x * D y) v.no_minus (times_from k d c (N x) (P x) (D x) (P y) (D y) v.up_is s.high))
  where
    none-added : (p n q m a b d : ℕ) → m ≡ 0 → From a b (p * q) (n * q) d → From a b (p * q + n * m) (p * m + n * q) d
    none-added p n q m a b d z h = rw z (omega arith)

    none_added' : (p n q m a b d : ℕ) → m ≡ 0 → From a b (n * q) (p * q) d → From a b (p * m + n * q) (p * q + n * m) d
    none_added' p n q m a b d z h = rw z (omega arith)

over_from : (k a b p n d q e : ℕ) → q ≡ k * e → From (k * a) (k * b) p n d → From a b (p * e) (n * e) (q * d)
over_from k a b p n d q e h f = rw h (omega (arith, mul-le-mul_right e f))

pub div_spans : (k : ℕ) {a b c d : ℕ} {x : Float} (y : Float) → 0 < k → Whole y k → Few a b c d → Spans (k * a) (k * b) (k * c) (k * d) x → Spans a b c d (div binary64 x y)
div_spans k {a} {b} {c} {d} {x} y K v w s =
    rounds_spans a b c d (div binary64 x y) _ _ _ w (div_rounds binary64 x y s.is_finite v.is_finite (some k (D y) (P y) K (D_pos y) v.up_is))
    (over_from k a b (P x) (N x) (D x) (P y) (D y) v.up_is s.low)
    (over_from k d c (N x) (P x) (D x) (P y) (D y) v.up_is s.high)
  where
    some : (k d p : ℕ) → 0 < k → 0 < d → p ≡ k * d → 0 < p
    some k d p K E h = rw h (mul-pos K E)

-- trunc, ceil and round
pub whole_spans : {g : Float → Float} {r : Rule} → ByRule g r → {a b c d : ℕ} {x : Float} → Few a b c d → Spans a b c d x → Spans a b c d (g x)
whole_spans {g} R {a} {b} {c} {d} {x} w s =
    let A = end a b (omega arith) in
    let C = end c d (omega arith) in
    let i = spans_between a b c d (value A) (value C) x (value_finite A) (value_finite C) (value-is A).high (value-is C).low s in
    between_spans a b c d (value A) (value C) (g x) (value-is A).low (value-is C).high (record {
      low = subst (λ (z : Float). T (le z (g x))) (own A) (whole_mono R (value A) x (value_finite A) s.is_finite i.low);
      high = subst (λ (z : Float). T (le (g x) z)) (own C) (whole_mono R x (value C) s.is_finite (value_finite C) i.high);
      fl = value_finite A;
      fh = value_finite C;
    })
  where
    own : {a b : ℕ} (E : End a b) → g (value E) ≡ value E
    own E = whole_own R (value E) E.sign E.size (unfold value in round-fits binary64 E.sign E.size 1) (value_has E)

-- ---- sums of lists, and means
-- what holds of each
abbrev pub Each : {A : Type 0} → (A → Type 0) → List A → Type 0
Each Q [] = Unit {0}
Each Q (x ∷ xs) = Q x × Each Q xs

-- s and all of vs, added in their order
abbrev pub total : Float → List Float → Float
total s [] = s
total s (v ∷ vs) = total (add binary64 s v) vs

fewer : (a b c d j n : ℕ) → j ≤ n → Few (n * a) (n * b) (n * c) (n * d) → Few (j * a) (j * b) (j * c) (j * d)
fewer a b c d j n h w = omega (arith, mul-le-mul_right (a + b + c + d) h)

-- n values in all, j of them in s
total_spans : (a b c d : ℕ) (vs : List Float) (j n : ℕ) (s : Float) → n ≡ j + length vs → Few (n * a) (n * b) (n * c) (n * d) → Each (Spans a b c d) vs → Spans (j * a) (j * b) (j * c) (j * d) s
    → Spans (n * a) (n * b) (n * c) (n * d) (total s vs)
total_spans a b c d [] j n s e w h t = subst (λ (k : ℕ). Spans (k * a) (k * b) (k * c) (k * d) s) (back j n e) t
  where
    back : (j n : ℕ) → n ≡ j + 0 → j ≡ n
    back j n e = omega arith
total_spans a b c d (v ∷ vs) j n s e w h t =
    total_spans a b c d vs (suc j) n (add binary64 s v) (omega arith) w h.1
    (looser (suc j * a) (suc j * b) (suc j * c) (suc j * d) (omega arith) (omega arith) (add_spans (omega (arith, fewer a b c d (suc j) n (omega arith) w)) t h.0))

count-whole : (n : ℕ) → n ≤ 2 ^ 53 → Whole (of_int binary64 (pos n)) n
unfolding of_int
count-whole n h = has_whole (round binary64 false n 1) n (round_whole binary64 false n h)

zero_spans : (a b c d : ℕ) → Spans (0 * a) (0 * b) (0 * c) (0 * d) (of_bits binary64 0)
unfolding of_bits
zero_spans a b c d = record { is_finite = tt; low = omega arith; high = omega arith }

pub mean_spans : (a b c d : ℕ) (vs : List Float) (n : ℕ) → n ≡ length vs → 0 < n → n ≤ 2 ^ 53 → Few (n * a) (n * b) (n * c) (n * d) → Each (Spans a b c d) vs
    → Spans a b c d (div binary64 (total (of_bits binary64 0) vs) (of_int binary64 (pos n)))
mean_spans a b c d vs n e L M w h =
    div_spans n (of_int binary64 (pos n)) L (count-whole n M) (omega (arith, fewer a b c d 1 n L w)) (total_spans a b c d vs 0 n (of_bits binary64 0) (omega arith) w h (zero_spans a b c d))

-- ---- magnitudes
pub within_spans : (k : ℕ) (x : Float) → Within k x → Spans 0 (2 ^ k) (2 ^ k) 0 x
within_spans k x w = record { is_finite = w.is_finite; low = omega (arith, w.size); high = omega (arith, w.size) }

pub spans_within : (k : ℕ) (x : Float) → Spans 0 (2 ^ k) (2 ^ k) 0 x → Within k x
spans_within k x s = record { is_finite = s.is_finite; size = elim (sign_of x) [ inl z ↦ omega (arith, s.high) | inr z ↦ omega (arith, s.low) ] }

-- the ends as floats
abbrev pub plus2^ : ℕ → Float
plus2^ k = fin false 1 (pos k)

abbrev pub minus2^ : ℕ → Float
minus2^ k = fin true 1 (pos k)

pub within_between : (k : ℕ) (x : Float) → Within k x → Between (minus2^ k) (plus2^ k) x
within_between k x w = spans_between 0 (2 ^ k) (2 ^ k) 0 (minus2^ k) (plus2^ k) x tt tt (omega arith) (omega arith) (within_spans k x w)

pub between_within : (k : ℕ) (x : Float) → Between (minus2^ k) (plus2^ k) x → Within k x
between_within k x i = spans_within k x (between_spans 0 (2 ^ k) (2 ^ k) 0 (minus2^ k) (plus2^ k) x (omega arith) (omega arith) i)

-- ---- x lies from plus - minus, its whole part downward, to one more
pub record Floor (k : ℕ) (x : Float) : Type 0 where
  pub plus : ℕ
  pub minus : ℕ
  pub spans : Spans plus minus (suc plus) minus x
  pub most : plus + minus ≤ suc (2 ^ k)

pub floor : (k : ℕ) (x : Float) → Within k x → Floor k x
floor k nan w = absurd w.is_finite
floor k (inf s) w = absurd w.is_finite
floor k (fin s m e) w = go s w.size
  where
    q : ℕ
    q = m * up e / down e

    low : q * down e ≤ m * up e
    low = div-mul-le_self (m * up e) (down e)

    high : m * up e ≤ suc q * down e
    high = next (m * up e) (down e) q (div-add-mod' (m * up e) (down e)) (mod-lt (m * up e) (down_pos e))
      where
        next : (a d q : ℕ) {r : ℕ} → q * d + r ≡ a → r < d → a ≤ suc q * d
        next a d q h l = omega arith

    few : m * up e ≤ 2 ^ k * down e → q ≤ 2 ^ k
    few h = le_of_mul-le-mul_right (le_trans low h) (down_pos e)

    go : (s : Bool) → P (fin s m e) + N (fin s m e) ≤ 2 ^ k * down e → Floor k (fin s m e)
    go true h = record { plus = 0; minus = suc q; spans = record { is_finite = tt; low = omega (arith, high); high = omega (arith, low) }; most = let f = few (omega arith) in omega arith }
    go false h = record { plus = q; minus = 0; spans = record { is_finite = tt; low = omega (arith, low); high = omega (arith, high) }; most = let f = few (omega arith) in omega arith }

pub each_map : {A B : Type 0} (f : A → B) (Q : A → Type 0) (R : B → Type 0) → ((a : A) → Q a → R (f a)) → (l : List A) → Each Q l → Each R (map f l)
each_map f Q R g [] h = tt
each_map f Q R g (a ∷ l) h = (g a h.0, each_map f Q R g l h.1)

-- ---- 1,000,000, condition 4's limit
-- its f64
abbrev pub million : Float
million = of_bits binary64 0x412e848000000000

abbrev pub m_million : Float
m_million = neg million

pub whole-million : Whole million 1000000
unfolding of_bits
whole-million = record { is_finite = tt; up_is = refl; no_minus = refl }
