-- Intervals of finite values with computed ends: each operation on them holds what the operation gives on their
-- members. `top` says nothing.
use Rattle.std.specs.Prelude.{◌≡◌, refl, ◌⊎◌, List, [], ◌∷◌, Bool, true, false, ◌&&◌, ◌<◌, T, ltb, Float}
use Rattle.std.proofs.Common.{sym, subst, inl, inr, mul-pos, ltb→lt}
use Rattle.std.specs.Float.{nan, inf, fin, binary64}
use Rattle.std.specs.Float.Ieee.{neg, add, sub, mul, div, le}
use Rattle.std.specs.Float.Ieee.Fits.{up_pos, and_l, and_r}
use Rattle.std.specs.Float.Ieee.Scale.{finite}
unfoldable pub use Rattle.float.specs.Horner.{horner}
pub use Rattle.float.specs.Laws.Horner.{horner-step}
use Rattle.float.specs.Laws.Signed.{P, N, neg_le}
use Rattle.float.specs.Laws.Operations.{add_mono, finite_neg}
use Rattle.float.specs.Laws.Quick.{Same, qneg, qadd, qsub, qmul, qdiv, neg_is, add_same, sub_same, mul_same, div_same}
use Rattle.float.specs.Laws.Order.{le_trans, le_refl, le_total, finite_of, nonneg_of, pos_of, sub_mono, mul_up, mul_down, mul_up_r, mul_down_r, mul_swap, div_up, div_anti, div_grow, div_negs}

pub data Iv : Type 0 where
  top : Iv
  iv : Float → Float → Iv

pub record Between (lo hi x : Float) : Type 0 where
  pub low : T (le lo x)
  pub high : T (le x hi)
  pub fl : T (finite lo)
  pub fh : T (finite hi)

abbrev pub In : Iv → Float → Type 0
In top x = Unit {0}
In (iv lo hi) x = Between lo hi x

pub in_finite : (lo hi x : Float) → Between lo hi x → T (finite x)
in_finite lo hi x b = finite_of lo x hi b.fl b.fh b.low b.high

-- it matches on both ends, so they are computed once
abbrev pub mk : Float → Float → Iv
mk nan y = top
mk (inf s) y = top
mk (fin s m e) nan = top
mk (fin s m e) (inf t) = top
mk (fin s m e) (fin t n d) = iv (fin s m e) (fin t n d)

pub mk_in : (lo hi x : Float) → T (le lo x) → T (le x hi) → In (mk lo hi) x
mk_in nan y x h k = tt
mk_in (inf s) y x h k = tt
mk_in (fin s m e) nan x h k = tt
mk_in (fin s m e) (inf t) x h k = tt
mk_in (fin s m e) (fin t n d) x h k = record { low = h; high = k; fl = tt; fh = tt }

-- the interval that `mk` makes, with ends that equal lo' and hi' where they are finite
mk_same : (lo lo' hi hi' x : Float) → (T (finite lo) → Same lo lo') → (T (finite hi) → Same hi hi') → T (le lo' x) → T (le x hi') → In (mk lo hi) x
mk_same nan lo' hi hi' x p q h k = tt
mk_same (inf s) lo' hi hi' x p q h k = tt
mk_same (fin s m e) lo' nan hi' x p q h k = tt
mk_same (fin s m e) lo' (inf t) hi' x p q h k = tt
mk_same (fin s m e) lo' (fin t n d) hi' x p q h k = record { low = le_trans (fin s m e) lo' x (p tt).0 h; high = le_trans x hi' (fin t n d) k (q tt).1; fl = tt; fh = tt }

-- ---- neg, add, sub
abbrev pub ineg : Iv → Iv
ineg top = top
ineg (iv a b) = mk (qneg b) (qneg a)

pub neg_in : (I : Iv) (x : Float) → In I x → In (ineg I) (neg x)
neg_in top x i = tt
neg_in (iv a b) x i = mk_in (qneg b) (qneg a) (neg x) (subst (λ (z : Float). T (le z (neg x))) (sym (neg_is b)) (neg_le x b i.high)) (subst (λ (z : Float). T (le (neg x) z)) (sym (neg_is a)) (neg_le a x i.low))

abbrev pub iadd : Iv → Iv → Iv
iadd top J = top
iadd (iv a b) top = top
iadd (iv a b) (iv c d) = mk (qadd a c) (qadd b d)

pub add_in : (I J : Iv) (x y : Float) → In I x → In J y → In (iadd I J) (add binary64 x y)
add_in top J x y i j = tt
add_in (iv a b) top x y i j = tt
add_in (iv a b) (iv c d) x y i j =
    let p = in_finite a b x i in
    let q = in_finite c d y j in
    mk_same (qadd a c) (add binary64 a c) (qadd b d) (add binary64 b d) (add binary64 x y) (add_same a c) (add_same b d) (add_mono binary64 a x c y i.fl p j.fl q i.low j.low) (add_mono binary64 x b y d p i.fh q j.fh i.high j.high)

abbrev pub isub : Iv → Iv → Iv
isub top J = top
isub (iv a b) top = top
isub (iv a b) (iv c d) = mk (qsub a d) (qsub b c)

pub sub_in : (I J : Iv) (x y : Float) → In I x → In J y → In (isub I J) (sub binary64 x y)
sub_in top J x y i j = tt
sub_in (iv a b) top x y i j = tt
sub_in (iv a b) (iv c d) x y i j =
    let p = in_finite a b x i in
    let q = in_finite c d y j in
    mk_same (qsub a d) (sub binary64 a d) (qsub b c) (sub binary64 b c) (sub binary64 x y) (sub_same a d) (sub_same b c) (sub_mono binary64 a x d y i.fl p j.fh q i.low j.high) (sub_mono binary64 x b y c p i.fh q j.fl i.high j.low)

-- ---- mul
abbrev pub minus? : Float → Bool
minus? nan = false
minus? (inf s) = s
minus? (fin s m e) = s

plus-N : (x : Float) → minus? x ≡ false → N x ≡ 0
plus-N nan h = refl
plus-N (inf s) h = refl
plus-N (fin true m e) h = absurd (subst (λ (b : Bool). T b) h tt)
plus-N (fin false m e) h = refl

minus_P : (x : Float) → minus? x ≡ true → P x ≡ 0
minus_P nan h = refl
minus_P (inf s) h = refl
minus_P (fin true m e) h = refl
minus_P (fin false m e) h = absurd (subst (λ (b : Bool). T b) (sym h) tt)

-- [a, b] with a not negative, times [c, d]
abbrev pub pick : Bool → Float → Float → Float → Float
pick s a b c = elim s [ true ↦ mul binary64 b c | false ↦ mul binary64 a c ]

low_in : (s : Bool) (a b x c : Float) → minus? c ≡ s → Between a b x → T (finite c) → T (le (pick s a b c) (mul binary64 x c))
low_in true a b x c h i q = mul_down binary64 x b c (in_finite a b x i) i.fh q (minus_P c h) i.high
low_in false a b x c h i q = mul_up binary64 a x c i.fl (in_finite a b x i) q (plus-N c h) i.low

high_in : (s : Bool) (a b x d : Float) → minus? d ≡ s → Between a b x → T (finite d) → T (le (mul binary64 x d) (pick s b a d))
high_in true a b x d h i q = mul_down binary64 a x d i.fl (in_finite a b x i) q (minus_P d h) i.low
high_in false a b x d h i q = mul_up binary64 x b d (in_finite a b x i) i.fh q (plus-N d h) i.high

abbrev pub qpick : Bool → Float → Float → Float → Float
qpick s a b c = elim s [ true ↦ qmul b c | false ↦ qmul a c ]

pick_same : (s : Bool) (a b c : Float) → T (finite (qpick s a b c)) → Same (qpick s a b c) (pick s a b c)
pick_same true a b c h = mul_same b c h
pick_same false a b c h = mul_same a c h

abbrev pub imulp : Float → Float → Float → Float → Iv
imulp a b c d = mk (qpick (minus? c) a b c) (qpick (minus? d) b a d)

mulp_in : (a b c d x y : Float) → N a ≡ 0 → Between a b x → Between c d y → In (imulp a b c d) (mul binary64 x y)
mulp_in a b c d x y z i j =
    let p = in_finite a b x i in
    let q = in_finite c d y j in
    let w = nonneg_of a x i.fl p z i.low in
    mk_same (qpick (minus? c) a b c) (pick (minus? c) a b c) (qpick (minus? d) b a d) (pick (minus? d) b a d) (mul binary64 x y) (pick_same (minus? c) a b c) (pick_same (minus? d) b a d)
    (le_trans (pick (minus? c) a b c) (mul binary64 x c) (mul binary64 x y) (low_in (minus? c) a b x c refl i j.fl) (mul_up_r binary64 x c y p j.fl q w j.low))
    (le_trans (mul binary64 x y) (mul binary64 x d) (pick (minus? d) b a d) (mul_up_r binary64 x y d p q j.fh w j.high) (high_in (minus? d) a b x d refl i j.fh))

-- x times [c, d]
abbrev pub imul1 : Bool → Float → Float → Float → Iv
imul1 true x c d = mk (qmul x d) (qmul x c)
imul1 false x c d = mk (qmul x c) (qmul x d)

mul1_in : (s : Bool) (x c d y : Float) → minus? x ≡ s → T (finite x) → Between c d y → In (imul1 s x c d) (mul binary64 x y)
mul1_in true x c d y h p j =
    let q = in_finite c d y j in
    mk_same (qmul x d) (mul binary64 x d) (qmul x c) (mul binary64 x c) (mul binary64 x y) (mul_same x d) (mul_same x c) (mul_down_r binary64 x y d p q j.fh (minus_P x h) j.high) (mul_down_r binary64 x c y p j.fl q (minus_P x h) j.low)
mul1_in false x c d y h p j =
    let q = in_finite c d y j in
    mk_same (qmul x c) (mul binary64 x c) (qmul x d) (mul binary64 x d) (mul binary64 x y) (mul_same x c) (mul_same x d) (mul_up_r binary64 x c y p j.fl q (plus-N x h) j.low) (mul_up_r binary64 x y d p q j.fh (plus-N x h) j.high)

abbrev pub fmin : Float → Float → Float
fmin x y = elim (le x y) [ true ↦ x | false ↦ y ]

abbrev pub fmax : Float → Float → Float
fmax x y = elim (le x y) [ true ↦ y | false ↦ x ]

ord : (x y : Float) → T (finite x) → T (finite y) → (b : Bool) → le x y ≡ b → (T (le (elim b [ true ↦ x | false ↦ y ]) x) × T (le (elim b [ true ↦ x | false ↦ y ]) y)) × (T (le x (elim b [ true ↦ y | false ↦ x ])) × T (le y (elim b [ true ↦ y | false ↦ x ])))
ord x y p q true h = let l : T (le x y) = subst (λ (b : Bool). T b) (sym h) tt in ((le_refl x p, l), (l, le_refl y q))
ord x y p q false h =
    let l : T (le y x) = elim (le_total x y p q) [ inl k ↦ absurd (subst (λ (b : Bool). T b) h k) | inr k ↦ k ] in
    ((l, le_refl y q), (le_refl x p, l))

abbrev pub ihull : Iv → Iv → Iv
ihull top J = top
ihull (iv a b) top = top
ihull (iv a b) (iv c d) = mk (fmin a c) (fmax b d)

abbrev Mid : Float → Float → Float → Type 0
Mid u w z = (T (le u z) × T (le z w)) ⊎ (T (le w z) × T (le z u))

hull_in : (I J : Iv) (u w z : Float) → In I u → In J w → Mid u w z → In (ihull I J) z
hull_in top J u w z i j m = tt
hull_in (iv a b) top u w z i j m = tt
hull_in (iv a b) (iv c d) u w z i j m =
    let l = ord a c i.fl j.fl (le a c) refl in
    let h = ord b d i.fh j.fh (le b d) refl in
    elim m [
      | inl k ↦ mk_in (fmin a c) (fmax b d) z (le_trans (fmin a c) u z (le_trans (fmin a c) a u l.0.0 i.low) k.0) (le_trans z w (fmax b d) k.1 (le_trans w d (fmax b d) j.high h.1.1))
      | inr k ↦ mk_in (fmin a c) (fmax b d) z (le_trans (fmin a c) w z (le_trans (fmin a c) c w l.0.1 j.low) k.0) (le_trans z u (fmax b d) k.1 (le_trans u b (fmax b d) i.high h.1.0))
    ]

abbrev pub imulg : Float → Float → Float → Float → Iv
imulg a b c d = ihull (imul1 (minus? a) a c d) (imul1 (minus? b) b c d)

mulg_in : (a b c d x y : Float) → Between a b x → Between c d y → In (imulg a b c d) (mul binary64 x y)
mulg_in a b c d x y i j =
    let p = in_finite a b x i in
    let q = in_finite c d y j in
    hull_in (imul1 (minus? a) a c d) (imul1 (minus? b) b c d) (mul binary64 a y) (mul binary64 b y) (mul binary64 x y)
    (mul1_in (minus? a) a c d y refl i.fl j) (mul1_in (minus? b) b c d y refl i.fh j)
    (mid (minus? y) refl p q)
  where
    mid : (s : Bool) → minus? y ≡ s → T (finite x) → T (finite y) → Mid (mul binary64 a y) (mul binary64 b y) (mul binary64 x y)
    mid true h p q = inr (mul_down binary64 x b y p i.fh q (minus_P y h) i.high, mul_down binary64 a x y i.fl p q (minus_P y h) i.low)
    mid false h p q = inl (mul_up binary64 a x y i.fl p q (plus-N y h) i.low, mul_up binary64 x b y p i.fh q (plus-N y h) i.high)

abbrev pub imul2 : Bool → Bool → Float → Float → Float → Float → Iv
imul2 s false a b c d = imulp c d a b
imul2 false true a b c d = imulp a b c d
imul2 true true a b c d = imulg a b c d

abbrev pub imul : Iv → Iv → Iv
imul top J = top
imul (iv a b) top = top
imul (iv a b) (iv c d) = imul2 (minus? a) (minus? c) a b c d

mul2_in : (s t : Bool) (a b c d x y : Float) → minus? a ≡ s → minus? c ≡ t → Between a b x → Between c d y → In (imul2 s t a b c d) (mul binary64 x y)
mul2_in s false a b c d x y h k i j = subst (λ (z : Float). In (imulp c d a b) z) (mul_swap binary64 y x (in_finite c d y j) (in_finite a b x i)) (mulp_in c d a b y x (plus-N c k) j i)
mul2_in false true a b c d x y h k i j = mulp_in a b c d x y (plus-N a h) i j
mul2_in true true a b c d x y h k i j = mulg_in a b c d x y i j

pub mul_in : (I J : Iv) (x y : Float) → In I x → In J y → In (imul I J) (mul binary64 x y)
mul_in top J x y i j = tt
mul_in (iv a b) top x y i j = tt
mul_in (iv a b) (iv c d) x y i j = mul2_in (minus? a) (minus? c) a b c d x y refl refl i j

-- ---- div, by an interval above zero or below it
abbrev pub above? : Float → Bool
above? nan = false
above? (inf s) = false
above? (fin true m e) = false
above? (fin false m e) = ltb 0 m

above-P : (x : Float) → T (above? x) → 0 < P x
above-P nan h = absurd h
above-P (inf s) h = absurd h
above-P (fin true m e) h = absurd h
above-P (fin false m e) h = mul-pos (ltb→lt 0 m h) (up_pos e)

abbrev pub pickd : Bool → Float → Float → Float → Float
pickd s a c d = elim s [ true ↦ div binary64 a c | false ↦ div binary64 a d ]

abbrev pub qpickd : Bool → Float → Float → Float → Float
qpickd s a c d = elim s [ true ↦ qdiv a c | false ↦ qdiv a d ]

pickd_same : (s : Bool) (a c d : Float) → T (finite (qpickd s a c d)) → Same (qpickd s a c d) (pickd s a c d)
pickd_same true a c d h = div_same a c h
pickd_same false a c d h = div_same a d h

abbrev pub idivp : Bool → Float → Float → Float → Float → Iv
idivp false a b c d = top
idivp true a b c d = mk (qpickd (minus? a) a c d) (qpickd (minus? b) b d c)

divp_in : (s : Bool) (a b c d x y : Float) → (T s → T (above? c)) → Between a b x → Between c d y → In (idivp s a b c d) (div binary64 x y)
divp_in false a b c d x y z i j = tt
divp_in true a b c d x y z i j =
    mk_same (qpickd (minus? a) a c d) (pickd (minus? a) a c d) (qpickd (minus? b) b d c) (pickd (minus? b) b d c) (div binary64 x y) (pickd_same (minus? a) a c d) (pickd_same (minus? b) b d c)
    (le_trans (pickd (minus? a) a c d) (div binary64 a y) (div binary64 x y) (low (minus? a) refl) (div_up binary64 a x y i.fl p q py i.low))
    (le_trans (div binary64 x y) (div binary64 b y) (pickd (minus? b) b d c) (div_up binary64 x b y p i.fh q py i.high) (high (minus? b) refl))
  where
    p : T (finite x)
    p = in_finite a b x i

    q : T (finite y)
    q = in_finite c d y j

    pc : 0 < P c
    pc = above-P c (z tt)

    py : 0 < P y
    py = pos_of c y j.fl q pc j.low

    pd : 0 < P d
    pd = pos_of y d q j.fh py j.high

    low : (s : Bool) → minus? a ≡ s → T (le (pickd s a c d) (div binary64 a y))
    low true h = div_grow binary64 a c y i.fl j.fl q pc py (minus_P a h) j.low
    low false h = div_anti binary64 a y d i.fl q j.fh py pd (plus-N a h) j.high

    high : (s : Bool) → minus? b ≡ s → T (le (div binary64 b y) (pickd s b d c))
    high true h = div_grow binary64 b y d i.fh q j.fh py pd (minus_P b h) j.high
    high false h = div_anti binary64 b c y i.fh j.fl q pc py (plus-N b h) j.low

abbrev pub idiv2 : Bool → Float → Float → Float → Float → Iv
idiv2 true a b c d = idivp (above? c) a b c d
idiv2 false a b c d = idivp (above? (neg d)) (neg b) (neg a) (neg d) (neg c)

abbrev pub idiv : Iv → Iv → Iv
idiv top J = top
idiv (iv a b) top = top
idiv (iv a b) (iv c d) = idiv2 (above? c) a b c d

neg_b : (a b x : Float) → Between a b x → Between (neg b) (neg a) (neg x)
neg_b a b x i = record { low = neg_le x b i.high; high = neg_le a x i.low; fl = finite_neg b i.fh; fh = finite_neg a i.fl }

div2_in : (s : Bool) (a b c d x y : Float) → Between a b x → Between c d y → In (idiv2 s a b c d) (div binary64 x y)
div2_in true a b c d x y i j = divp_in (above? c) a b c d x y (λ h. h) i j
div2_in false a b c d x y i j =
    subst (λ (z : Float). In (idivp (above? (neg d)) (neg b) (neg a) (neg d) (neg c)) z) (sym (div_negs binary64 x y (in_finite a b x i) (in_finite c d y j)))
    (divp_in (above? (neg d)) (neg b) (neg a) (neg d) (neg c) (neg x) (neg y) (λ h. h) (neg_b a b x i) (neg_b c d y j))

pub div_in : (I J : Iv) (x y : Float) → In I x → In J y → In (idiv I J) (div binary64 x y)
div_in top J x y i j = tt
div_in (iv a b) top x y i j = tt
div_in (iv a b) (iv c d) x y i j = div2_in (above? c) a b c d x y i j

-- ---- a series by Horner
abbrev pub ihorner : Iv → List Float → Iv → Iv
ihorner acc [] v = acc
ihorner acc (c ∷ cs) v = ihorner (iadd (imul acc v) (mk c c)) cs v

pub point_in_lem : (c : Float) → In (mk c c) c
point_in_lem nan = tt
point_in_lem (inf s) = tt
point_in_lem (fin s m e) = record { low = le_refl (fin s m e) tt; high = le_refl (fin s m e) tt; fl = tt; fh = tt }

pub horner_in : (A : Iv) (cs : List Float) (W : Iv) (a v : Float) → In A a → In W v → In (ihorner A cs W) (horner a cs v)
unfolding horner
horner_in A [] W a v i j = i
horner_in A (c ∷ cs) W a v i j =
    horner_in (iadd (imul A W) (mk c c)) cs W (add binary64 (mul binary64 a v) c) v (add_in (imul A W) (mk c c) (mul binary64 a v) c (mul_in A W a v i j) (point_in_lem c)) j

-- ---- the last test
abbrev pub inside : Iv → Float → Float → Bool
inside top lo hi = false
inside (iv a b) lo hi = le lo a && le b hi

pub inside_in : (I : Iv) (lo hi x : Float) → T (inside I lo hi) → In I x → T (le lo x) × T (le x hi)
inside_in top lo hi x t i = absurd t
inside_in (iv a b) lo hi x t i = (le_trans lo a x (and_l (le lo a) (le b hi) t) i.low, le_trans x b hi i.high (and_r (le lo a) (le b hi) t))
