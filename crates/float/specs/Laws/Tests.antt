-- What the answer of a test says. Assumes nothing.
use Rattle.std.specs.Prelude.{◌≡◌, refl, ◌⊎◌, Bool, true, false, not, ◌||◌, T, Float}
use Rattle.std.proofs.Common.{sym, ap, subst, inl, inr}
use Rattle.std.proofs.Math.Dec.{not_T}
use Rattle.std.specs.Float.{nan, inf, fin}
use Rattle.std.specs.Float.Ieee.{ne, is_nan}
use Rattle.std.specs.Float.Ieee.Bits.{is_false}
use Rattle.std.specs.Float.Ieee.Compare.{differs_from_itself}
use Rattle.float.specs.Functions.{pick}

pub yes : (b : Bool) → b ≡ true → T b
yes b h = subst (λ (c : Bool). T c) (sym h) tt

pub no : (b : Bool) → b ≡ false → T b → ⊥
no b h t = subst (λ (c : Bool). T c) h t

pub or_split : (a b : Bool) → T (a || b) → T a ⊎ T b
or_split true b t = inl tt
or_split false b t = inr t

pub or_left : (a b : Bool) → T a → T (a || b)
or_left true b t = tt
or_left false b t = absurd t

-- ---- the arms of a test
pub taken : (b : Bool) (x y : Float) → b ≡ true → x ≡ pick b x y
taken b x y h = sym (ap (λ (c : Bool). pick c x y) h)

pub left : (b : Bool) (x y : Float) → b ≡ false → y ≡ pick b x y
left b x y h = sym (ap (λ (c : Bool). pick c x y) h)

nan_no : (x : Float) → T (not (is_nan x)) → x ≡ nan → ⊥
unfolding is_nan
nan_no x h e = subst (λ (v : Float). T (not (is_nan v))) e h

-- a NaN is what differs from itself
pub nan_test : (x : Float) → is_nan x ≡ ne x x
unfolding is_nan ne
nan_test nan = refl
nan_test (inf true) = refl
nan_test (inf false) = refl
nan_test (fin s m e) = sym (is_false (ne (fin s m e) (fin s m e)) (not_T (ne (fin s m e) (fin s m e)) (λ t. nan_no (fin s m e) tt (differs_from_itself (fin s m e) t))))
