-- Names of a table that wait for their first mention: after one more name is known.
use Rattle.std.specs.Prelude.{is_some}
use mathlib.Core.Path.{◌≡◌, refl, sym, ◌∙◌}
use mathlib.Core.Logic.{◌⊎◌, inl, inr}
use mathlib.Core.Bool.{Bool, true, false, ◌||◌, or-true, false≢true}
use mathlib.Core.List.{List, [], ◌∷◌}
use Prim.Native.Nat.{ℕ, ◌%◌, ◌≤◌, ◌<◌}
use native.Mathlib.Omega.{arith}
use lib.ListN.{get_or}
use borrow.Author.Tests.{eq-eqb}
use Rattle.scene.specs.declared.labels.Best.{Best}
use Rattle.scene.specs.Scene.{Scene}
use Rattle.scene.specs.Labels.{same_bytes}
use Rattle.scene.specs.Laws.Rising.{same_eq}
use Rattle.names.specs.Inner.Table.{name_of, mark_of, Contains}
use Rattle.register.specs.Register.{resolved}
use Rattle.register.specs.Inner.Gathered.{Taken, MarksTell, Fewer}

pub same_self : (x : List ℕ) → same_bytes x x ≡ true
unfolding same_bytes
same_self [] = refl
same_self (a ∷ x) = rw (eq-eqb a a refl, same_self x) refl

pub fewer_trans : (t t' t'' : List ℕ) (n : ℕ) → Fewer t t' n → Fewer t' t'' n → Fewer t t'' n
fewer_trans t t' t'' n f g i h = omega (arith, f i h, g i h)

-- entries that stand for the same_bytes names
module _ (t t' : List ℕ) (e : (i : ℕ) → get_or t' i 0 % 33554432 ≡ get_or t i 0 % 33554432) where
  pub name_stays : (more : ℕ) (l : List ℕ) (i : ℕ) → name_of more l (get_or t' i 0) ≡ name_of more l (get_or t i 0)
  name_stays more l i = rw (e i) refl

  pub in_stays : {more : ℕ} {l : List ℕ} {n : ℕ} {x : List ℕ} → Contains more l t n x → Contains more l t' n x
  in_stays {more} {l} d = record { at = d.at; within = d.within; is = name_stays more l d.at ∙ d.is }

-- `was` matters only by what it says
pub waits_by : {sc : Scene} {more : ℕ} {l t : List ℕ} {n : ℕ} {spots : List Best} {was now : List ℕ → Bool}
    → ((y : List ℕ) → now y ≡ was y) → MarksTell sc more l t n spots was → MarksTell sc more l t n spots now
waits_by {sc} {more} {l} {t} e w =
    record {
      no_more = λ i h z. rw (e (name_of more l (get_or t i 0))) (w.no_more i h z);
      resolves = w.resolves;
      unnamed = λ i h z. rw (e (name_of more l (get_or t i 0))) (w.unnamed i h z);
      spot = w.spot;
    }

-- ---- the name x is known from now on
module _ {more : ℕ} {l t t' : List ℕ} {n : ℕ} {x : List ℕ} {r : ℕ} (k : Taken more l t t' n x r) where
  -- an entry is that of x and has no mark, or it stays
  one_of : (i : ℕ) → i < n → (b : Bool) → same_bytes x (name_of more l (get_or t i 0)) ≡ b
      → ((mark_of (get_or t' i 0) ≡ 0) × (same_bytes x (name_of more l (get_or t i 0)) ≡ true)) ⊎ ((get_or t' i 0 ≡ get_or t i 0) × (same_bytes x (name_of more l (get_or t i 0)) ≡ false))
  one_of i h true e = inl (k.gone i h (sym (same_eq x (name_of more l (get_or t i 0)) e)), e)
  one_of i h false e = inr (k.others i h (λ d. false≢true (sym e ∙ rw d (same_self x))), e)

  cases : (i : ℕ) → i < n → ((mark_of (get_or t' i 0) ≡ 0) × (same_bytes x (name_of more l (get_or t i 0)) ≡ true)) ⊎ ((get_or t' i 0 ≡ get_or t i 0) × (same_bytes x (name_of more l (get_or t i 0)) ≡ false))
  cases i h = one_of i h (same_bytes x (name_of more l (get_or t i 0))) refl

  pub taken_fewer : Fewer t t' n
  taken_fewer i h = by (cases i h)
    where
      by : ((mark_of (get_or t' i 0) ≡ 0) × (same_bytes x (name_of more l (get_or t i 0)) ≡ true)) ⊎ ((get_or t' i 0 ≡ get_or t i 0) × (same_bytes x (name_of more l (get_or t i 0)) ≡ false)) → mark_of (get_or t' i 0) ≤ mark_of (get_or t i 0)
      by (inl p) = omega arith
      by (inr p) = rw p.0 (omega arith)

  module _ {sc : Scene} {spots : List Best} {was : List ℕ → Bool} (w : MarksTell sc more l t n spots was) where
    pub taken_waits : MarksTell sc more l t' n spots (λ y. was y || same_bytes x y)
    taken_waits =
        record {
          no_more = λ i h z. rw (name_stays t t' k.names more l i) (no_more i h z (cases i h));
          resolves = λ i h z. rw (name_stays t t' k.names more l i) (w.resolves i h (stays i h z).0);
          unnamed = λ i h z. rw (name_stays t t' k.names more l i, w.unnamed i h (stays i h z).0, (stays i h z).2) refl;
          spot = λ i h z f. rw (name_stays t t' k.names more l i, (stays i h z).1) (w.spot i h (stays i h z).0 (rw (stays i h z).1 at f));
        }
      where
        split : (i : ℕ) → i < n → 1 ≤ mark_of (get_or t' i 0)
            → ((mark_of (get_or t' i 0) ≡ 0) × (same_bytes x (name_of more l (get_or t i 0)) ≡ true)) ⊎ ((get_or t' i 0 ≡ get_or t i 0) × (same_bytes x (name_of more l (get_or t i 0)) ≡ false))
            → (1 ≤ mark_of (get_or t i 0)) × (get_or t' i 0 ≡ get_or t i 0) × (same_bytes x (name_of more l (get_or t i 0)) ≡ false)
        split i h z (inl p) = absurd (omega arith)
        split i h z (inr p) = (rw p.0 at z, p.0, p.1)

        stays : (i : ℕ) → i < n → 1 ≤ mark_of (get_or t' i 0)
            → (1 ≤ mark_of (get_or t i 0)) × (get_or t' i 0 ≡ get_or t i 0) × (same_bytes x (name_of more l (get_or t i 0)) ≡ false)
        stays i h z = split i h z (cases i h)

        no_more : (i : ℕ) → i < n → mark_of (get_or t' i 0) ≡ 0
            → ((mark_of (get_or t' i 0) ≡ 0) × (same_bytes x (name_of more l (get_or t i 0)) ≡ true)) ⊎ ((get_or t' i 0 ≡ get_or t i 0) × (same_bytes x (name_of more l (get_or t i 0)) ≡ false))
            → (is_some (resolved sc (name_of more l (get_or t i 0))) ≡ false) ⊎ ((was (name_of more l (get_or t i 0)) || same_bytes x (name_of more l (get_or t i 0))) ≡ true)
        no_more i h z (inl p) = inr (rw p.1 (or-true (was (name_of more l (get_or t i 0)))))
        no_more i h z (inr p) = still (w.no_more i h (rw p.0 at z))
          where
            still : (is_some (resolved sc (name_of more l (get_or t i 0))) ≡ false) ⊎ (was (name_of more l (get_or t i 0)) ≡ true)
                → (is_some (resolved sc (name_of more l (get_or t i 0))) ≡ false) ⊎ ((was (name_of more l (get_or t i 0)) || same_bytes x (name_of more l (get_or t i 0))) ≡ true)
            still (inl q) = inl q
            still (inr q) = inr (rw q refl)
