-- The first condition of a list, and of one list behind another. Assumes nothing.
use Rattle.std.specs.Prelude.{◌≡◌, ℕ, ◌<◌, true, false, cond, List, [], ◌∷◌, ◌++◌, ◌==◌, ◌≢◌, refl}
use Rattle.std.proofs.Common.{◌∙◌, arith, ne_eqb, eq-eqb}
use Rattle.values.specs.declared.refusal.Refusal.{Refusal}
use Rattle.values.specs.declared.refusal.Refusal.TheVariants.{Size, Check, Layout, Limit, Flatten, Rescale, Frame, Outside, TooMany, NoAnchor, Degenerate, Scale, ViewScale, MaxScale, WorkRoom, PositionRoom, FeatureRoom, WarningRoom, Step, KindTable}
use Rattle.values.specs.Inner.Refusals.{number_of}
use Rattle.stream.specs.Conditions.{Condition, first_of, NoneHolds}
use Rattle.stream.specs.Blocks.{of_blocks}

-- 0 is the number of none of them
abbrev pub Numbered : List Condition → Type 0
Numbered [] = Unit {0}
Numbered (c ∷ cs) = (0 < c.0) × Numbered cs

pub none_first : (cs : List Condition) → NoneHolds cs → first_of cs ≡ 0
unfolding first_of
none_first [] h = refl
none_first (c ∷ cs) h = rw h.0 (none_first cs h.1)

pub first-none : (cs : List Condition) → Numbered cs → first_of cs ≡ 0 → NoneHolds cs
unfolding first_of
first-none [] n h = tt
first-none ((k, true) ∷ cs) n h = absurd (omega (arith, n.0))
first-none ((k, false) ∷ cs) n h = (refl, first-none cs n.1 h)

-- the first of one list decides, else the first of the list behind it
pub first-append : (cs ds : List Condition) → Numbered cs → first_of (cs ++ ds) ≡ cond (first_of cs == 0) (first_of ds) (first_of cs)
unfolding first_of
first-append [] ds n = refl
first-append ((k, true) ∷ cs) ds n = rw (ne_eqb k 0 (λ e. omega (arith, n.0)))
first-append ((k, false) ∷ cs) ds n = first-append cs ds n.1

module _ (cs ds : List Condition) (n : Numbered cs) where
  pub first_ahead : (first_of cs ≢ 0) → first_of (cs ++ ds) ≡ first_of cs
  first_ahead h = first-append cs ds n ∙ rw (ne_eqb (first_of cs) 0 h)

  pub first_behind : first_of cs ≡ 0 → first_of (cs ++ ds) ≡ first_of ds
  first_behind h = first-append cs ds n ∙ rw (eq-eqb (first_of cs) 0 h)

pub append-none : (cs ds : List Condition) → Numbered cs → first_of (cs ++ ds) ≡ 0 → (first_of cs ≡ 0) × (first_of ds ≡ 0)
unfolding first_of
append-none [] ds n h = (refl, h)
append-none ((k, true) ∷ cs) ds n h = absurd (omega (arith, n.0))
append-none ((k, false) ∷ cs) ds n h = append-none cs ds n.1 h

pub numbered_append : (cs ds : List Condition) → Numbered cs → Numbered ds → Numbered (cs ++ ds)
numbered_append [] ds m n = n
numbered_append (a ∷ cs) ds m n = (m.0, numbered_append cs ds m.1 n)

pub blocks_numbered : (s : List ℕ) → Numbered (of_blocks s)
unfolding of_blocks
blocks_numbered s = (omega arith, (omega arith, tt))

-- a refusal's number is no condition's that does not hold
pub refusal_numbered : (r : Refusal) → 0 < number_of r
refusal_numbered Size = omega arith
refusal_numbered Check = omega arith
refusal_numbered Layout = omega arith
refusal_numbered Limit = omega arith
refusal_numbered Flatten = omega arith
refusal_numbered Rescale = omega arith
refusal_numbered Frame = omega arith
refusal_numbered Outside = omega arith
refusal_numbered TooMany = omega arith
refusal_numbered NoAnchor = omega arith
refusal_numbered Degenerate = omega arith
refusal_numbered Scale = omega arith
refusal_numbered ViewScale = omega arith
refusal_numbered MaxScale = omega arith
refusal_numbered WorkRoom = omega arith
refusal_numbered PositionRoom = omega arith
refusal_numbered FeatureRoom = omega arith
refusal_numbered WarningRoom = omega arith
refusal_numbered Step = omega arith
refusal_numbered KindTable = omega arith
