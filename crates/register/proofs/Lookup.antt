-- Where a variable's lookup may start, while the variables are passed in the order of their names.
use mathlib.Core.Path.{◌≡◌, refl, sym, ◌∙◌, ap}
use mathlib.Core.Logic.{◌⊎◌, inl, inr}
use mathlib.Core.Bool.{Bool, true, false}
use mathlib.Core.List.{List, [], ◌∷◌}
use Prim.Native.Nat.{ℕ, ◌+◌, ◌-◌, ◌≤◌, ◌<◌}
use native.Mathlib.Omega.{arith}
use lib.ListN.{length, take, get_or, replicate, length-append, length-take, length-replicate, get_or-replicate, get_or-append}
use lib.Seq.{get_or-take, get_or-append-add, length-take-le}
use lib.Dec.{leb}
use borrow.Author.Tests.{leb-true, leb-false}
use Rattle.scene.specs.Scene.{NamedValue}
use Rattle.scene.specs.Labels.{variable_of}
use Rattle.scene.specs.Laws.Rising.{Rising, before_trans, before_some, lookup_on}
use Rattle.records.specs.Inner.Names.{common_prefix}
use Rattle.register.specs.Inner.LatLookup.{prefix_starts, Passed}
use Rattle.register.specs.Laws.Names.{between_names, common_take}

-- ---- the starts
upto : (j c : ℕ) → (j ≤ c) ⊎ (c < j)
upto j c = by (leb j c) refl
  where
    by : (b : Bool) → leb j c ≡ b → (j ≤ c) ⊎ (c < j)
    by true e = inl (leb-true j c e)
    by false e = inr (leb-false j c e)

module _ (starts : List ℕ) (c q : ℕ) (h : length starts ≡ 32) (k : c < 32) where
  starts_before : length (take (c + 1) starts) ≡ c + 1
  starts_before = length-take-le (c + 1) starts (omega arith)

  pub starts_length : length (prefix_starts starts c q) ≡ 32
  unfolding prefix_starts
  starts_length = simp (length-append, length-replicate, starts_before) (omega arith)

  starts_kept : (j : ℕ) → j ≤ c → get_or (prefix_starts starts c q) j 0 ≡ get_or starts j 0
  unfolding prefix_starts
  starts_kept j g = get_or-append (take (c + 1) starts) (replicate (31 - c) q) 0 j (omega (arith, starts_before)) ∙ get_or-take (c + 1) starts j 0 (omega arith)

  starts_new : (j : ℕ) → c < j → j < 32 → get_or (prefix_starts starts c q) j 0 ≡ q
  unfolding prefix_starts
  starts_new j g f =
      let e : j ≡ length (take (c + 1) starts) + (j - (c + 1)) = omega (arith, starts_before) in
      rw e (get_or-append-add (take (c + 1) starts) (replicate (31 - c) q) (j - (c + 1)) 0 ∙ get_or-replicate (31 - c) (j - (c + 1)) q 0 (omega arith))

rising_any : (u : List ℕ) (vs : List NamedValue) → Rising u vs → Rising [] vs
rising_any u [] r = tt
rising_any u (v ∷ vs) r = (before_some u v.name r.0, r.1)

module _ (vars : ℕ → List NamedValue) where
  pub none_passed : (q : ℕ) → vars 0 ≡ vars q → Rising [] (vars 0) → Passed vars [] (replicate 32 0) q
  none_passed q e r =
      record {
        sized = refl;
        rising = rw e at r;
        later = λ name h. rw e refl;
        near = λ j name h k e. rw (get_or-replicate {A = ℕ} 32 j 0 0 h) refl;
        starts_rise = λ j h. rw (get_or-replicate {A = ℕ} 32 j 0 0 h) r;
      }

  module _ {u starts : List ℕ} {q : ℕ} (p : Passed vars u starts q) (v : NamedValue) (next : ℕ) (e : vars q ≡ v ∷ vars next) {c : ℕ} (is : c ≡ common_prefix u v.name) (h : c < 32) where
    first : Rising u (v ∷ vars next)
    first = rw e at p.rising

    module _ (j : ℕ) (g : j < 32) where
      near-one : (name : List ℕ) → j ≤ length v.name → take j name ≡ take j v.name → (j ≤ c) ⊎ (c < j) → variable_of name (vars 0) ≡ variable_of name (vars (get_or (prefix_starts starts c q) j 0))
      near-one name i f (inl k) =
          let z : take j u ≡ take j v.name = common_take u v.name j (omega arith) in
          rw (starts_kept starts c q p.sized h j k) (p.near j name g (omega (arith, ap length z, length-take j u, length-take j v.name)) (f ∙ sym z))
      near-one name i f (inr k) = rw (starts_new starts c q p.sized h j k g) (p.later name (between_names u v.name name j first.0 (omega arith) i f))

      rise_one : (j ≤ c) ⊎ (c < j) → Rising [] (vars (get_or (prefix_starts starts c q) j 0))
      rise_one (inl k) = rw (starts_kept starts c q p.sized h j k) (p.starts_rise j g)
      rise_one (inr k) = rw (starts_new starts c q p.sized h j k g) (rising_any u (vars q) p.rising)

    pub one_passed : Passed vars v.name (prefix_starts starts c q) next
    one_passed =
        record {
          sized = starts_length starts c q p.sized h;
          rising = first.1;
          later = λ name k. p.later name (before_trans u v.name name first.0 k) ∙ rw e (lookup_on name v (vars next) k);
          near = λ j name g i f. near-one j g name i f (upto j c);
          starts_rise = λ j g. rise_one j g (upto j c);
        }
