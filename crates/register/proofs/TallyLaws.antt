-- One control point more: what a tally and its slices hold.
use mathlib.Core.Path.{◌≡◌, refl, sym, ap, ◌∙◌}
use mathlib.Core.Logic.{◌⊎◌, inl, inr}
use mathlib.Core.Bool.{Bool, true, false, ◌&&◌, and-true, and_assoc, false≢true}
use mathlib.Core.List.{List, [], ◌∷◌, ◌++◌}
use Prim.Native.Nat.{ℕ, ◌+◌, ◌≤◌, ◌<◌}
use native.Mathlib.Numerals.{add-one}
use native.Mathlib.Omega.{arith}
use lib.Dec.{ltb}
use lib.ListN.{length, set, length-append, length-set}
use lib.Seq.{take-suc-set}
use borrow.Author.Tests.{lt-ltb, le-ltb, ltb-true, ltb-false}
use Rattle.fit.specs.declared.Control.{Control}
use Rattle.register.specs.declared.controls.Tally.{Tally}
use Rattle.register.specs.Register.{within_limits, all_within_limits}
use Rattle.register.specs.Inner.Gathered.{up_to65, Holds}

pub both : (a b : Bool) {r : Bool} → ((a ≡ true) × (r ≡ b)) ⊎ ((a ≡ false) × (r ≡ false)) → r ≡ (a && b)
both true b (inl h) = h.1
both true b (inr h) = cc
both false b (inl h) = cc
both false b (inr h) = h.1

-- ---- one more in a list
within_append : (cs : List Control) (c : Control) → all_within_limits (cs ++ c ∷ []) ≡ (all_within_limits cs && within_limits c.lon c.lat)
unfolding all_within_limits
within_append [] c = and-true (within_limits c.lon c.lat)
within_append (d ∷ cs) c = rw (within_append cs c) (sym (and_assoc (within_limits d.lon d.lat) (all_within_limits cs) (within_limits c.lon c.lat)))

length-one : {A : Type 0} (xs : List A) (x : A) → length (xs ++ x ∷ []) ≡ length xs + 1
length-one xs x = length-append xs (x ∷ [])

-- counted up to 65
few : (n : ℕ) → n ≤ 64 → up_to65 n ≡ n
few n h = rw (le-ltb 64 n h) refl

many : (n : ℕ) → 64 < n → up_to65 n ≡ 65
many n h = rw (lt-ltb 64 n h) refl

counts : (n : ℕ) → ((n ≤ 64) × (up_to65 n ≡ n)) ⊎ ((64 < n) × (up_to65 n ≡ 65))
counts n = by (ltb 64 n) refl
  where
    by : (b : Bool) → ltb 64 n ≡ b → ((n ≤ 64) × (up_to65 n ≡ n)) ⊎ ((64 < n) × (up_to65 n ≡ 65))
    by true e = inr (ltb-true 64 n e, many n (ltb-true 64 n e))
    by false e = inl (ltb-false 64 n e, few n (ltb-false 64 n e))

-- ---- one more is put
module _ {b : Bool} {cs : List Control} {js : List ℕ} {g : Tally} {held : List Control} {kept : List ℕ} (h : Holds b cs js g held kept) (c : Control) (j : ℕ)
    {ok : Bool} (e : ok ≡ (g.within && within_limits c.lon c.lat)) where
  within_now : ok ≡ all_within_limits (cs ++ c ∷ [])
  within_now = e ∙ rw h.within (sym (within_append cs c))

  one_more : (length (cs ++ c ∷ []) ≡ length cs + 1) × (length (js ++ j ∷ []) ≡ length (cs ++ c ∷ []))
  one_more =
      let p : length (cs ++ c ∷ []) ≡ length cs + 1 = length-one cs c in
      let q : length (js ++ j ∷ []) ≡ length js + 1 = length-one js j in
      let s = h.as_many in
      (p, omega arith)

  pub put_full : 64 ≤ g.n → Holds b (cs ++ c ∷ []) (js ++ j ∷ []) (record { n = 65; within = ok }) held kept
  put_full k =
      record {
        count = sym (many (length (cs ++ c ∷ [])) too_many);
        within = within_now;
        controls = λ t d. absurd (omega (arith, too_many));
        numbers = λ t d. absurd (omega (arith, too_many));
        as_many = one_more.1;
        room_for = h.room_for;
        kept-room = h.kept-room;
      }
    where
      too_many : 64 < length (cs ++ c ∷ [])
      too_many = by (counts (length cs))
        where
          by : ((length cs ≤ 64) × (up_to65 (length cs) ≡ length cs)) ⊎ ((64 < length cs) × (up_to65 (length cs) ≡ 65)) → 64 < length (cs ++ c ∷ [])
          by (inl p) = omega (arith, h.count ∙ p.1, one_more.0)
          by (inr p) = omega (arith, one_more.0)

  pub put-more : g.n < 64 → Holds b (cs ++ c ∷ []) (js ++ j ∷ []) (record { n = g.n + 1; within = ok }) (set held g.n c) (set kept g.n j)
  put-more k =
      record {
        count = rw next (sym (few (g.n + 1) (omega arith)));
        within = within_now;
        controls = λ t d. rw (next, add-one g.n) (take-suc-set held g.n c (omega (arith, h.room_for)) ∙ rw (is, h.controls t (omega (arith, is))) refl);
        numbers = λ t d. rw (next, add-one g.n) (take-suc-set kept g.n j (omega (arith, h.kept-room)) ∙ rw (is, h.numbers t (omega (arith, is))) refl);
        as_many = one_more.1;
        room_for = length-set held g.n c ∙ h.room_for;
        kept-room = length-set kept g.n j ∙ h.kept-room;
      }
    where
      is : g.n ≡ length cs
      is = by (counts (length cs))
        where
          by : ((length cs ≤ 64) × (up_to65 (length cs) ≡ length cs)) ⊎ ((64 < length cs) × (up_to65 (length cs) ≡ 65)) → g.n ≡ length cs
          by (inl p) = h.count ∙ p.1
          by (inr p) = absurd (omega (arith, h.count ∙ p.1))

      next : length (cs ++ c ∷ []) ≡ g.n + 1
      next = rw is one_more.0

-- where the points are not known, only longitude and latitude matter
pub holds_as : {b : Bool} (cs : List Control) {js : List ℕ} {g : Tally} {held : List Control} {kept : List ℕ} (c d : Control) → b ≡ false → c.lon ≡ d.lon → c.lat ≡ d.lat
    → Holds b (cs ++ c ∷ []) js g held kept → Holds b (cs ++ d ∷ []) js g held kept
holds_as cs c d f a o h =
    let e : length (cs ++ c ∷ []) ≡ length (cs ++ d ∷ []) = length-one cs c ∙ sym (length-one cs d) in
    record {
      count = h.count ∙ ap up_to65 e;
      within = h.within ∙ within_append cs c ∙ rw (a, o) (sym (within_append cs d));
      controls = λ t k. absurd (false≢true (sym f ∙ t));
      numbers = λ t k. absurd (false≢true (sym f ∙ t));
      as_many = h.as_many ∙ e;
      room_for = h.room_for;
      kept-room = h.kept-room;
    }
