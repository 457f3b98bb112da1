-- Names that end in `_lat` and `_lon`, and the variable of such a name among those that rise.
use Rattle.std.specs.Prelude.{None, Some, Ok}
use mathlib.Core.Path.{◌≡◌, refl, sym, subst, ◌∙◌}
use mathlib.Core.Bool.{Bool, true, false, ◌&&◌, and_assoc, and-false}
use mathlib.Core.List.{List, [], ◌∷◌, ◌++◌}
use Prim.Native.Nat.{ℕ, ◌+◌, ◌-◌, ◌≤◌, ◌<◌}
use native.Mathlib.Omega.{arith}
use lib.ListN.{length, drop, length-append}
use lib.Seq.{take-add, drop-drop}
use lib.Dec.{eqb}
use borrow.Author.Tests.{le-ltb}
use Rattle.records.specs.Records.{bytes_at}
use Rattle.records.specs.Layout.{before}
use Rattle.scene.specs.declared.readers.Variable.{Variable}
use Rattle.scene.specs.Scene.{NamedValue}
use Rattle.scene.specs.Labels.{same_bytes, variable_of}
use Rattle.scene.specs.Inner.Answers.{variables_at, variables_by}
use Rattle.records.specs.Laws.Names.{part_length}
use Rattle.scene.specs.Laws.Names.{same_lengths}
use Rattle.scene.specs.Laws.Rising.{Rising, rising_from, not-among}
use Rattle.register.specs.Register.{suffix_lon, suffix_lat}

-- ---- a name and its last four bytes
pub same_append : (a b c d : List ℕ) → length c ≡ length d → same_bytes (a ++ c) (b ++ d) ≡ (same_bytes a b && same_bytes c d)
unfolding same_bytes
same_append [] [] c d h = refl
same_append [] (y ∷ ys) c d h = same_lengths c (y ∷ ys ++ d) (λ e. omega (arith, length-append ys d))
same_append (x ∷ xs) [] c d h = same_lengths (x ∷ xs ++ c) d (λ e. omega (arith, length-append xs c))
same_append (x ∷ xs) (y ∷ ys) c d h = rw (same_append xs ys c d h, and_assoc) refl

pub part_split : (l : List ℕ) (q m k : ℕ) → bytes_at l q (m + k) ≡ bytes_at l q m ++ bytes_at l (q + m) k
unfolding bytes_at
part_split l q m k = take-add m k (drop q l) ∙ rw (drop-drop m q l) refl

module _ (l : List ℕ) (q m : ℕ) (x ends : List ℕ) (fits : q + m ≤ length l) (four : length ends ≡ 4) where
  pub too_short : m < 4 → false ≡ same_bytes (bytes_at l q m) (x ++ ends)
  too_short h = sym (same_lengths (bytes_at l q m) (x ++ ends) (λ e. omega (arith, part_length l q m fits, length-append x ends)))

  pub name-ends : 4 ≤ m → same_bytes (bytes_at l q m) (x ++ ends) ≡ (same_bytes (bytes_at l q (m - 4)) x && same_bytes (bytes_at l (q + m - 4) 4) ends)
  name-ends h =
      let a : m - 4 + 4 ≡ m = omega arith in
      let b : q + (m - 4) ≡ q + m - 4 = omega arith in
      let e : bytes_at l q m ≡ bytes_at l q (m - 4) ++ bytes_at l (q + m - 4) 4 = rw (a, b) at (part_split l q (m - 4) 4) in
      rw e (same_append (bytes_at l q (m - 4)) x (bytes_at l (q + m - 4) 4) ends (omega (arith, part_length l (q + m - 4) 4 (omega arith))))

-- ---- `<L>_lat` does not come after `<L>_lon`
lon_first : (x : List ℕ) → before (x ++ suffix_lon) (x ++ suffix_lat) ≡ false
unfolding before
lon_first [] = refl
lon_first (y ∷ x) = rw (le-ltb y y (omega arith), lon_first x) (and-false (eqb y y))

-- ---- the variable of a name among those from q on
abbrev found_by : List ℕ → Variable → NamedValue
found_by l c = record { name = bytes_at l c.at c.len; value = c.value }

module _ (name l : List ℕ) (q : ℕ) where
  pub no_more : variables_at l q ≡ [] → variable_of name (variables_at l q) ≡ None
  unfolding variable_of
  no_more e = rw e refl

  module _ (c : Variable) (e : variables_at l q ≡ variables_by l (Ok c)) where
    risen : Rising [] (variables_at l q) → Rising [] (found_by l c ∷ variables_at l c.next)
    risen r = subst (Rising []) e r

    pub rises_on : Rising [] (variables_at l q) → Rising [] (variables_at l c.next)
    rises_on r = rising_from [] (found_by l c) (variables_at l c.next) (risen r)

    module _ {t : Bool} (s : t ≡ same_bytes (bytes_at l c.at c.len) name) where
      pub this_one : t ≡ true → Some c.value ≡ variable_of name (variables_at l q)
      unfolding variable_of
      this_one h = rw (e, ← s, h) refl

      pub later-one : t ≡ false → variable_of name (variables_at l q) ≡ variable_of name (variables_at l c.next)
      unfolding variable_of
      later-one h = rw (e, ← s, h) refl

    -- at `<L>_lon` itself there is no `<L>_lat` any more
    pub none_behind : (at m : ℕ) → Rising [] (variables_at l q) → bytes_at l (at + m) 4 ≡ suffix_lon → c.at ≡ at → c.len ≡ m + 4 → variable_of (bytes_at l at m ++ suffix_lat) (variables_at l c.next) ≡ None
    none_behind at m r lon a b =
        let is : bytes_at l c.at c.len ≡ bytes_at l at m ++ suffix_lon = rw (a, b, part_split l at m 4, lon) refl in
        not-among (bytes_at l at m ++ suffix_lon) (bytes_at l at m ++ suffix_lat) (variables_at l c.next) (subst (λ (u : List ℕ). Rising u (variables_at l c.next)) is (risen r).1) (lon_first (bytes_at l at m))
