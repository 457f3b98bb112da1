-- Change iii to the letter: binary digits worked out one by one, from the highest, until nothing remains to be taken
-- off, round to `root_of`, and their number is `digits_of`. Assumes nothing.
use Rattle.std.specs.Prelude.{◌≡◌, refl, ℤ, T}
use Rattle.std.proofs.Math.Path.{sym, ap, subst}
use Rattle.std.proofs.Common.{◌∙◌, le_of_eq, arith, le→leb, pow_pos}
use Rattle.std.proofs.Math.Bool.{false}
use Prim.Native.Nat.{ℕ, suc, ◌+◌, ◌*◌, ◌%◌, ◌^◌, ◌≤◌, ◌<◌}
use Rattle.std.specs.Float.{fin, binary64}
use Rattle.std.specs.Float.Ieee.{round, fits}
use Rattle.root.specs.Root.{scaled, sticky, root_at, root_of}
use Rattle.root.specs.Digits.{digits_at, digits_of, worked_out}
use Rattle.root.specs.Laws.Whole.{IsRoot}
use Rattle.root.specs.Laws.Patterns.{scaled-is}
use Rattle.root.specs.Laws.Form.{rounded, as_units}
use Rattle.root.specs.Laws.Shape.{Shaped, Rooted}
use Rattle.root.specs.Laws.SingleDigits.{worked_out_lem, Worked}
use Rattle.root.proofs.Laws.Shape.{rooted}

module _ (a p j : ℕ) (A : IsRoot a p) (lo : 2 ^ 53 ≤ p) (hi : p < 2 ^ 54) where
  pub rounds : a % 2 ≡ 0 → round binary64 false (sticky (p * 2 ^ j) (a * (2 ^ j * 2 ^ j))) (2 ^ 1076) ≡ root_at (a * (2 ^ j * 2 ^ j))
  rounds even = rounded a p j (p * 2 ^ j) even lo hi (le_of_eq refl) (some (p * 2 ^ j) (pow_pos j)) ∙ sym (as_units a p j A even lo hi)
    where
      some : {w : ℕ} (x : ℕ) → 0 < w → x < x + w
      some x h = omega arith

-- ---- every f64 above zero
worked : {n : ℕ} → Shaped n → Worked n
worked s = subst Worked (sym s.is) (go (worked_out_lem s.a s.p s.j s.whole s.lo s.hi))
  where
    go : worked_out (s.a * (2 ^ s.j * 2 ^ s.j)) ≡ (s.p * 2 ^ s.j, digits_at (s.a * (2 ^ s.j * 2 ^ s.j))) → Worked (s.a * (2 ^ s.j * 2 ^ s.j))
    go e = (
      ap (λ (v : ℕ × ℕ). round binary64 false (sticky v.0 (s.a * (2 ^ s.j * 2 ^ s.j))) (2 ^ 1076)) e ∙ rounds s.a s.p s.j s.whole s.lo s.hi s.even,
      ap (λ (v : ℕ × ℕ). v.1) e,
    )

pub single_digits : (m : ℕ) (e : ℤ) → T (fits binary64 (fin false (suc m) e)) →
    (round binary64 false (sticky (worked_out (scaled (suc m) e)).0 (scaled (suc m) e)) (2 ^ 1076) ≡ root_of (fin false (suc m) e))
    × ((worked_out (scaled (suc m) e)).1 ≡ digits_of (fin false (suc m) e))
unfolding root_of digits_of
single_digits m e F =
    let r : Rooted (fin false (suc m) e) = rooted (fin false (suc m) e) (le→leb 1 (suc m) (omega arith)) F in
    subst Worked (sym (scaled-is (suc m) e r.units r.value.1)) (worked r.shape)
