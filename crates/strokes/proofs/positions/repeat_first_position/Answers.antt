use native.Mathlib.Omega.{arith}
use Rattle.std.specs.Prelude.{ℕ, ◌+◌, ◌-◌, ◌≤◌, ◌≡◌, List, length, set, get_or, drop, Float}
use Rattle.std.specs.Float.{nan}
use Rattle.std.specs.List.{copy_within}
use Rattle.std.proofs.Common.{sym, ap, ◌∙◌, add-zero, length-drop}
use Rattle.std.proofs.Math.Seq.{paste, paste-zero, paste-suc}
use Rattle.std.proofs.lemmas.List.{get_or-drop}
use Rattle.strokes.specs.Inner.Space.{first_repeated_in}
use Rattle.strokes.proofs.positions.repeat_first_position.Goals as goal

stored : (w : List Float) {i j : ℕ} {a b : Float} → i ≡ j → a ≡ b → set w i a ≡ set w j b
stored w e f = cc

-- the two floats of the first position, copied one after the other
first_copied : (w : List Float) (from to : ℕ) → from + 2 ≤ to → to ≤ length w → copy_within w from (from + 2) (to - 2) ≡ first_repeated_in w from to
unfolding first_repeated_in
first_copied w from to h k =
    let s = drop from w in
    let at = to - 2 in
    let n : from + 2 - from ≡ 2 = omega arith in
    let end : at + 1 ≡ to - 1 = omega arith in
    let one : set (paste w at s 0) (at + 0) (get_or s 0 nan) ≡ paste w at s 1 = paste-suc w at s 0 nan (omega arith) (omega (arith, length-drop from w)) in
    let two : set (paste w at s 1) (at + 1) (get_or s 1 nan) ≡ paste w at s 2 = paste-suc w at s 1 nan (omega arith) (omega (arith, length-drop from w)) in
    let first : paste w at s 1 ≡ set w at (get_or w from nan) =
    sym one ∙ ap (λ (d : List Float). set d (at + 0) (get_or s 0 nan)) (sym (paste-zero w at s))
    ∙ stored w (add-zero at) (get_or-drop from w 0 nan ∙ ap (λ (m : ℕ). get_or w m nan) (add-zero from)) in
    ap (λ (m : ℕ). paste w at s m) n ∙ sym two ∙ ap (λ (d : List Float). set d (at + 1) (get_or s 1 nan)) first ∙ stored _ end (get_or-drop from w 1 nan)

pub returns : goal.returns
returns c = let a = c.args in
    c.copy_within.ensures.after ∙ first_copied a.out.now a.from a.to c.requires.0 c.requires.1
