-- Laws of what is put into a slice. Assumes nothing.
use Rattle.std.specs.Prelude.{ℕ, ◌+◌, ◌-◌, ◌≤◌, ◌≡◌, set, get_or}
use Rattle.std.proofs.Common.{sym, ◌∙◌, arith, add-one, add_assoc, add-zero, length-drop, take-append-drop, drop_at, get_or-drop}
use Rattle.std.proofs.Math.Path.{ap, subst}
use mathlib.Core.List.{List, [], ◌∷◌, ◌++◌, append_assoc}
use Rattle.std.proofs.Math.ListN.{length, take, drop, length-append}
use Rattle.std.proofs.Math.Seq.{length-take-le, take_at, drop-append-add, drop-drop, sets-eq}
use Rattle.std.proofs.lemmas.List.Edits.{sets}
use Rattle.values.specs.Slices.{put}

module _ {A : Type 0} (w : List A) (at : ℕ) where
  -- what stands before `at` is as it was
  pub put-before : (vs : List A) → at ≤ length w → take at (put w at vs) ≡ take at w
  unfolding put
  put-before vs h = take_at (take at w) (vs ++ drop (at + length vs) w) at (length-take-le at w h)

  pub put-none : put w at [] ≡ w
  unfolding put
  put-none = simp (add-zero, take-append-drop)

  pub put-length : (vs : List A) → at + length vs ≤ length w → length (put w at vs) ≡ length w
  unfolding put
  put-length vs h = simp (length-append, length-drop) (omega (arith, length-take-le at w (omega arith)))

  -- stores one behind the other
  pub sets_put : (vs : List A) → at + length vs ≤ length w → sets w at vs ≡ put w at vs
  unfolding put
  sets_put vs h = sets-eq vs w at h ∙ append_assoc (take at w) vs (drop (at + length vs) w)

  -- the stores of a pair
  pub pair_put : (a b : A) → at + 2 ≤ length w → set (set w at a) (at + 1) b ≡ put w at (a ∷ b ∷ [])
  pair_put a b h = rw add-one (sets_put (a ∷ b ∷ []) h)

  -- one run after another is one run
  pub put-more : (a b : List A) → at + length a ≤ length w → put (put w at a) (at + length a) b ≡ put w at (a ++ b)
  unfolding put
  put-more a b h =
      let t = take at w ++ a in
      let rest = drop (at + length a) w in
      let n : length t ≡ at + length a =
      length-append (take at w) a ∙ ap (λ (k : ℕ). k + length a) (length-take-le at w (omega arith)) in
      let d : drop (at + length a + length b) (t ++ rest) ≡ drop (at + length a + length b) w =
      subst (λ (k : ℕ). drop (k + length b) (t ++ rest) ≡ drop (length b) rest) n (drop-append-add t rest (length b))
      ∙ drop-drop (length b) (at + length a) w in
      rw (← append_assoc (take at w) a rest, take_at t rest (at + length a) n, d, length-append, ← add_assoc) (simp append_assoc)

module _ {A : Type 0} (w : List A) (at : ℕ) (vs : List A) (h : at ≤ length w) where
  head-length : length (take at w ++ vs) ≡ at + length vs
  head-length = length-append (take at w) vs ∙ ap (λ (k : ℕ). k + length vs) (length-take-le at w h)

  -- what stands behind is as it was
  behind : drop (at + length vs) (put w at vs) ≡ drop (at + length vs) w
  unfolding put
  behind = rw (← append_assoc (take at w) vs (drop (at + length vs) w)) (drop_at (take at w ++ vs) (drop (at + length vs) w) (at + length vs) head-length)

  pub value_behind : (d : A) (i : ℕ) → at + length vs ≤ i → get_or (put w at vs) i d ≡ get_or w i d
  value_behind d i g =
      let n = at + length vs in
      let e : i ≡ n + (i - n) = omega arith in
      rw e (sym (get_or-drop n (put w at vs) (i - n) d) ∙ ap (λ (l : List A). get_or l (i - n) d) behind ∙ get_or-drop n w (i - n) d)

  -- as many once more, at the same place
  pub put_over : (us : List A) → length us ≡ length vs → put (put w at vs) at us ≡ put w at us
  unfolding put
  put_over us e = let b = put-before w at vs h in rw (e, b, behind)
