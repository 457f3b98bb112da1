-- Laws of warnings in a lent slice: what `pushed` and `all_pushed` come to by cases. Assumes nothing.
use Rattle.std.specs.Prelude.{◌≡◌, Bool, true, false, not, ◌&&◌, List, [], ◌∷◌, ◌++◌, ℕ, ◌+◌, ◌-◌, ◌≤◌, ◌<◌, length, set, leb}
use Rattle.std.proofs.Math.Path.{refl}
use Rattle.std.proofs.Common.{◌∙◌, arith}
use Rattle.std.proofs.lemmas.Bool.{false≢true}
use borrow.Author.Tests.{le-leb, lt-leb, leb-true, not-true, not-false}
use Rattle.values.specs.Warnings.{Warning}
use Rattle.values.specs.Inner.Warnings.{WarningCursor, WarningSlice, pushed, all_pushed}
use Rattle.values.specs.Laws.Put.{put-length, pair_put}

abbrev pub slice_of : List ℕ → WarningCursor → WarningSlice
slice_of out w = record { out = out; cursor = w }

pub same_slice : {out out' : List ℕ} {w w' : WarningCursor} → out ≡ out' → w ≡ w' → slice_of out w ≡ slice_of out' w'
same_slice e f = cc

-- ---- one more
module _ (out : List ℕ) (w : WarningCursor) (v : Warning) where
  pub push_shut : not w.ok ≡ true → slice_of out w ≡ pushed v (slice_of out w)
  unfolding pushed
  push_shut e = rw (not-true w.ok e) refl

  module _ (e : not w.ok ≡ false) (h : w.used ≤ length out) where
    pub push_full : length out - w.used < 2 → slice_of out (record { ok = false; used = w.used }) ≡ pushed v (slice_of out w)
    unfolding pushed
    push_full f = rw (not-false w.ok e, lt-leb (w.used + 2) (length out) (omega arith)) refl

    pub push_more : 2 ≤ length out - w.used → slice_of (set (set out w.used v.kind) (w.used + 1) v.index) (record { ok = true; used = w.used + 2 }) ≡ pushed v (slice_of out w)
    unfolding pushed
    push_more f = rw (pair_put out w.used v.kind v.index (omega arith), not-false w.ok e, le-leb (w.used + 2) (length out) (omega arith)) refl

-- ---- a slice that is used no further than it goes
abbrev pub Fits : WarningSlice → Type 0
Fits t = t.cursor.used ≤ length t.out

room : (a : Bool) (n m : ℕ) → (a && leb n m) ≡ true → n ≤ m
room true n m e = leb-true n m e
room false n m e = absurd (false≢true e)

pub one_kept : (v : Warning) (t : WarningSlice) (b : Bool) → (t.cursor.ok && leb (t.cursor.used + 2) (length t.out)) ≡ b → length (pushed v t).out ≡ length t.out
unfolding pushed
one_kept v t true e = rw e (put-length t.out t.cursor.used (v.kind ∷ v.index ∷ []) (room t.cursor.ok _ _ e))
one_kept v t false e = rw e refl

one_fits : (v : Warning) (t : WarningSlice) (b : Bool) → (t.cursor.ok && leb (t.cursor.used + 2) (length t.out)) ≡ b → Fits t → Fits (pushed v t)
unfolding pushed
one_fits v t true e h = rw (e, put-length t.out t.cursor.used (v.kind ∷ v.index ∷ []) (room t.cursor.ok _ _ e)) (room t.cursor.ok _ _ e)
one_fits v t false e h = rw e h

pub push_fits : (v : Warning) (t : WarningSlice) {t' : WarningSlice} → t' ≡ pushed v t → Fits t → Fits t'
push_fits v t e h = rw e (one_fits v t _ refl h)

pub all-kept : (ws : List Warning) (t : WarningSlice) → length (all_pushed ws t).out ≡ length t.out
unfolding all_pushed
all-kept [] t = refl
all-kept (w ∷ ws) t = all-kept ws (pushed w t) ∙ one_kept w t _ refl

pub pushed-append : (vs ws : List Warning) (t : WarningSlice) → all_pushed (vs ++ ws) t ≡ all_pushed ws (all_pushed vs t)
unfolding all_pushed
pushed-append [] ws t = refl
pushed-append (v ∷ vs) ws t = pushed-append vs ws (pushed v t)

-- none is written behind one that lacked room
pub all_shut : (ws : List Warning) (out : List ℕ) (n : ℕ)
    → all_pushed ws (slice_of out (record { ok = false; used = n })) ≡ slice_of out (record { ok = false; used = n })
unfolding all_pushed pushed
all_shut [] out n = refl
all_shut (w ∷ ws) out n = all_shut ws out n
