-- Warnings one after another: laws of `Warned`, and which warnings events give.
use Rattle.std.specs.Prelude.{is_some, Result, Ok, Err}
use mathlib.Core.Path.{◌≡◌, refl, ap, ◌∙◌}
use mathlib.Core.Bool.{◌&&◌}
use mathlib.Core.List.{List, [], ◌∷◌, ◌++◌}
use Prim.Native.Nat.{ℕ, zero, suc, ◌≤◌}
use native.Mathlib.Omega.{arith}
use lib.ListN.{length}
use lib.Dec.{leb}
use borrow.Author.Tests.{le-leb}
use Rattle.scene.specs.Scene.{Scene}
use Rattle.values.specs.Warnings.{Warning}
use Rattle.values.specs.declared.warning.NoRoom.{NoRoom}
use Rattle.values.specs.Inner.Warnings.{pushed, all_pushed}
use Rattle.values.specs.Laws.Warnings.{push_fits, pushed-append, all_shut}
use Rattle.register.specs.Register.{Event, control, warn, warnings_in, ignored, ignored_with, any_declared, anchor_of}
use Rattle.register.specs.Inner.Warnings.{slice_by, Warned}

-- ---- these warnings are written
module _ {out : List ℕ} {n : ℕ} (fits : n ≤ length out) where
  pub none_written : Warned [] out n out (Ok n)
  unfolding all_pushed
  none_written = record { written = refl; fits = fits }

  pub one_written : {v : Warning} {out' : List ℕ} {r : Result ℕ NoRoom} → slice_by out' r ≡ pushed v (slice_by out (Ok n)) → Warned (v ∷ []) out n out' r
  unfolding all_pushed
  one_written e = record { written = e; fits = push_fits _ (slice_by out (Ok n)) e fits }

module _ {us vs : List Warning} {out out' : List ℕ} {n : ℕ} where
  pub both_written : {m : ℕ} {out'' : List ℕ} {r : Result ℕ NoRoom} → Warned us out n out' (Ok m) → Warned vs out' m out'' r → Warned (us ++ vs) out n out'' r
  both_written f g = record { written = g.written ∙ rw (f.written, pushed-append us vs (slice_by out (Ok n))) refl; fits = g.fits }

-- none is written behind one that lacked room
pub first_shut : {us : List Warning} (vs : List Warning) {out out' : List ℕ} {n : ℕ} {e : NoRoom} → Warned us out n out' (Err e) → Warned (us ++ vs) out n out' (Err e)
first_shut {us} vs {out} {out'} {n} {e} f = record { written = rw (pushed-append us vs (slice_by out (Ok n)), ← f.written, all_shut vs out' e.used) refl; fits = f.fits }

pub warnings_append : (es fs : List Event) → warnings_in (es ++ fs) ≡ warnings_in es ++ warnings_in fs
unfolding warnings_in
warnings_append [] fs = refl
warnings_append (control c ∷ es) fs = warnings_append es fs
warnings_append (warn w ∷ es) fs = ap (λ (x : List Warning). w ∷ x) (warnings_append es fs)

-- ---- what n control points make ignored: what is declared, then the anchor
pub ignored_split : (n : ℕ) (sc : Scene) → (n ≡ 0 → ⊥) → ignored_with n sc ≡ ignored (leb 2 n && any_declared sc) ++ ignored (is_some (anchor_of sc))
unfolding ignored_with
ignored_split zero sc h = absurd (h refl)
ignored_split (suc zero) sc h = refl
ignored_split (suc (suc n)) sc h = rw (le-leb 2 (suc (suc n)) (omega arith)) refl
