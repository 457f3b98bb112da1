-- What an answer of `o.ok_or(e)` says of `o`, for other crates: nothing here asks by it. Assumes nothing.
use Rattle.std.specs.Prelude.{◌≡◌, refl, Option, Some, None, Ok, Err}
use Rattle.std.specs.Option.{ok_or}

pub was_some : {A E : Type 0} {o : Option A} (e : E) {x : A} → Ok x ≡ ok_or o e → o ≡ Some x
was_some {o = None} e h = cc
was_some {o = Some y} e h = cc

pub was_none : {A E : Type 0} {o : Option A} (e : E) {d : E} → Err d ≡ ok_or {T = A} o e → (o ≡ None) × (d ≡ e)
was_none {o = None} e h = (refl, cc)
was_none {o = Some y} e h = cc
