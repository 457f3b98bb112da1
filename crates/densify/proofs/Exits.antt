-- What the exit of a `?` says of the points. Assumes nothing.
use Rattle.std.proofs.Common.{◌≡◌, refl, Result, Ok, Err, None}
use Rattle.std.proofs.lemmas.Bool.{false≢true}
use Rattle.std.specs.Result.{result_ok, IsErr}

pub none_written : {A E : Type 0} (r : Result A E) → IsErr r → result_ok r ≡ None
none_written (Ok x) h = absurd (false≢true h)
none_written (Err e) h = refl
