-- A stream that the conditions before 7 let pass can be registered.
use Rattle.std.specs.Prelude.{◌≡◌, List, ℕ}
use Rattle.std.proofs.Common.{arith}
use Rattle.stream.specs.Payload.{payload}
use Rattle.records.specs.Inner.Refusals.{refusal_of}
use Rattle.records.specs.Laws.Refusals.{is-short, is_laid_out}
use Rattle.register.specs.declared.survey.Survey.{Survey}
use Rattle.register.specs.Inner.Survey.{Surveyed, Registrable}

pub is_registrable : (s : List ℕ) {v : Survey} → refusal_of s ≡ 0 → Surveyed (payload s) v → Registrable s v
is_registrable s h w = record { small = omega (arith, is-short s h); laid_out_is = is_laid_out s h; surveyed = w }
