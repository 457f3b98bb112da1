use mathlib.Core.Path.{◌≡◌}
use lib.ListN.{drop}
use Rattle.stream.specs.Payload.{payload}
use Rattle.records.specs.Records.{bytes_at}
use Rattle.register.specs.Inner.Warnings.{any_name_is}
use Rattle.register.proofs.warnings.is_feature_name.Given as goal

abbrev pub invariant-loop-p : goal.invariant-loop-p
invariant-loop-p l = any_name_is (payload l.s) l.positions (bytes_at (payload l.s) l.at l.n) ≡ any_name_is (payload l.s) (drop l.p-index l.positions) (bytes_at (payload l.s) l.at l.n)
