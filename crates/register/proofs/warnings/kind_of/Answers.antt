use mathlib.Core.Path.{refl}
use Rattle.register.proofs.KeptNumbers.{kind_told}
use Rattle.register.proofs.warnings.kind_of.Goals as goal
use Rattle.register.proofs.warnings.kind_of.Goals.{else-is_some-via-then-is_some+else-is_feature_name, else-is_some-via-else-is_some}

pub returns-then-is_feature_name : goal.returns-then-is_feature_name
returns-then-is_feature_name c = rw (kind_told c.args.m.lat _, ← c.is_some.ensures, c.if-is_some.true, ← c.is_feature_name.ensures, c.if-is_feature_name.true) refl

pub returns-else-is_some : goal.returns-else-is_some
returns-else-is_some c =
    elim c.else-is_some.branch [
      | else-is_some-via-then-is_some+else-is_feature_name w ↦ rw (kind_told c.args.m.lat _, ← c.is_some.ensures, w.if-is_some.true, ← w.is_feature_name.ensures, w.if-is_feature_name.false) refl
      | else-is_some-via-else-is_some w ↦ rw (kind_told c.args.m.lat _, ← c.is_some.ensures, w.if-is_some.false) refl
    ]
