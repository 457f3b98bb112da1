use Rattle.std.proofs.lemmas.Result.{err_from_is_err_and}
use Rattle.register.proofs.EventCounts.{only_features, none-warned}
use Rattle.register.proofs.PushedWarnings.{none_written}
use Rattle.register.proofs.WarningLaws.{names_told, features_shut, features_told}
use Rattle.register.proofs.warnings.warn_names.Goals as goal

pub returns-then-v-kept : goal.returns-then-v-kept
returns-then-v-kept c = rw (none-warned c.requires.0.surveyed c.requires.1.numbers c.if-v-kept.true) (none_written c.requires.2)

pub returns-in_err-f : goal.returns-in_err-f
returns-in_err-f c = let p = err_from_is_err_and c.from_residual.result c.from_residual.ensures.1 in rw (p.1, p.2) (features_shut _ c.in_err-f.ensures.warned)

pub returns-then-v-eq0 : goal.returns-then-v-eq0
returns-then-v-eq0 c = features_told _ c.in_ok-f.ensures.warned (only_features c.requires.0.surveyed c.if-v-eq0.true)

pub returns : goal.returns
returns c = names_told _ c.in_ok-f.ensures.warned c.warn_lons.ensures
