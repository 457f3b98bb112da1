use mathlib.Core.Path.{sym}
use native.Mathlib.Omega.{arith}
use Rattle.std.proofs.lemmas.Result.{err_from_is_err_and}
use Rattle.register.specs.Laws.Registrable.{is_registrable}
use Rattle.geopic.specs.Laws.Calls.{table_opens, stream_opens, registration_opens, registered_opens}
use Rattle.geopic.proofs.open_stream.Goals as goal

pub returns-in_err-check_table : goal.returns-in_err-check_table
returns-in_err-check_table c =
    let failed = err_from_is_err_and c.from_residual.result c.from_residual.ensures.1 in
    rw (failed.1, failed.2) (table_opens c.args.s.now c.args.kinds.now c.in_err-check_table.ensures)

pub returns-in_err-check_stream : goal.returns-in_err-check_stream
returns-in_err-check_stream c =
    let failed = err_from_is_err_and c.from_residual-in_err-check_stream.result c.from_residual-in_err-check_stream.ensures.1 in
    rw (failed.1, failed.2) (stream_opens c.args.s.now c.args.kinds.now (sym c.in_ok-check_table.ensures) c.in_err-check_stream.ensures)

pub register-requires : goal.register-requires
register-requires c = (is_registrable c.args.s.now (sym c.in_ok-check_stream.ensures) c.survey_stream-survey.ensures, c.requires)

pub returns-in_err-r : goal.returns-in_err-r
returns-in_err-r c =
    let failed = err_from_is_err_and c.from_residual-in_err-r.result c.from_residual-in_err-r.ensures.1 in
    rw (failed.1, failed.2) (registration_opens c.args.s.now c.args.kinds.now (sym c.in_ok-check_table.ensures) (sym c.in_ok-check_stream.ensures) c.in_err-r.ensures.value)

pub returns : goal.returns
returns c =
    registered_opens c.args.s.now c.args.kinds.now (sym c.in_ok-check_table.ensures) (sym c.in_ok-check_stream.ensures) c.in_ok-r.ensures.value c.survey_stream-survey.ensures (omega (arith, c.requires)) c.in_ok-r.ensures.kept
