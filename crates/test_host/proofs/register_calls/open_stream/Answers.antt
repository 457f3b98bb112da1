use Rattle.std.proofs.Common.{rules, sym}
use Rattle.register.specs.Laws.Registrable.{is_registrable}
use Rattle.test_host.specs.Inner.Answer.{answer_of}
use Rattle.test_host.proofs.Accepting.{counted}
use Rattle.test_host.proofs.register_calls.open_stream.Goals as goal

pub returns : goal.returns
unfolding answer_of
returns c =
    let none = c.in_ok-check_stream.ensures in
    let r = c.in_ok-r.ensures in
    record {
      is = rw (← none) r.value;
      comes =
          record {
            registrable = is_registrable _ (sym none) c.survey_stream-survey.ensures;
            controls = record { count = counted _ r.value; kept-room = search rules; numbers = r.kept };
          };
    }
