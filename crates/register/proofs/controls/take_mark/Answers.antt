use Rattle.register.proofs.Known.{taken_none, taken_found}
use Rattle.register.proofs.controls.take_mark.Goals as goal

pub returns-in-Ok : goal.returns-in-Ok
returns-in-Ok c = taken_found c.requires.2 _ c.in-Ok.ensures.within _ c.in-Ok.ensures.is c.unmark.ensures.0 c.unmark.ensures.1

pub returns-in-Err : goal.returns-in-Err
returns-in-Err c = taken_none c.requires.2 c.in-Err.ensures
