use Rattle.scene.proofs.Reading.{variable_found}
use Rattle.scene.proofs.readers.next_variable.Goals as goal

pub returns-clause-p_value : goal.returns-clause-p_value
returns-clause-p_value c = variable_found c.in_ok-f.ensures.name_at c.float_at.ensures
