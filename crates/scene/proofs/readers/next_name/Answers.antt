use Rattle.scene.proofs.Reading.{feature_found}
use Rattle.scene.proofs.readers.next_name.Goals as goal

pub returns-clause-p_value : goal.returns-clause-p_value
returns-clause-p_value c = feature_found c.in_ok-f.ensures.name_at
