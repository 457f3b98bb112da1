use Rattle.stream.specs.Inner.Payload.{rest}
use Rattle.scene.proofs.Reading.{place_found}
use Rattle.scene.proofs.readers.next_place.Goals as goal

pub returns-clause-p_value : goal.returns-clause-p_value
unfolding rest
returns-clause-p_value c = place_found c.in_ok-f.ensures.name_at c.point_from-x.ensures c.byte.ensures c.u32_at.ensures c.u32_at-2.ensures
