use native.Mathlib.Omega.{arith}
use Rattle.stream.specs.Inner.Payload.{rest}
use Rattle.stream.specs.Laws.Payload.{rest-length}
use Rattle.scene.specs.Laws.Found.{one_found, points_lie}
use Rattle.scene.proofs.Reading.{points_found}
use Rattle.scene.proofs.readers.points_of.Goals as goal

pub overflow_add-result : goal.overflow_add-result
overflow_add-result c = omega (arith, points_lie _ c.in-Ok.ensures)

pub overflow_add-h : goal.overflow_add-h
overflow_add-h c = omega (arith, points_lie _ c.in-Ok.ensures)

pub u16_at-requires : goal.u16_at-requires
u16_at-requires c = (omega arith, omega (arith, points_lie _ c.in-Ok.ensures, rest-length c.args.s.now 0))

pub returns : goal.returns
unfolding rest
returns c = let f = points_found (one_found c.in-Ok.ensures) c.u16_at.ensures in record { role_value = f.0; count_bound = f.1 }
