use native.Mathlib.Omega.{arith}
use Rattle.stream.specs.Inner.Payload.{rest}
use Rattle.stream.specs.Laws.Payload.{rest-length}
use Rattle.scene.specs.Laws.Found.{one_found, path_lies, cubics_lie}
use Rattle.scene.proofs.Reading.{curve_found, polyline_found}
use Rattle.scene.proofs.readers.next_path.Goals as goal

pub overflow_add-at : goal.overflow_add-at
overflow_add-at c = omega (arith, path_lies _ c.in_ok-h.ensures)

pub byte-closed-requires : goal.byte-closed-requires
byte-closed-requires c = (omega arith, omega (arith, path_lies _ c.in_ok-h.ensures, rest-length c.args.s.now 0))

pub overflow_add-at-2 : goal.overflow_add-at-2
overflow_add-at-2 c = omega (arith, path_lies _ c.in_ok-h.ensures)

pub byte-requires : goal.byte-requires
byte-requires c = (omega arith, omega (arith, path_lies _ c.in_ok-h.ensures, rest-length c.args.s.now 0))

pub overflow_add-result : goal.overflow_add-result
overflow_add-result c = omega (arith, cubics_lie _ c.in_ok-h.ensures c.byte.ensures c.if-byte.true)

pub overflow_add-result-then-byte : goal.overflow_add-result-then-byte
overflow_add-result-then-byte c = omega (arith, cubics_lie _ c.in_ok-h.ensures c.byte.ensures c.if-byte.true)

pub overflow_add-at-then-byte : goal.overflow_add-at-then-byte
overflow_add-at-then-byte c = omega (arith, cubics_lie _ c.in_ok-h.ensures c.byte.ensures c.if-byte.true)

pub u16_at-requires : goal.u16_at-requires
u16_at-requires c = (omega arith, omega (arith, cubics_lie _ c.in_ok-h.ensures c.byte.ensures c.if-byte.true, rest-length c.args.s.now 0))

pub returns-then-byte : goal.returns-then-byte
unfolding rest
returns-then-byte c =
    let f = curve_found (one_found c.in_ok-h.ensures) c.byte-closed.ensures c.byte.ensures c.if-byte.true c.u16_at.ensures in
    record { role_value = f.0; path_within = f.1; p_le_end = tt }

pub overflow_add-result-2 : goal.overflow_add-result-2
overflow_add-result-2 c = omega (arith, path_lies _ c.in_ok-h.ensures)

pub overflow_add-result-3 : goal.overflow_add-result-3
overflow_add-result-3 c = omega (arith, path_lies _ c.in_ok-h.ensures)

pub overflow_add-at-3 : goal.overflow_add-at-3
overflow_add-at-3 c = omega (arith, path_lies _ c.in_ok-h.ensures)

pub u16_at-requires-2 : goal.u16_at-requires-2
u16_at-requires-2 c = (omega arith, omega (arith, path_lies _ c.in_ok-h.ensures, rest-length c.args.s.now 0))

pub returns : goal.returns
unfolding rest
returns c =
    let f = polyline_found (one_found c.in_ok-h.ensures) c.byte-closed.ensures c.byte.ensures c.if-byte.false c.u16_at-2.ensures in
    record { role_value = f.0; path_within = f.1; p_le_end = tt }
