use mathlib.Core.Path.{◌∙◌}
use native.Mathlib.Omega.{arith}
use Rattle.stream.specs.Inner.Payload.{rest}
use Rattle.stream.specs.Laws.Payload.{rest-length}
use Rattle.scene.specs.Laws.Found.{one_found}
use Rattle.scene.specs.Laws.Items.{item_begins_lem, label_ends, item_stands, item_found}
use Rattle.scene.proofs.readers.next_item.Goals as goal

pub overflow_add-at : goal.overflow_add-at
overflow_add-at c = omega (arith, item_begins_lem (one_found c.in_ok-h.ensures))

pub byte-requires : goal.byte-requires
byte-requires c = (omega arith, omega (arith, item_begins_lem (one_found c.in_ok-h.ensures), rest-length c.args.s.now 0))

pub overflow_add-at-2 : goal.overflow_add-at-2
unfolding rest
overflow_add-at-2 c = omega (arith, label_ends (one_found c.in_ok-h.ensures) (c.from-n.ensures ∙ c.byte.ensures))

pub overflow_add-at-3 : goal.overflow_add-at-3
unfolding rest
overflow_add-at-3 c = omega (arith, label_ends (one_found c.in_ok-h.ensures) (c.from-n.ensures ∙ c.byte.ensures))

pub byte-m-requires : goal.byte-m-requires
unfolding rest
byte-m-requires c = (omega arith, omega (arith, label_ends (one_found c.in_ok-h.ensures) (c.from-n.ensures ∙ c.byte.ensures), rest-length c.args.s.now 0))

pub item_at-requires : goal.item_at-requires
unfolding rest
item_at-requires c = item_stands (one_found c.in_ok-h.ensures) (c.from-n.ensures ∙ c.byte.ensures) c.byte-m.ensures

pub returns : goal.returns
unfolding rest
returns c =
    let f = item_found (one_found c.in_ok-h.ensures) (c.from-n.ensures ∙ c.byte.ensures) c.item_at.result c.item_at.ensures.result_value c.item_at.ensures.position in
    record { p_value = f.0; within = f.1; p_le_end = tt }
