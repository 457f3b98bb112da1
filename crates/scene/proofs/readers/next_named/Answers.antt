use mathlib.Core.Path.{◌∙◌}
use native.Mathlib.Omega.{arith}
use Rattle.stream.specs.Inner.Payload.{rest}
use Rattle.stream.specs.Laws.Payload.{rest-length}
use Rattle.scene.specs.Laws.Found.{one_found, beyond}
use Rattle.scene.proofs.Reading.{named_key, name_begins, name_found}
use Rattle.scene.proofs.readers.next_named.Goals as goal

pub overflow_add-result : goal.overflow_add-result
overflow_add-result c = omega (arith, name_begins c.requires.0 c.requires.1 (one_found (rw (named_key c.args.wanted c.requires.0 c.requires.1) at c.in_ok-h.ensures)))

pub overflow_add-h : goal.overflow_add-h
overflow_add-h c = omega (arith, name_begins c.requires.0 c.requires.1 (one_found (rw (named_key c.args.wanted c.requires.0 c.requires.1) at c.in_ok-h.ensures)))

pub byte-requires : goal.byte-requires
byte-requires c = (omega arith, omega (arith, name_begins c.requires.0 c.requires.1 (one_found (rw (named_key c.args.wanted c.requires.0 c.requires.1) at c.in_ok-h.ensures)), rest-length c.args.s.now 0))

pub returns : goal.returns
unfolding rest
returns c =
    let o = one_found (rw (named_key c.args.wanted c.requires.0 c.requires.1) at c.in_ok-h.ensures) in
    record { none = tt; name_at = name_found c.requires.0 c.requires.1 o (c.from.ensures ∙ c.byte.ensures); skips_to = beyond o c.in_ok-h.ensures.skips_to }
