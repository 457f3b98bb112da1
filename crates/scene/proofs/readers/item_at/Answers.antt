use mathlib.Core.Path.{refl, sym, ◌∙◌}
use native.Mathlib.Omega.{arith}
use Rattle.stream.specs.Payload.{payload}
use Rattle.stream.specs.Inner.Payload.{rest}
use Rattle.stream.specs.Laws.Payload.{payload-length}
use Rattle.scene.specs.Laws.Widths.{at_within, w_within, h_within, r_within, rad_within}
use Rattle.scene.specs.Laws.Items.{kind_fits, value_fits, value-is, item-is}
use Rattle.scene.proofs.readers.item_at.Goals as goal

pub of_byte-requires : goal.of_byte-requires
unfolding rest
of_byte-requires c = kind_fits _ c.requires c.byte.ensures

pub point_if-requires : goal.point_if-requires
point_if-requires c = λ e. omega (arith, c.requires, payload-length c.args.s.now, at_within _ c.requires.bits (sym c.has_bit-6.ensures ∙ e))

pub float_if-requires : goal.float_if-requires
float_if-requires c = value_fits _ c.requires 2 c.has_bit-7.ensures c.from-has.ensures c.values_width.ensures.0 (w_within _ c.requires.bits)

pub float_if-requires-2 : goal.float_if-requires-2
float_if-requires-2 c = value_fits _ c.requires 4 c.has_bit-8.ensures c.from-has.ensures c.values_width-2.ensures.0 (h_within _ c.requires.bits)

pub float_if-requires-3 : goal.float_if-requires-3
float_if-requires-3 c = value_fits _ c.requires 8 c.has_bit-9.ensures c.from-has.ensures c.values_width-3.ensures.0 (r_within _ c.requires.bits)

pub float_if-requires-4 : goal.float_if-requires-4
float_if-requires-4 c = value_fits _ c.requires 16 c.has_bit-10.ensures c.from-has.ensures c.values_width-4.ensures.0 (rad_within _ c.requires.bits)

pub returns : goal.returns
unfolding rest
returns c = let m = c.from-has.ensures in record {
  result_value = item-is (payload c.args.s.now) c.requires _
      c.byte-flags.ensures
      (c.of_byte.ensures ∙ c.byte.ensures)
      c.has_bit.ensures
      c.has_bit-2.ensures
      c.has_bit-3.ensures
      c.has_bit-4.ensures
      c.has_bit-5.ensures
      refl
      refl
      c.u32_at.ensures
      c.u32_at-2.ensures
      (rw (← c.has_bit-6.ensures) c.point_if.ensures)
      (value-is _ c.requires 2 c.has_bit-7.ensures m c.values_width.ensures.0 c.float_if.ensures)
      (value-is _ c.requires 4 c.has_bit-8.ensures m c.values_width-2.ensures.0 c.float_if-2.ensures)
      (value-is _ c.requires 8 c.has_bit-9.ensures m c.values_width-3.ensures.0 c.float_if-3.ensures)
      (value-is _ c.requires 16 c.has_bit-10.ensures m c.values_width-4.ensures.0 c.float_if-4.ensures)
      refl;
  position = (refl, refl, refl);
}
