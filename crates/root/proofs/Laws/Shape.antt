-- Every value of the format that is finite and above zero has the form that `Form` speaks of. Assumes nothing.
use Rattle.std.specs.Prelude.{false, ◌+◌, ◌*◌, ◌/◌, ◌^◌, ◌<◌, T, Float}
use Rattle.std.proofs.Common.{sym, ap, ◌∙◌, subst, pow_pos}
use Rattle.std.specs.Float.{binary64}
use Rattle.std.specs.Float.Ieee.{fits}
use Rattle.std.specs.Float.Ieee.Exact.{HasValue}
use Rattle.std.specs.Float.Ieee.Positive.{positive, value_pos, first_pos}
use Rattle.root.specs.Root.{root_at}
use Rattle.root.specs.Laws.Patterns.{root_of_value}
use Rattle.root.specs.Laws.Shape.{in_units, Shaped, shaped, Rooted, positive_plain}
use Rattle.root.proofs.Laws.Form.{root_value}

pub rooted : (x : Float) → T (positive x) → T (fits binary64 x) → Rooted x
rooted x p f =
    let v = in_units x (positive_plain x p) f in
    let N : 0 < v.q * 2 ^ v.i = value_pos x (v.q * 2 ^ v.i) (2 ^ 1074) p (pow_pos 1074) v.size_of in
    let S : Shaped (v.q * 2 ^ v.i * 2 ^ 1076) = shaped v.q v.i (first_pos v.q (2 ^ v.i) N) v.short v.finite in
    record {
      units = v.q * 2 ^ v.i;
      value = v.size_of;
      shape = S;
      root =
          subst (λ (z : Float). HasValue z false ((S.p + 1) / 2 * 2 ^ S.j) (2 ^ 1074))
          (sym (root_of_value x (v.q * 2 ^ v.i) v.size_of N ∙ ap root_at S.is))
          (root_value S.a S.p S.j S.whole S.even S.lo S.hi S.fine);
    }
