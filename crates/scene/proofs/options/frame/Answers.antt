use Rattle.std.specs.Prelude.{Some}
use mathlib.Core.Path.{◌≡◌, ap, ◌∙◌}
use native.Mathlib.Omega.{arith}
use lib.ListN.{get_or}
use lib.Seq.{get_or-drop}
use Rattle.stream.specs.Payload.{payload}
use Rattle.stream.specs.Inner.Payload.{rest}
use Rattle.stream.specs.Laws.Payload.{payload-length, rest-length}
use Rattle.records.specs.Records.{option_width}
use Rattle.scene.specs.Scene.{scene_of}
use Rattle.scene.specs.Laws.Found.{option_fits_lem, option-first, frame_bound}
use Rattle.scene.proofs.options.frame.Goals as goal

pub byte-requires : goal.byte-requires
unfolding option_width
byte-requires c = let s = c.args.s.now in
    (omega arith, omega (arith, option_fits_lem c.in_ok-p.ensures.present, payload-length s, rest-length s 0))

pub returns : goal.returns
unfolding scene_of rest
returns c =
    let o = c.in_ok-p.ensures.present in
    let e : 1 ≡ get_or (payload c.args.s.now) c.in_ok-p.p 0 = omega (arith, c.byte.ensures, frame_bound o, c.if-byte-eq0.false) in
    ap Some e ∙ option-first o (λ b q. get_or b q 0) (get_or-drop o.at _ 2 0)
