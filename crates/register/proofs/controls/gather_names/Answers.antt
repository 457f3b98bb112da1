use mathlib.Core.List.{[]}
use Rattle.stream.specs.Payload.{payload}
use Rattle.scene.specs.Scene.{scene_of}
use Rattle.register.proofs.GatheredBatches.{both_parts, features_alone, features_first, none-before-all, none_held}
use Rattle.register.proofs.EventCounts.{only_features}
use Rattle.register.proofs.controls.gather_names.Goals as goal

pub returns-then-v-eq0 : goal.returns-then-v-eq0
returns-then-v-eq0 c = let pre = c.requires in
    let sc = scene_of (payload c.args.s.now) in
    let h = c.gather_part-g.ensures [] [] (none_held pre.2) (none-before-all sc) in
    features_alone sc (only_features pre.0.surveyed c.if-v-eq0.true) h

pub returns : goal.returns
returns c = let pre = c.requires in
    let sc = scene_of (payload c.args.s.now) in
    let h = c.gather_part-g.ensures [] [] (none_held pre.2) (none-before-all sc) in
    both_parts sc (c.gather_part.ensures _ _ h (features_first sc))
