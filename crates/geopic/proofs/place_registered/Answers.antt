use mathlib.Core.Path.{refl, ◌∙◌}
use mathlib.Core.List.{[]}
use Rattle.register.specs.Register.{f0}
use Rattle.strokes.specs.Laws.Applying.{refused_some}
use Rattle.geopic.specs.Laws.Calls.{late_answer, late_buffers, accepted-answer, accepted_buffers}
use Rattle.geopic.specs.Laws.Clearing.{filled}
use Rattle.geopic.proofs.place_registered.Goals as goal

pub returns-in-Err : goal.returns-in-Err
returns-in-Err c = let s = c.args.s.now in
    let d = rw c.in-Err.is at c.write_output-drawn.ensures in
    record { value = late_answer s c.args.kinds.now c.args.tier (record { work = c.args.work.now; positions = c.args.positions.now; features = c.args.features.now; warnings = c.args.warnings.now }) c.requires.none d (refused_some _) c.refuse.ensures; warnings_after = late_buffers s c.args.kinds.now c.args.tier (record { work = c.args.work.now; positions = c.args.positions.now; features = c.args.features.now; warnings = c.args.warnings.now }) c.requires.none d (refused_some _) (c.fill.ensures.after (λ y e. e) ∙ filled f0 _) (c.fill-in-Err.ensures.after (λ y e. e) ∙ filled f0 _) (c.fill-in-Err-2.ensures.after (λ y e. e) ∙ filled 0 _) (c.fill-in-Err-3.ensures.after (λ y e. e) ∙ filled 0 _) }

pub returns-in-Ok : goal.returns-in-Ok
returns-in-Ok c = let s = c.args.s.now in
    let d = rw c.in-Ok.is at c.write_output-drawn.ensures in
    record { value = accepted-answer s c.args.kinds.now c.args.tier (record { work = c.args.work.now; positions = c.args.positions.now; features = c.args.features.now; warnings = c.args.warnings.now }) c.requires.none d refl c.requires.is (c.accept.ensures 0 [] [] []); warnings_after = accepted_buffers s c.args.kinds.now c.args.tier (record { work = c.args.work.now; positions = c.args.positions.now; features = c.args.features.now; warnings = c.args.warnings.now }) c.requires.none d refl (c.fill.ensures.after (λ y e. e) ∙ filled f0 _) }
