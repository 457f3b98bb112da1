use mathlib.Core.Path.{◌≡◌, ◌∙◌}
use mathlib.Core.Bool.{◌&&◌}
use mathlib.Core.Logic.{inl, inr}
use Rattle.register.specs.Register.{within_limits}
use Rattle.register.proofs.TallyLaws.{both, put_full, put-more}
use Rattle.register.proofs.controls.put_control.Goals as goal
use Rattle.register.proofs.controls.put_control.Goals.{then-g, else-g}

pub returns-then-n-ge-MAX_CONTROLS : goal.returns-then-n-ge-MAX_CONTROLS
returns-then-n-ge-MAX_CONTROLS c =
    let ok : c.if-g.within ≡ (c.args.g.within && within_limits c.args.c.lon c.args.c.lat) = both _ _ (elim c.if-g.branch [ then-g w ↦ inl (w.if-g.true, w.within-is ∙ w.is_within_limits-within.ensures) | else-g w ↦ inr (w.if-g.false, w.within-is ∙ w.if-g.false) ]) in
    λ b cs js h. put_full h _ _ ok c.if-n-ge-MAX_CONTROLS.true

pub returns : goal.returns
returns c =
    let ok : c.if-g.within ≡ (c.args.g.within && within_limits c.args.c.lon c.args.c.lat) = both _ _ (elim c.if-g.branch [ then-g w ↦ inl (w.if-g.true, w.within-is ∙ w.is_within_limits-within.ensures) | else-g w ↦ inr (w.if-g.false, w.within-is ∙ w.if-g.false) ]) in
    λ b cs js h. put-more h _ _ ok c.if-n-ge-MAX_CONTROLS.false
