use Rattle.std.proofs.Common.{[], ◌∷◌, refl, arith}
use Rattle.values.specs.declared.Point.{Point}
use Rattle.densify.specs.Densify.{without_draws}
use Rattle.values.specs.Points.{flats}
use Rattle.densify.specs.Laws.Writing.{written_short, written_all}
use Rattle.values.specs.Laws.Points.{put-point}
use Rattle.densify.proofs.append.put_point.Goals as goal

pub returns-then-work-at-lt2 : goal.returns-then-work-at-lt2
unfolding flats
returns-then-work-at-lt2 c = written_short _ _ _ _ (omega arith) refl refl

pub returns : goal.returns
unfolding flats
returns c = let p : Point = record { x = c.args.x; y = c.args.y } in
    written_all c.args.work.now c.args.at (without_draws (p ∷ []) c.args.budget) _ _ (omega arith) refl refl
    (put-point c.args.work.now c.args.at p (omega arith))
