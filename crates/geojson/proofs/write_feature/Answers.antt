use Rattle.std.proofs.Common.{◌+◌, length, refl, arith, leb-false}
use borrow.Rule.Slice.PartMut.{Post-is}
use Rattle.values.specs.Slices.{put}
use Rattle.geojson.proofs.write_feature.Goals as goal

pub returns-clause-feature_written : goal.returns-clause-feature_written
unfolding put
returns-clause-feature_written c =
    let a = c.args in
    record {
      fits = λ t. rw (c.copy_from_slice.ensures.after, Post-is a.at (a.at + 6) a.out.now (omega arith)) refl;
      short = λ t. absurd (omega (arith, leb-false (a.at + 6) (length a.out.now) t));
    }
