-- Which of the four values stands at a quadrant. Assumes nothing.
use Rattle.std.proofs.Common.{◌≡◌, true, false, ◌∙◌}
use lib.Ieee.{Float, eq}
use Rattle.float.specs.Laws.Tests.{taken, left}
use Rattle.elementary.specs.Constants as K
use Rattle.elementary.specs.Functions.{quarter}

module _ (q a b c d : Float) where
  pub first : eq q K.zero ≡ true → a ≡ quarter q a b c d
  first h = taken _ _ _ h

  pub second : eq q K.zero ≡ false → eq q K.one ≡ true → b ≡ quarter q a b c d
  second g h = taken _ _ _ h ∙ left _ _ _ g

  pub third : eq q K.zero ≡ false → eq q K.one ≡ false → eq q K.two ≡ true → c ≡ quarter q a b c d
  third f g h = taken _ _ _ h ∙ left _ _ _ g ∙ left _ _ _ f

  pub fourth : eq q K.zero ≡ false → eq q K.one ≡ false → eq q K.two ≡ false → d ≡ quarter q a b c d
  fourth f g h = left _ _ _ h ∙ left _ _ _ g ∙ left _ _ _ f
