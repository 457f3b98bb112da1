use Rattle.std.proofs.Common.{◌≡◌, Bool, sym, ap, ◌∙◌}
use lib.Ieee.{Float, binary64, of_bits, neg, add, sub, eq}
use Rattle.float.specs.Functions.{rem_euclid360_of}
use Rattle.float.specs.Laws.Tests.{taken, left}
use Rattle.elementary.specs.Constants as K
use Rattle.geodesy.specs.Geodesy.{normalize_lon_of}
use Rattle.geodesy.proofs.normalize_lon.Goals as goal
use Rattle.geodesy.proofs.normalize_lon.Goals.{After-rem_euclid_360-l}

tested : (c : After-rem_euclid_360-l) {b : Bool} → eq (sub binary64 c.rem_euclid_360-l.result K.c180) (neg K.c180) ≡ b → eq (sub binary64 (rem_euclid360_of (add binary64 c.args.lon K.c180)) K.c180) (neg K.c180) ≡ b
tested c h = ap (λ (v : Float). eq (sub binary64 v K.c180) (neg K.c180)) (sym c.rem_euclid_360-l.ensures) ∙ h

pub returns-then-l : goal.returns-then-l
unfolding normalize_lon_of of_bits neg
returns-then-l c = taken _ _ _ (tested c.before c.if-l.true)

pub returns : goal.returns
unfolding normalize_lon_of of_bits neg
returns c = ap (λ (v : Float). sub binary64 v K.c180) c.rem_euclid_360-l.ensures ∙ left _ _ _ (tested c.before c.if-l.false)
