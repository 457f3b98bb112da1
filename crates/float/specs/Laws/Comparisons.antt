-- From `<` and its failing to the order. Assumes nothing.
use Rattle.std.specs.Prelude.{Bool, true, false, not, ℕ, ◌+◌, ◌*◌, T, Float}
use Rattle.std.proofs.Common.{arith, nltb→le}
use Rattle.std.specs.Float.{nan, inf, fin}
use Rattle.std.specs.Float.Ieee.{up, down, below, is_nan, lt, eq, le}
use Rattle.std.specs.Float.Ieee.Scale.{finite}
use Rattle.float.specs.Laws.Signed.{SLe, →leq}
use Rattle.float.specs.Laws.Intervals.{Between}
use Rattle.float.specs.Laws.Tests.{or_left}

pub lt→le : (x y : Float) → T (lt x y) → T (le x y)
unfolding le
lt→le x y t = or_left (lt x y) (eq x y) t

turn : (s : Bool) (a : ℕ) (t : Bool) (b : ℕ) → T (not (below s a t b)) → SLe t b s a
turn false a false b h = omega (arith, nltb→le a b h)
turn false a true b h = omega arith
turn true a false b h = omega (arith, nltb→le 0 (a + b) h)
turn true a true b h = omega (arith, nltb→le b a h)

pub not_lt : (x y : Float) → T (finite x) → T (finite y) → T (not (lt x y)) → T (le y x)
unfolding le
not_lt nan y p q h = absurd p
not_lt (inf s) y p q h = absurd p
not_lt (fin s m e) nan p q h = absurd q
not_lt (fin s m e) (inf t) p q h = absurd q
not_lt (fin s m e) (fin t n d) p q h = →leq t (n * up d * down e) s (m * up e * down d) (turn s (m * up e * down d) t (n * up d * down e) h)

-- a number, neither below lo nor above hi, lies between them
pub neither : (lo hi v : Float) → T (finite lo) → T (finite hi) → T (not (is_nan v)) → T (not (lt v lo)) → T (not (lt hi v)) → Between lo hi v
unfolding lt is_nan
neither nan hi v p q n h k = absurd p
neither (inf s) hi v p q n h k = absurd p
neither (fin s m e) nan v p q n h k = absurd q
neither (fin s m e) (inf t) v p q n h k = absurd q
neither (fin s m e) (fin t l d) nan p q n h k = absurd n
neither (fin s m e) (fin t l d) (inf true) p q n h k = absurd h
neither (fin s m e) (fin t l d) (inf false) p q n h k = absurd k
neither (fin s m e) (fin t l d) (fin u j f) p q n h k = record { low = not_lt (fin u j f) (fin s m e) tt tt h; high = not_lt (fin t l d) (fin u j f) tt tt k; fl = tt; fh = tt }
