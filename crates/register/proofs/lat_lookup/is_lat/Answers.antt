use borrow.Author.Tests.{lt-leb}
use mathlib.Core.Path.{refl, sym, ◌∙◌}
use mathlib.Core.Bool.{false≢true}
use native.Mathlib.Omega.{arith}
use Rattle.stream.specs.Payload.{payload}
use Rattle.stream.specs.Laws.Payload.{payload-length}
use Rattle.records.specs.Records.{bytes_at}
use Rattle.register.specs.Register.{suffix_lat}
use Rattle.register.proofs.SuffixNames.{too_short, name-ends}
use Rattle.register.proofs.lat_lookup.is_lat.Goals as goal
use Rattle.register.proofs.lat_lookup.is_lat.Goals.{then-m-ge4, else-m-ge4}

pub returns-then-names_equal : goal.returns-then-names_equal
returns-then-names_equal c =
    let x = bytes_at (payload c.args.s.now) c.args.p c.args.n in
    elim c.if-m-ge4.branch [
      | then-m-ge4 w ↦ rw (name-ends (payload c.args.s.now) c.args.q c.args.m x suffix_lat (omega (arith, payload-length c.args.s.now)) refl w.if-m-ge4.true, ← w.names_equal.ensures, ← w.value-is, c.if-names_equal.true, ← c.name_is.ensures) refl
      | else-m-ge4 w ↦ absurd (false≢true (sym (lt-leb 4 c.args.m w.if-m-ge4.false) ∙ sym w.value-is ∙ c.if-names_equal.true))
    ]

pub returns-else-names_equal : goal.returns-else-names_equal
returns-else-names_equal c =
    let x = bytes_at (payload c.args.s.now) c.args.p c.args.n in
    elim c.if-m-ge4.branch [
      | then-m-ge4 w ↦ rw (name-ends (payload c.args.s.now) c.args.q c.args.m x suffix_lat (omega (arith, payload-length c.args.s.now)) refl w.if-m-ge4.true, ← w.names_equal.ensures, ← w.value-is, c.if-names_equal.false) refl
      | else-m-ge4 w ↦ rw c.if-names_equal.false (too_short (payload c.args.s.now) c.args.q c.args.m x suffix_lat (omega (arith, payload-length c.args.s.now)) refl w.if-m-ge4.false)
    ]
