use Prim.Native.Nat.{◌≤◌}
use native.Mathlib.Omega.{arith}
use Rattle.register.proofs.ReadMentions.{read_lost, read_again, read_first, taken_name}
use Rattle.register.proofs.controls.read_mention.Goals as goal

pub returns-in_default-clause-reads : goal.returns-in_default-clause-reads
returns-in_default-clause-reads c = λ h. read_lost h _ c.in_default.is

pub returns-then-mark-eq0-clause-reads : goal.returns-then-mark-eq0-clause-reads
returns-then-mark-eq0-clause-reads c = λ h. read_again h _ c.in-Some.is (taken_name c.args.lons c.args.m c.requires.2.behind c.more_of.ensures c.take_mark-mark.ensures) c.if-mark-eq0.true

pub returns-clause-reads : goal.returns-clause-reads
returns-clause-reads c =
    let k = taken_name c.args.lons c.args.m c.requires.2.behind c.more_of.ensures c.take_mark-mark.ensures in
    let p = c.control_of.ensures in
    let z : 1 ≤ c.take_mark-mark.result = omega (arith, c.if-mark-eq0.false) in
    λ h. read_first h _ c.in-Some.is k z _ p.0 p.1 p.2 (c.put_control.ensures h.b h.cs h.js h.holds)
