use Rattle.std.proofs.Common.{arith}
use Rattle.names.proofs.Halves.{turned_up, turned_down}
use Rattle.names.proofs.table.find_near.Goals as goal

pub loop-lo-preserved : goal.loop-lo-preserved
loop-lo-preserved c =
    let i = c.loop-lo.invariant in
    let m = i.1 (omega arith) in
    grind (arith, m, turned_up i.0 m c.requires.1, turned_down i.0 m c.requires.1)
