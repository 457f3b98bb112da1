use Rattle.register.proofs.TableEntries.{fills_none, fills_more}
use Rattle.register.proofs.controls.fill_batch.Goals as goal

pub loop-n-init : goal.loop-n-init
loop-n-init c = fills_none c.requires.1

pub loop-n-preserved : goal.loop-n-preserved
loop-n-preserved c = fills_more c.loop-n.invariant c.in-Ok.m c.in-Ok.ensures (rw c.more_of-more.ensures at c.add_name-n.ensures)
