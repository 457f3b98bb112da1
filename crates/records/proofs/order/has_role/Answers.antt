use mathlib.Core.Path.{refl}
use Rattle.records.proofs.Steps.{role_some}
use Rattle.records.proofs.order.has_role.Goals as goal

pub returns-then-role : goal.returns-then-role
returns-then-role c = rw c.if-role.true refl

pub returns : goal.returns
returns c = role_some c.args.roles c.args.role c.if-role.false
