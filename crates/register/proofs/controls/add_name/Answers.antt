use Rattle.register.proofs.TableEntries.{insertable, added_by, added_none}
use Rattle.register.proofs.controls.add_name.Goals as goal

pub insert-requires : goal.insert-requires
insert-requires c = let o = c.requires in (insertable _ _ _ o.1 o.0.small, o.0.free, o.0.table)

pub returns-in-Some : goal.returns-in-Some
returns-in-Some c = added_by _ _ _ c.requires.1 c.in-Some.field-0 c.in-Some.is c.insert.ensures

pub returns-in-None : goal.returns-in-None
returns-in-None c = added_none c.in-None.is c.requires.0.table
