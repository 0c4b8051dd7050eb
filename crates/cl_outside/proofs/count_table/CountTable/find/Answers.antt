use Rattle.cl_outside.specs.NameTables.{count_entry}
use Rattle.cl_outside.proofs.Entries.{found_position}
use Rattle.cl_outside.proofs.count_table.CountTable.find.Goals as goal

pub returns : goal.returns
returns c = rw (← c.self.view_is, c.position_of.ensures, c.as_slice.ensures.value) (found_position count_entry c.self.inside.list.items c.args.name.now)
