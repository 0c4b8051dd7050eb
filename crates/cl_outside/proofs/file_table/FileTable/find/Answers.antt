use Rattle.cl_outside.specs.NameTables.{entry_of}
use Rattle.cl_outside.proofs.Entries.{found_position}
use Rattle.cl_outside.proofs.file_table.FileTable.find.Goals as goal

pub returns : goal.returns
returns c = rw (← c.self.view_is, c.position_of.ensures, c.as_slice.ensures.value) (found_position entry_of c.self.inside.list.items c.args.name.now)
