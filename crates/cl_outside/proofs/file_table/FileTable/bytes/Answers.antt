use Rattle.cl_outside.specs.NameTables.{entry_of}
use Rattle.cl_outside.proofs.Entries.{found_read}
use Rattle.cl_outside.proofs.file_table.FileTable.bytes.Goals as goal

pub returns : goal.returns
returns c =
    let v = c.self.view_is in
    rw (← v, c.as_slice.ensures.value) (found_read entry_of c.self.inside.list.items c.args.place c.index.result.now (rw (← v) at c.requires) c.index.ensures)
