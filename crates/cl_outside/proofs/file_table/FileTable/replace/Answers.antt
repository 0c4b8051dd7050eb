use Rattle.std.proofs.Common.{refl}
use Rattle.cl_outside.specs.NameTables.{entry_of, room_of}
use Rattle.cl_outside.proofs.Entries.{entries-set, number_written, first_below}
use Rattle.cl_outside.proofs.file_table.FileTable.replace.Goals as goal

pub returns-clause-entries : goal.returns-clause-entries
returns-clause-entries c =
    let v = c.self.view_is in
    rw (← v) (entries-set entry_of c.self.inside.list.items c.args.place c.index_mut-file.result.now (c.index_mut-file.result.now.0, c.args.content)
    (rw (← v) at c.requires) c.index_mut-file.ensures.value refl)

pub returns-clause-room : goal.returns-clause-room
returns-clause-room c =
    let v = c.self.view_is in
    number_written room_of c.self.inside.list.items c.args.place (c.index_mut-file.result.now.0, c.args.content)
    (first_below entry_of c.self.inside.list.items c.args.place (rw (← v) at c.requires))
