use Rattle.cl_outside.specs.NameTables.{entry_of}
use Rattle.cl_outside.proofs.Entries.{entries-push}
use Rattle.cl_outside.proofs.file_table.FileTable.add.Goals as goal

pub returns-clause-entries : goal.returns-clause-entries
returns-clause-entries c =
    let v = c.self.view_is in let named = c.in_ok-name.ensures.ok in
    rw (← v, c.in_ok-push.ensures.items, ← named)
    (entries-push entry_of c.self.inside.list.items (c.in_ok-name.name, c.args.content) (rw (← v, ← named) at c.requires))
