use Rattle.cl_outside.specs.NameTables.{count_entry}
use Rattle.cl_outside.proofs.Entries.{entries-push}
use Rattle.cl_outside.proofs.count_table.CountTable.add.Goals as goal

pub returns-clause-counts : goal.returns-clause-counts
returns-clause-counts c =
    let v = c.self.view_is in let named = c.in_ok-name.ensures.ok in
    rw (← v, c.in_ok-push.ensures.items, ← named)
    (entries-push count_entry c.self.inside.list.items (c.in_ok-name.name, 0) (rw (← v, ← named) at c.requires))
