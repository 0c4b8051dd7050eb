use Rattle.std.proofs.Common.{◌≡◌, arith, ◌∙◌}
use Rattle.std.proofs.lemmas.Grind.{common_steps}
use Rattle.indexmap.proofs.CallerLemmas.{insert_entry-new}
use Rattle.cl_table.proofs.TableLemmas.{table_inserted}
use Rattle.cl_table.proofs.tables.Table.add.Goals as goal

pub returns-in-Ok-insert-clause-ok : goal.returns-in-Ok-insert-clause-ok
returns-in-Ok-insert-clause-ok g c = grind (arith, common_steps, insert_entry-new)

pub invariant_of-self : goal.invariant_of-self
invariant_of-self g c =
    let name : c.in-Ok.name ≡ g.D.Declared.own_name c.args.declaration = c.in-Ok.ensures ∙ c.name.ensures in
    table_inserted g.D.Declared.own_name c.insert.result c.self.inside.entries.entries c.insert.new.self.entries c.in-Ok.name c.args.declaration
    c.insert.ensures.entries c.insert.ensures.err name (rw (name, c.self.view_is) c.requires) c.self.invariant
