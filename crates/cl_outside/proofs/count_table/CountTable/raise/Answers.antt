use Rattle.std.proofs.Common.{◌≡◌, refl, sym, ap, ◌∙◌}
use Rattle.cl_outside.specs.Memory.{one_more}
use Rattle.cl_outside.specs.Named.{updated, name_at, count_of}
use Rattle.cl_outside.specs.NameTables.{count_entry, counts_of}
use Rattle.cl_outside.proofs.Entries.{entries-set, found_read}
use Rattle.cl_outside.proofs.count_table.CountTable.raise.Goals as goal

pub returns : goal.returns
returns c =
    let v = c.self.view_is in
    let all = c.self.inside.list.items in
    let at = rw (← v) at c.requires in
    let name = name_at (counts_of all) c.args.place in
    let count : count_of (counts_of all) name ≡ c.index_mut-count.result.now.1 =
    rw (found_read count_entry all c.args.place c.index_mut-count.result.now at c.index_mut-count.ensures.value) refl in
    rw (← v) (entries-set count_entry all c.args.place c.index_mut-count.result.now (c.index_mut-count.result.now.0, c.raised-count.result) at c.index_mut-count.ensures.value refl
    ∙ ap (updated (counts_of all) name) (c.raised-count.ensures ∙ ap one_more (sym count)))
