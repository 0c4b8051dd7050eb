use Rattle.std.proofs.Common.{sym, ◌∙◌}
use Rattle.cl_outside.proofs.Files.{ok_not_err, grown_on_ok, fits, entries-appended, room-appended}
use Rattle.cl_outside.proofs.file_table.FileTable.append.Goals as goal

pub unreachable-requires : goal.unreachable-requires
unreachable-requires c =
    let v = c.self.view_is in
    ok_not_err c.extend_from_slice.result
    (c.extend_from_slice.ensures.succeeds (fits c.self.inside.list.items c.args.place c.index_mut-file.result.now (rw (← v) at c.requires.first) c.index_mut-file.ensures.value
    c.args.bytes.now (rw (← v) at c.requires.room)))
    (sym c.is_err.ensures.value ∙ c.if-is_err.true)

pub returns-clause-entries : goal.returns-clause-entries
returns-clause-entries c =
    let v = c.self.view_is in
    rw (← v) (entries-appended c.self.inside.list.items c.args.place c.index_mut-file.result.now (rw (← v) at c.requires.first) c.index_mut-file.ensures.value
    c.extend_from_slice.new.self c.args.bytes.now
    (grown_on_ok c.extend_from_slice.result c.extend_from_slice.new.self.items _ _ (sym c.is_err.ensures.value ∙ c.if-is_err.false) c.extend_from_slice.ensures.items))

pub returns-clause-room : goal.returns-clause-room
returns-clause-room c =
    let v = c.self.view_is in
    rw (← v) (room-appended c.self.inside.list.items c.args.place c.index_mut-file.result.now (rw (← v) at c.requires.first) c.index_mut-file.ensures.value
    c.extend_from_slice.new.self c.extend_from_slice.ensures.capacity)
