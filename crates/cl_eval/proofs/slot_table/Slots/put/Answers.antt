use Rattle.std.proofs.Common.{◌≡◌, ◌∙◌, ap, sym, map, position, Some, None}
use Rattle.cl_value.specs.Value.{data_of}
use Rattle.cl_eval.specs.Slots.{is_named, put, entry_of}
use Rattle.cl_eval.proofs.SlotLemmas.{put-found, put-new}
use Rattle.cl_eval.proofs.slot_table.Slots.put.Goals as goal

pub returns-in-Some-clause-ok : goal.returns-in-Some-clause-ok
returns-in-Some-clause-ok c =
    let found : position (is_named c.args.name) c.self.inside.entries.items ≡ Some c.in-Some.at = cc in
    ap (map entry_of) c.set_entry.ensures
    ∙ (sym (put-found c.args.name c.args.value c.self.inside.entries.items c.in-Some.at found)
    ∙ ap (put c.args.name (data_of c.args.value)) c.self.view_is)

pub returns-in_ok-push-in-None-clause-ok : goal.returns-in_ok-push-in-None-clause-ok
returns-in_ok-push-in-None-clause-ok c =
    let none : position (is_named c.args.name) c.self.inside.entries.items ≡ None = cc in
    ap (map entry_of) c.in_ok-push-in-None.ensures.items
    ∙ (sym (put-new c.args.name c.args.value c.self.inside.entries.items none)
    ∙ ap (put c.args.name (data_of c.args.value)) c.self.view_is)
