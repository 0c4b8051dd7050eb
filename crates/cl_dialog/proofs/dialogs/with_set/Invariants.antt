use Rattle.std.proofs.Common.{◌≡◌, ◌++◌, drop, map}
use Rattle.cl_dialog.specs.Held.{query_of}
use Rattle.cl_dialog.specs.Selected.{set_where}
use Rattle.cl_value.specs.Value.{data_of}
use Rattle.cl_dialog.proofs.dialogs.with_set.Given as goal

abbrev pub invariant-loop-query : goal.invariant-loop-query
invariant-loop-query l =
    map query_of l.all.items ++ map (set_where l.name (data_of l.value)) (map query_of (drop l.query-index l.queries))
    ≡ map (set_where l.name (data_of l.value)) (map query_of l.queries)
