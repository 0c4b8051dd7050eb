use Rattle.std.proofs.Common.{◌≡◌, ◌++◌, drop}
use Rattle.cl_translators.specs.Groups.{low_in}
use Rattle.cl_translators.proofs.order.add_low.Given as goal

abbrev pub invariant-loop-table : goal.invariant-loop-table
invariant-loop-table l =
    l.translators.items ++ low_in l.groups (drop l.table-index l.order) l.low ≡ l.initial.translators.items ++ low_in l.groups l.order l.low
