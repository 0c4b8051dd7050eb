use Rattle.std.proofs.Common.{◌≡◌, ◌++◌, drop}
use Rattle.cl_tables.specs.Accessible.{commands_in, commands_of}
use Rattle.cl_tables.proofs.groups.commands_in.Given as goal

abbrev pub invariant-loop-table : goal.invariant-loop-table
invariant-loop-table l = l.commands.items ++ commands_in (drop l.table-index l.order) (commands_of l.places) ≡ commands_in l.order (commands_of l.places)
