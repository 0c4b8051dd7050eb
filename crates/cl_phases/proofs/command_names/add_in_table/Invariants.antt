use Rattle.std.proofs.Common.{◌≡◌, ◌++◌, drop}
use Rattle.cl_phases.specs.CommandNames.{in_table}
use Rattle.cl_phases.proofs.command_names.add_in_table.Given as goal

abbrev pub invariant-loop-one : goal.invariant-loop-one
invariant-loop-one l = l.names.items ++ in_table l.table (drop l.one-index l.found) ≡ l.initial.names.items ++ in_table l.table l.found
